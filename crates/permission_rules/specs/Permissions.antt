-- Document 01's CreatePermission and ChannelBind: the checks with their codes in order, and what the accepted request does to its slot.
use Rattle.std.specs.Prelude.{ℕ, Bool, true, false, not, List, [], ◌∷◌, Option}
use Rattle.choice.specs.Choice.{pick, any}
use Rattle.address.specs.declared.TransportAddress.{TransportAddress}
use Rattle.stun.specs.declared.kinds.Method.TheVariants.{CreatePermission, ChannelBind}
use Rattle.stun.specs.Values.{transaction_id_of, peer_or_nobody, peers, first_peer}
use Rattle.messages.specs.Messages.{bare_success}
use Rattle.slot.specs.declared.Slot.{Slot}
use Rattle.slot.specs.Slot.{is_channel_number, permit, number_taken, peer_taken, bind, Placed}
use Rattle.rules.specs.declared.requests.ClientCall.{ClientCall}
use Rattle.rules.specs.Change.{Change, write, to_client, check, respond}
use Rattle.rules.specs.Values.{channel_number, missing, number_given, is_ipv6, none, malformed_peer, ipv6_peer}
use Rattle.rules.specs.Requests.{own_code}

-- ---- CreatePermission

unfoldable pub permit_peer : ℕ → Option TransportAddress → Slot → Placed
permit_peer time v slot = permit time (peer_or_nobody v).address slot

-- 'Then, in order of appearance, a live permission for the IP address .. or the lowest entry that isn't live takes it'; `done` is the
-- slot with those before
unfoldable pub permit_all : ℕ → List (Option TransportAddress) → Slot → Slot → Placed
permit_all time [] was done = record { ok = true; slot = done }
permit_all time (v ∷ rest) was done =
    let one = permit_peer time v done in
    pick one.ok (permit_all time rest was one.slot) (record { ok = false; slot = was })

-- '437, 441 as above; no peer address 400; any malformed 400; any IPv6 443. .. if neither exists for some address, 508'; request 2: '403 after 443 and
-- before the other checks'. The rule is told whether the request names a denied peer
unfoldable pub create_permission_code : ClientCall → List ℕ → (denied own : Bool) → Slot → ℕ
create_permission_code call s denied own slot =
    own_code call s own slot
    (check (none (peers s)) 400
    (check (any malformed_peer (peers s)) 400
    (check (any ipv6_peer (peers s)) 443
    (check denied 403
    (check (not (permit_all call.time (peers s) slot slot).ok) 508
    0)))))

unfoldable pub create_permission : ClientCall → List ℕ → (denied own : Bool) → Slot → Change
create_permission call s denied own slot =
    respond call.five_tuple CreatePermission s (create_permission_code call s denied own slot)
    (write (permit_all call.time (peers s) slot slot).slot
    (to_client call.five_tuple (bare_success CreatePermission (transaction_id_of s))))

-- ---- ChannelBind

-- '437, 441; number missing or not 4 bytes 400; peer missing or malformed 400; number outside 0x4000 to 0x4FFF 400; IPv6 443; number live for
-- another peer 400; peer live on another number 400; no room for the permission 508; none for the channel 508.' Request 2: '403 after 443 and before
-- the other checks'
unfoldable pub channel_bind_code : ClientCall → List ℕ → (denied own : Bool) → Slot → ℕ
channel_bind_code call s denied own slot =
    let number = number_given (channel_number s) in
    let peer = peer_or_nobody (first_peer s) in
    let permitted = permit call.time peer.address slot in
    own_code call s own slot
    (check (missing (channel_number s)) 400
    (check (malformed_peer (first_peer s)) 400
    (check (not (is_channel_number number)) 400
    (check (is_ipv6 peer.address) 443
    (check denied 403
    (check (number_taken call.time number peer slot.channels) 400
    (check (peer_taken call.time number peer slot.channels) 400
    (check (not permitted.ok) 508
    (check (not (bind call.time number peer permitted.slot).ok) 508
    0)))))))))

-- 'Both entries are chosen as a permission's is above': the permission's, and then the channel's
unfoldable pub bound : ℕ → ℕ → TransportAddress → Slot → Slot
bound time number peer slot = (bind time number peer (permit time peer.address slot).slot).slot

unfoldable pub channel_bind : ClientCall → List ℕ → (denied own : Bool) → Slot → Change
channel_bind call s denied own slot =
    let number = number_given (channel_number s) in
    let peer = peer_or_nobody (first_peer s) in
    respond call.five_tuple ChannelBind s (channel_bind_code call s denied own slot)
    (write (bound call.time number peer slot)
    (to_client call.five_tuple (bare_success ChannelBind (transaction_id_of s))))
