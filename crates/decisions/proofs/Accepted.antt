-- What an accepted request says of its checks, and what it does to its slot.
use Prim.Native.Nat.{ℕ, ◌≤◌}
use mathlib.Core.Path.{◌≡◌, refl}
use mathlib.Core.Bool.{Bool, true, false, not}
use mathlib.Core.List.{List}
use native.Mathlib.Omega.{arith}
use lib.Dec.{eqb, leb}
use borrow.Author.Tests.{eqb-true, not-false}
use Rattle.choice.specs.Choice.{pick, any}
use Rattle.address.specs.declared.FiveTuple.{FiveTuple}
use Rattle.address.specs.declared.TransportAddress.{TransportAddress}
use Rattle.stun.specs.declared.kinds.Method.{Method}
use Rattle.stun.specs.declared.kinds.Method.TheVariants.{CreatePermission, ChannelBind}
use Rattle.stun.specs.declared.values.NumberValue.{NumberValue}
use Rattle.stun.specs.declared.values.NumberValue.TheVariants.{Number, WrongLength, Absent}
use Rattle.stun.specs.Values.{transaction_id_of, peer_or_nobody, peers, first_peer}
use Rattle.messages.specs.Messages.{refresh_success, bare_success}
use Rattle.slot.specs.declared.Slot.{Slot}
use Rattle.slot.specs.Slot.{is_channel_number, number_taken, peer_taken, permit, bind}
use Rattle.rules.specs.declared.requests.ClientCall.{ClientCall}
use Rattle.rules.specs.Change.{Out, to_client, Change, keep, write, check, respond, error_message}
use Rattle.rules.specs.Values.{lifetime, channel_number, number_given, is_ipv6, none, ipv6_peer}
use Rattle.rules.specs.Requests.{request_code, own_code}
use Rattle.rules.proofs.Laws.{kept_not_written}
use Rattle.allocation_rules.specs.Allocations.{Room, repeats, allocate_code, allocated, allocate_reply, allocate, refresh_code, refreshed, refresh, granted, granted_refresh}
use Rattle.permission_rules.specs.Permissions.{permit_all, create_permission_code, create_permission, bound, channel_bind_code, channel_bind}

-- ---- Checks

-- a check that gave no code did not apply, and the later ones gave none
passed : (bad : Bool) (code rest : ℕ) → (code ≡ 0 → ⊥) → check bad code rest ≡ 0 → (bad ≡ false) × (rest ≡ 0)
unfolding check
passed true code rest n e = absurd (n e)
passed false code rest n e = (refl, e)

some : {code : ℕ} → 1 ≤ code → code ≡ 0 → ⊥
some h e = omega arith

requested : (call : ClientCall) (s : List ℕ) (rest : ℕ) → request_code call s rest ≡ 0 → rest ≡ 0
unfolding request_code
requested call s rest e = (passed _ 420 rest (some (omega arith)) (passed _ 401 _ (some (omega arith)) e).1).1

-- the caller has a live slot of its own user
pub record Owns (call : ClientCall) (own : Bool) (slot : Slot) : Type 0 where
  pub live : own ≡ true
  pub user : slot.allocation.user ≡ call.user

owns : (call : ClientCall) (s : List ℕ) (own : Bool) (slot : Slot) (rest : ℕ) → own_code call s own slot rest ≡ 0 → Owns call own slot × (rest ≡ 0)
unfolding own_code
owns call s own slot rest e =
    let a = passed (not own) 437 _ (some (omega arith)) (requested call s _ e) in
    let b = passed (not (eqb slot.allocation.user call.user)) 441 rest (some (omega arith)) a.1 in
    (record { live = not-false own a.0; user = eqb-true _ _ (not-false _ b.0) }, b.1)

-- only an accepted request writes a slot
answered : (fiveTuple : FiveTuple) (method : Method) (s : List ℕ) (code : ℕ) (accepted : Change) {slot : Slot} {out : Out}
    → respond fiveTuple method s code accepted ≡ write slot out → (code ≡ 0) × (accepted ≡ write slot out)
unfolding respond
answered fiveTuple method s code accepted {slot} {out} e = go (eqb code 0) refl e
  where
    go : (b : Bool) → eqb code 0 ≡ b → pick b accepted (keep (to_client fiveTuple (error_message method s code))) ≡ write slot out → (code ≡ 0) × (accepted ≡ write slot out)
    go true t q = (eqb-true code 0 t, q)
    go false t q = let z : ◌≡◌ {A = ℕ} 0 1 = cc in let y : ⊥ = omega arith in absurd y

module _ (call : ClientCall) (s : List ℕ) (slot : Slot) (out : Out) where
  -- ---- Allocate: the 5-tuple had no live slot, some slot was not live, and that one is written
  pub record Allocates (seen : Room) : Type 0 where
    pub new : seen.own ≡ false
    pub quota : leb 8 seen.held ≡ false
    pub room : seen.free ≡ true
    pub slot_is : slot ≡ allocated call (transaction_id_of s) seen.port (granted (lifetime s))
    pub out_is : out ≡ allocate_reply call s seen.port (granted (lifetime s))

  -- only one that is no repeat writes a slot
  not_repeated : (again : Bool) (rest : ℕ) (reply out' : Out) (made : Slot) → check again 0 rest ≡ 0 → pick again (keep reply) (write made out') ≡ write slot out
      → (rest ≡ 0) × (write made out' ≡ write slot out)
  unfolding check
  not_repeated true rest reply out' made e q = kept_not_written q
  not_repeated false rest reply out' made e q = (e, q)

  pub allocates : (seen : Room) (was : Slot) → allocate call s seen was ≡ write slot out → Allocates seen
  unfolding allocate allocate_code
  allocates seen was e =
      let a = answered _ _ s _ _ e in
      let q = not_repeated (repeats call s seen.own was) _ _ _ _ (requested call s _ a.0) a.1 in
      let own = passed seen.own 437 _ (some (omega arith)) q.0 in
      let length-transport = passed _ 400 _ (some (omega arith)) own.1 in
      let transport = passed _ 442 _ (some (omega arith)) length-transport.1 in
      let length-family = passed _ 400 _ (some (omega arith)) transport.1 in
      let family = passed _ 440 _ (some (omega arith)) length-family.1 in
      let length-lifetime = passed _ 400 _ (some (omega arith)) family.1 in
      let held = passed (leb 8 seen.held) 486 _ (some (omega arith)) length-lifetime.1 in
      let free = passed (not seen.free) 508 0 (some (omega arith)) held.1 in
      record { new = own.0; quota = held.0; room = not-false _ free.0; slot_is = cc; out_is = cc }

  module _ (own : Bool) (was : Slot) where
    -- ---- Refresh: a new expiry, or a fresh slot
    pub record Refreshes : Type 0 where
      pub owner : Owns call own was
      pub slot_is : slot ≡ refreshed call.time (granted_refresh (lifetime s)) was
      pub out_is : out ≡ to_client call.five_tuple (refresh_success (transaction_id_of s) (granted_refresh (lifetime s)))

    pub refreshes : refresh call s own was ≡ write slot out → Refreshes
    unfolding refresh refresh_code
    refreshes e = let q = answered _ _ s _ _ e in record { owner = (owns call s own was _ q.0).0; slot_is = cc; out_is = cc }

    -- ---- CreatePermission: each address has its permission
    pub record Permits (denied : Bool) : Type 0 where
      pub owner : Owns call own was
      pub some_peer : none (peers s) ≡ false
      pub all_ipv4 : any ipv6_peer (peers s) ≡ false
      pub none-denied : denied ≡ false
      pub room : (permit_all call.time (peers s) was was).ok ≡ true
      pub slot_is : slot ≡ (permit_all call.time (peers s) was was).slot
      pub out_is : out ≡ to_client call.five_tuple (bare_success CreatePermission (transaction_id_of s))

    pub permits : {denied : Bool} → create_permission call s denied own was ≡ write slot out → Permits denied
    unfolding create_permission create_permission_code
    permits {denied} e =
        let q = answered _ _ s _ _ e in
        let owner = owns call s own was _ q.0 in
        let some_peer = passed (none (peers s)) 400 _ (some (omega arith)) owner.1 in
        let well_formed = passed _ 400 _ (some (omega arith)) some_peer.1 in
        let ipv4 = passed (any ipv6_peer (peers s)) 443 _ (some (omega arith)) well_formed.1 in
        let reachable = passed denied 403 _ (some (omega arith)) ipv4.1 in
        let room = passed (not (permit_all call.time (peers s) was was).ok) 508 0 (some (omega arith)) reachable.1 in
        record { owner = owner.0; some_peer = some_peer.0; all_ipv4 = ipv4.0; none-denied = reachable.0; room = not-false _ room.0; slot_is = cc; out_is = cc }

    -- ---- ChannelBind: the permission and the channel are there
    pub record Binds (denied : Bool) (number : ℕ) (peer : TransportAddress) : Type 0 where
      pub owner : Owns call own was
      pub in_range : is_channel_number number ≡ true
      pub ipv4 : is_ipv6 peer.address ≡ false
      pub none-denied : denied ≡ false
      pub number_free : number_taken call.time number peer was.channels ≡ false
      pub peer_free : peer_taken call.time number peer was.channels ≡ false
      pub permitted : (permit call.time peer.address was).ok ≡ true
      pub bound_ok : (bind call.time number peer (permit call.time peer.address was).slot).ok ≡ true
      pub slot_is : slot ≡ bound call.time number peer was
      pub out_is : out ≡ to_client call.five_tuple (bare_success ChannelBind (transaction_id_of s))

    pub binds : {denied : Bool} → channel_bind call s denied own was ≡ write slot out → Binds denied (number_given (channel_number s)) (peer_or_nobody (first_peer s))
    unfolding channel_bind channel_bind_code
    binds {denied} e =
        let q = answered _ _ s _ _ e in
        let owner = owns call s own was _ q.0 in
        let number = passed _ 400 _ (some (omega arith)) owner.1 in
        let peer = passed _ 400 _ (some (omega arith)) number.1 in
        let range = passed (not (is_channel_number (number_given (channel_number s)))) 400 _ (some (omega arith)) peer.1 in
        let ipv4 = passed (is_ipv6 (peer_or_nobody (first_peer s)).address) 443 _ (some (omega arith)) range.1 in
        let reachable = passed denied 403 _ (some (omega arith)) ipv4.1 in
        let taken = passed _ 400 _ (some (omega arith)) reachable.1 in
        let leads = passed _ 400 _ (some (omega arith)) taken.1 in
        let room = passed _ 508 _ (some (omega arith)) leads.1 in
        let place = passed _ 508 0 (some (omega arith)) room.1 in
        record {
          owner = owner.0;
          in_range = not-false _ range.0;
          ipv4 = ipv4.0;
          none-denied = reachable.0;
          number_free = taken.0;
          peer_free = leads.0;
          permitted = not-false _ room.0;
          bound_ok = not-false _ place.0;
          slot_is = cc;
          out_is = cc;
        }

-- ---- The lifetime that an Allocate is granted lies in 600 to 3600
pub granted_range : (asked : NumberValue) → (600 ≤ granted asked) × (granted asked ≤ 3600)
granted_range (Number n) = (omega arith, omega arith)
granted_range WrongLength = (omega arith, omega arith)
granted_range Absent = (omega arith, omega arith)
