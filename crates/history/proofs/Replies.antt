-- What a reply counts as, read off its bytes by the clients' reader.
use Prim.Native.Nat.{ℕ, ◌+◌, ◌<◌, ◌^◌, ◌/◌}
use mathlib.Core.Path.{◌≡◌, refl, ap, ◌∙◌}
use mathlib.Core.Bool.{Bool, true, false}
use mathlib.Core.List.{List, ◌∷◌, [], ◌++◌}
use native.Mathlib.Omega.{arith}
use lib.Dec.{eqb, leb}
use lib.ListN.{length, take, drop}
use lib.Seq.{take_at}
use Rattle.std.specs.Prelude.{Option, Some, None}
use Rattle.wire.specs.Wire.{num, bytes_of}
use Rattle.choice.specs.Choice.{pick, both}
use Rattle.address.specs.declared.FiveTuple.{FiveTuple}
use Rattle.address.specs.declared.TransportAddress.{TransportAddress}
use Rattle.address.specs.declared.TransactionId.{TransactionId}
use Rattle.stun.specs.declared.kinds.Method.{Method}
use Rattle.stun.specs.declared.kinds.Method.TheVariants.{Allocate, Refresh, CreatePermission, ChannelBind}
use Rattle.stun.specs.Kinds.{error_type}
use Rattle.stun.specs.Message.{unknown_types}
use Rattle.stun.specs.Values.{transaction_id_of, peer_or_nobody, peers, first_peer}
use Rattle.messages.specs.Messages.{message_bytes, error_code_attribute, unknown_attribute, error_response, unknown_response, allocate_success, refresh_success, bare_success}
use Rattle.rules.specs.declared.answer.Outcome.TheVariants.{ToClient, ToPeer}
use Rattle.interface.specs.Sending as Sending
use Rattle.rules.specs.Change.{Cause, permission_lapsed, never_permitted, other_cause, dropped_for, Out, dropped, to_client, to_peer, outcome_of, reply_after, error_message}
use Rattle.interface.specs.declared.incoming.Call.TheVariants.{Client}
use Rattle.interface.specs.declared.incoming.FromClient.{FromClient}
use Rattle.client_reader.specs.Fields.{Bytes, IdFits, written}
use Rattle.client_reader.specs.declared.Message.{Message}
use Rattle.client_reader.specs.declared.Message.TheVariants.{AllocateSuccess, RefreshSuccess, BareSuccess, Error, UnknownAttributes, DataIndication, ChannelData}
use Rattle.client_reader.specs.Inner.{count_fits, all_below, types_of, unknown_of, when, error_fields, unknown_fields, plain_error_fields, code_of, fields_of, same_bytes, checked}
use Rattle.client_reader.specs.Reader.{message_in}
use Rattle.client_reader.proofs.Laws.{read_allocate, read_refresh, read_bare}
use Rattle.client_reader.proofs.Around.{num_lt}
use Rattle.history.specs.Counted.{Counted, gave, kept, allowed, nothing, granted, without_repeats}
use Rattle.history.specs.Events.{TransportFits, addresses_of, asks, counts_as, read_as, counts_by}
use Rattle.history.proofs.Asking.{asks_no_other}

-- ---- Errors count as nothing
pub record Silent (r : Option Message) : Type 0 where
  pub is : (call : FromClient) (s : List ℕ) → read_as call s r ≡ nothing

when_silent : (b : Bool) (r : Option Message) → Silent r → Silent (when b r)
when_silent true r h = h
when_silent false r h = record { is = λ call s. refl }

pick_silent : (b : Bool) (q r : Option Message) → Silent q → Silent r → Silent (pick b q r)
pick_silent true q r g h = g
pick_silent false q r g h = h

unknown_silent : (method : Method) (m : List ℕ) (count : ℕ) → Silent (unknown_fields method m count)
unfolding unknown_fields
unknown_silent method m count =
    let fields = Some (unknown_of method m count (types_of m count)) in
    when_silent (count_fits count m) (when (all_below 0x8000 (types_of m count)) fields)
    (when_silent (all_below 0x8000 (types_of m count)) fields (record { is = λ call s. refl }))

plain_silent : (method : Method) (m : List ℕ) (code : ℕ) → Silent (plain_error_fields method m code)
unfolding plain_error_fields
plain_silent method m code = when_silent (both (leb 300 code) (leb code 699)) (Some (Error method (transaction_id_of m) code)) (record { is = λ call s. refl })

error_silent : (method : Method) (m : List ℕ) → Silent (error_fields method m)
unfolding error_fields
error_silent method m =
    let unknown = unknown_fields method m (num m 30 2 / 2) in
    let other = plain_error_fields method m (code_of m) in
    when_silent (leb 28 (length m)) (pick (eqb (code_of m) 420) (when (leb 32 (length m)) unknown) other)
    (pick_silent (eqb (code_of m) 420) (when (leb 32 (length m)) unknown) other
    (when_silent (leb 32 (length m)) unknown (unknown_silent method m (num m 30 2 / 2)))
    (plain_silent method m (code_of m)))

-- a message of an error type
type_silent : (method : Method) (m : List ℕ) → num m 0 2 ≡ error_type method → Silent (fields_of m)
unfolding fields_of both
type_silent method m e =
    go method e
  where
    long : (k : Method) → Silent (when (leb 4 (length m)) (when (leb 20 (length m)) (error_fields k m)))
    long k = when_silent (leb 4 (length m)) (when (leb 20 (length m)) (error_fields k m)) (when_silent (leb 20 (length m)) (error_fields k m) (error_silent k m))

    go : (k : Method) → num m 0 2 ≡ error_type k → Silent (fields_of m)
    go Allocate e = rw e (long Allocate)
    go Refresh e = rw e (long Refresh)
    go CreatePermission e = rw e (long CreatePermission)
    go ChannelBind e = rw e (long ChannelBind)

-- the type of a message is what was written
type_of : (method : Method) (id : TransactionId) (body : List ℕ) → num (message_bytes (error_type method) id body) 0 2 ≡ error_type method
unfolding message_bytes num bytes_of
type_of Allocate id body = refl
type_of Refresh id body = refl
type_of CreatePermission id body = refl
type_of ChannelBind id body = refl

read_silent : (m : List ℕ) → Silent (fields_of m) → Silent (message_in m)
unfolding message_in checked
read_silent m h = go (fields_of m) h
  where
    go : (o : Option Message) → Silent o → Silent (checked o m)
    go None k = k
    go (Some r) k = when_silent (same_bytes (written r m) m) (Some r) k

error_message_silent : (method : Method) (s : List ℕ) (code : ℕ) → Silent (message_in (error_message method s code))
unfolding error_message error_response unknown_response
error_message_silent method s code = go (eqb code 420)
  where
    written_silent : (m : List ℕ) → num m 0 2 ≡ error_type method → Silent (message_in m)
    written_silent m e = read_silent m (type_silent method m e)

    go : (b : Bool) → Silent (message_in (pick b (unknown_response method (transaction_id_of s) (unknown_types s)) (error_response method (transaction_id_of s) code)))
    go true =
        let body = error_code_attribute 420 ++ unknown_attribute (unknown_types s) in
        written_silent (unknown_response method (transaction_id_of s) (unknown_types s)) (type_of method (transaction_id_of s) body)
    go false = written_silent (error_response method (transaction_id_of s) code) (type_of method (transaction_id_of s) (error_code_attribute code))

-- ---- A drop sends nothing, and is no other outcome
pub dropped_sends : (cause : Cause) (datagram reply : List ℕ) → Sending.sent (dropped_for cause) datagram reply ≡ []
dropped_sends permission_lapsed datagram reply = refl
dropped_sends never_permitted datagram reply = refl
dropped_sends other_cause datagram reply = refl

pub dropped_not_sent : {A : Type 0} (cause : Cause) {fiveTuple : FiveTuple} {len : ℕ} → dropped_for cause ≡ ToClient fiveTuple len → A
dropped_not_sent permission_lapsed e = let z : ◌≡◌ {A = ℕ} 0 1 = cc in let y : ⊥ = omega arith in absurd y
dropped_not_sent never_permitted e = let z : ◌≡◌ {A = ℕ} 0 1 = cc in let y : ⊥ = omega arith in absurd y
dropped_not_sent other_cause e = let z : ◌≡◌ {A = ℕ} 0 1 = cc in let y : ⊥ = omega arith in absurd y

pub dropped_not_relayed : {A : Type 0} (cause : Cause) {port : ℕ} {peer : TransportAddress} {start len : ℕ} → dropped_for cause ≡ ToPeer port peer start len → A
dropped_not_relayed permission_lapsed e = let z : ◌≡◌ {A = ℕ} 0 1 = cc in let y : ⊥ = omega arith in absurd y
dropped_not_relayed never_permitted e = let z : ◌≡◌ {A = ℕ} 0 1 = cc in let y : ⊥ = omega arith in absurd y
dropped_not_relayed other_cause e = let z : ◌≡◌ {A = ℕ} 0 1 = cc in let y : ⊥ = omega arith in absurd y

-- ---- What goes out and is no success counts as nothing
pub record Unaccepted (out : Out) : Type 0 where
  pub counts : (call : FromClient) (s reply : List ℕ) → counts_by (Client call) s (outcome_of out) (reply_after reply out) ≡ nothing

pub dropped_unaccepted : (cause : Cause) → Unaccepted (dropped cause)
dropped_unaccepted permission_lapsed = record { counts = λ call s reply. refl }
dropped_unaccepted never_permitted = record { counts = λ call s reply. refl }
dropped_unaccepted other_cause = record { counts = λ call s reply. refl }

pub to_peer_unaccepted : (port : ℕ) (peer : TransportAddress) (start len : ℕ) → Unaccepted (to_peer port peer start len)
to_peer_unaccepted port peer start len = record { counts = λ call s reply. refl }

-- the first n bytes of the reply are the message
sent : (message reply : List ℕ) → take (length message) (message ++ drop (length message) reply) ≡ message
sent message reply = take_at message (drop (length message) reply) (length message) refl

pub error_unaccepted : (fiveTuple : FiveTuple) (method : Method) (s : List ℕ) (code : ℕ) → Unaccepted (to_client fiveTuple (error_message method s code))
error_unaccepted fiveTuple method s code = record {
  counts = λ call s' reply. ap (λ (m : List ℕ). read_as call s' (message_in m)) (sent (error_message method s code) reply) ∙ (error_message_silent method s code).is call s';
}

-- ---- What a success counts as
pub id_fits : (s : List ℕ) → Bytes s → IdFits (transaction_id_of s)
unfolding transaction_id_of
id_fits s h = (num_lt s h 8 4, num_lt s h 12 4, num_lt s h 16 4)

module _ (call : FromClient) (s reply : List ℕ) (h : Bytes s) where
  counts-sent : (message : List ℕ) {r : Option Message} → message_in message ≡ r
      → counts_by (Client call) s (outcome_of (to_client call.five_tuple message)) (reply_after reply (to_client call.five_tuple message)) ≡ read_as call s r
  counts-sent message {r} e =
      ap (λ (m : List ℕ). read_as call s (message_in m)) (sent message reply) ∙ ap (read_as call s) e

  abbrev Counts : List ℕ → Counted
  Counts message = counts_by (Client call) s (outcome_of (to_client call.five_tuple message)) (reply_after reply (to_client call.five_tuple message))

  -- where the datagram is a request of the method
  counts_asked : (message : List ℕ) {r : Option Message} (method : Method) (c : Counted) → message_in message ≡ r
      → read_as call s r ≡ pick (asks method s) c nothing → asks method s ≡ true → Counts message ≡ c
  counts_asked message method c e is asked = counts-sent message e ∙ is ∙ ap (λ (b : Bool). pick b c nothing) asked

  pub allocate-counts : (port seconds : ℕ) → call.relay < 2 ^ 32 → port < 2 ^ 16 → seconds < 2 ^ 32 → TransportFits call.five_tuple.client
      → asks Allocate s ≡ true
      → Counts (allocate_success (transaction_id_of s) call.relay port seconds call.five_tuple.client) ≡ gave call.five_tuple port call.time seconds
  allocate-counts port seconds hr hp hs hc =
      counts_asked _ Allocate _ (read_allocate (transaction_id_of s) (id_fits s h) call.relay port seconds call.five_tuple.client hr hp hs hc.0 hc.1) refl

  pub refresh-counts : (seconds : ℕ) → seconds < 2 ^ 32 → asks Refresh s ≡ true
      → Counts (refresh_success (transaction_id_of s) seconds) ≡ kept call.five_tuple call.time seconds
  refresh-counts seconds hs = counts_asked _ Refresh _ (read_refresh (transaction_id_of s) (id_fits s h) seconds hs) refl

  pub permission_counts : asks CreatePermission s ≡ true
      → Counts (bare_success CreatePermission (transaction_id_of s)) ≡ allowed call.five_tuple (addresses_of (peers s)) (call.time + 300)
  permission_counts = counts_asked _ CreatePermission _ (read_bare (transaction_id_of s) (id_fits s h) CreatePermission tt) refl

  pub channel_counts : asks ChannelBind s ≡ true
      → Counts (bare_success ChannelBind (transaction_id_of s)) ≡ allowed call.five_tuple ((peer_or_nobody (first_peer s)).address ∷ []) (call.time + 300)
  channel_counts = counts_asked _ ChannelBind _ (read_bare (transaction_id_of s) (id_fits s h) ChannelBind tt) refl

-- ---- An Allocate of a client whose lifetime lasts counts as nothing, whatever comes back
module _ (call : FromClient) (s : List ℕ) (past : List Counted) (asked : asks Allocate s ≡ true) (lasts : granted past call.five_tuple call.time ≡ true) where
  message_left_out : (m : Message) → without_repeats past (counts_as call s m) ≡ nothing
  message_left_out (AllocateSuccess id relay port seconds client) = rw (asked, lasts)
  message_left_out (RefreshSuccess id seconds) = rw (asks_no_other Allocate Refresh s refl asked)
  message_left_out (BareSuccess Allocate id) = refl
  message_left_out (BareSuccess Refresh id) = refl
  message_left_out (BareSuccess CreatePermission id) = rw (asks_no_other Allocate CreatePermission s refl asked)
  message_left_out (BareSuccess ChannelBind id) = rw (asks_no_other Allocate ChannelBind s refl asked)
  message_left_out (Error method id code) = refl
  message_left_out (UnknownAttributes method id types count) = refl
  message_left_out (DataIndication id peer port start len) = refl
  message_left_out (ChannelData number start len) = refl

  read_left_out : (o : Option Message) → without_repeats past (read_as call s o) ≡ nothing
  read_left_out None = refl
  read_left_out (Some m) = message_left_out m

  pub left_out : (out : Out) (reply : List ℕ) → without_repeats past (counts_by (Client call) s (outcome_of out) (reply_after reply out)) ≡ nothing
  left_out (dropped cause) reply = ap (without_repeats past) ((dropped_unaccepted cause).counts call s reply)
  left_out (to_client fiveTuple message) reply = read_left_out (message_in (take (length message) (reply_after reply (to_client fiveTuple message))))
  left_out (to_peer port peer start len) reply = refl
