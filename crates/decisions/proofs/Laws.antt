-- Laws of what is decided of a call that is not refused.
use Prim.Native.Nat.{ℕ, zero, suc, ◌+◌, ◌<◌, ◌≤◌}
use mathlib.Core.Path.{◌≡◌, refl, sym, ap, subst, ◌∙◌}
use mathlib.Core.Bool.{Bool, true, false, false≢true}
use mathlib.Core.List.{List}
use native.Mathlib.Nat.{zero-add}
use native.Mathlib.Omega.{arith}
use lib.ListN.{length, get_or}
use lib.Seq.{ext_get_or}
use Rattle.std.proofs.Common.{Option, Some, None}
use Rattle.wire.specs.Wire.{num}
use Rattle.stun.specs.declared.kinds.Class.{Class}
use Rattle.stun.specs.Kinds.{message_kind_of}
use Rattle.stun.specs.AttributeNumbers as attribute
use Rattle.stun.specs.Message.{sorted, is_well_formed, attributes, first_of, channel_data_of}
use Rattle.stun.specs.Values.{peer_or_nobody, first_peer}
use Rattle.choice.specs.Choice.{pick, any}
use Rattle.choice.proofs.Laws.{chosen}
use Rattle.slot.specs.declared.Slot.{Slot}
use Rattle.std.specs.Prelude.{Option, Some, None}
use Rattle.std.specs.Bool.{then_some}
use Rattle.slot.specs.Inner.{held_in}
use Rattle.std.specs.Option.{is_some}
use Rattle.std.specs.Borrow.{Bor}
use Rattle.slot.specs.Search.{find, has}
use Rattle.slot.specs.Slot.{holds_port}
use Rattle.slot.proofs.Bits as Bits
use Rattle.table.specs.Table.{in_slot}
use Rattle.table.specs.Inner.{keyed, Surveyed}
use Rattle.table.specs.declared.keys.Wanted.{Wanted}
use Rattle.table.specs.declared.surveys.Survey.{Survey}
use Rattle.rules.specs.declared.answer.Answer.{Answer}
use Rattle.rules.specs.declared.answer.Outcome.{Outcome}
use Rattle.rules.specs.declared.answer.Outcome.TheVariants.{DroppedOther}
use Rattle.decisions.specs.declared.client.Asked.{Asked}
use Rattle.rules.specs.Change.{other_cause, Out, dropped, Change, keep, write, outcome_of, reply_after}
use Rattle.rules.specs.Inner.{Gives, Answers, slot_or_fresh}
use Rattle.allocation_rules.specs.Inner.{room_in}
use Rattle.allocation_rules.specs.Allocations.{port_for}
use Rattle.stun.specs.declared.channel_data.ChannelMessage.{ChannelMessage}
use Rattle.rules.specs.declared.requests.ClientCall.{ClientCall}
use Rattle.rules.specs.Values.{any_unknown}
use Rattle.data_rules.specs.Data.{permission_of, unless_dropped, send_cause, sent_from, send, channelled_from, send_channel_data, peer_cause, relay_from_peer}
use Rattle.decisions.specs.Client.{kind_asks, class_asks, asked_by}
use Rattle.decisions.proofs.Accepted.{allocates as allocate-accepted, refreshes, permits, binds}
use Rattle.decisions.proofs.WellFormed.{well_formed_long}
use Rattle.rules.proofs.Laws.{gives_kept, kept_not_written}
use Rattle.interface.specs.declared.incoming.Call.{Call}
use Rattle.interface.specs.declared.incoming.Call.TheVariants.{Client, Peer}
use Rattle.interface.specs.declared.incoming.FromClient.{FromClient}
use Rattle.interface.specs.declared.incoming.FromPeer.{FromPeer}
use Rattle.decisions.specs.Decisions.{ports_held, as_rules, own_place, room_for, about_found, about_own, on_asked, decided}
use Rattle.decisions.specs.Inner.{ReadyClient, ReadyPeer, Ready, UserFits, asked_for, is_data, wanted_by, unwritten, Owned}

-- ---- A call that is not refused
pub ready_client : {call : Call} {client : FromClient} {datagram reply : List ℕ} → call ≡ Client client → Ready call datagram reply
    → ReadyClient client datagram reply
ready_client {call} {client} {datagram} {reply} e r = subst (λ (x : Call). Ready x datagram reply) e r

pub ready_peer : {call : Call} {peer : FromPeer} {datagram reply : List ℕ} → call ≡ Peer peer → Ready call datagram reply → ReadyPeer peer datagram reply
ready_peer {call} {peer} {datagram} {reply} e r = subst (λ (x : Call). Ready x datagram reply) e r

pub user_fits : {client : FromClient} (call : Call) → call ≡ Client client → UserFits call → client.user ≤ 32
user_fits call e r = subst UserFits e r

pub ready_user : (call : Call) (datagram reply : List ℕ) → Ready call datagram reply → UserFits call
ready_user (Client c) datagram reply r = r.user
ready_user (Peer c) datagram reply r = tt

-- a STUN message has a header
abbrev pub is_stun : Asked → Bool
is_stun Asked.Allocate = true
is_stun Asked.Refresh = true
is_stun Asked.CreatePermission = true
is_stun Asked.ChannelBind = true
is_stun Asked.Send = true
is_stun Asked.ChannelData = false
is_stun Asked.Nothing = false

pub stun_long : (s : List ℕ) {asked : Asked} (it : Asked) → is_stun it ≡ true → asked ≡ it → asked ≡ asked_by s → 20 ≤ length s
unfolding asked_by
stun_long s {asked} it y i e = go (sorted s) e
  where
    never : {other : Asked} → is_stun other ≡ false → asked ≡ other → 20 ≤ length s
    never n q = absurd (false≢true (sym n ∙ ap is_stun (sym q ∙ i) ∙ y))

    formed : (b : Bool) → is_well_formed s ≡ b → asked ≡ pick b (kind_asks (message_kind_of (num s 0 2))) Asked.Nothing → 20 ≤ length s
    formed true w q = well_formed_long s w
    formed false w q = never refl q

    go : (c : Class) → asked ≡ class_asks s c → 20 ≤ length s
    go Class.Stun q = formed (is_well_formed s) refl q
    go Class.ChannelData q = never refl q
    go Class.Neither q = never refl q

pub client_asked : {call : Call} {client : FromClient} {asked : Asked} (s : List ℕ) → call ≡ Client client → asked ≡ asked_for call s → asked ≡ asked_by s
client_asked {call} {client} {asked} s e q = subst (λ (x : Call). asked ≡ asked_for x s) e q

-- ---- The ports held, from the survey of the slots
pub length_held : (time : ℕ) (slots : List Slot) (k n : ℕ) → length (ports_held time slots k n) ≡ n
unfolding ports_held
length_held time slots k zero = refl
length_held time slots k (suc n) = ap suc (length_held time slots (suc k) n)

pub held_at : (time : ℕ) (slots : List Slot) (k n i : ℕ) → i < n
    → get_or (ports_held time slots k n) i false ≡ has (find (in_slot (holds_port time (49152 + (k + i)))) slots)
unfolding ports_held
held_at time slots k zero i h = let y : ⊥ = omega arith in absurd y
held_at time slots k (suc n) zero h = ap (λ (j : ℕ). has (find (in_slot (holds_port time (49152 + j))) slots)) (let z : k ≡ k + 0 = omega arith in z)
held_at time slots k (suc n) (suc i) h =
    held_at time slots (suc k) n i (omega arith)
    ∙ ap (λ (j : ℕ). has (find (in_slot (holds_port time (49152 + j))) slots)) (let z : suc k + i ≡ k + suc i = omega arith in z)

-- what is wanted where a test holds
pub then_is : (b : Bool) (n : ℕ) → then_some b n ≡ pick b (Some n) None
then_is true n = refl
then_is false n = refl

ports_held_lem : {wanted : Wanted} {user : ℕ} {slots : List Slot} {survey : Survey} → Surveyed slots wanted user survey
    → held_in survey.ports ≡ ports_held wanted.time slots 0 128
ports_held_lem {wanted} {slots} {survey} w =
    let width = Bits.length_held survey.ports in
    ext_get_or false (held_in survey.ports) (ports_held wanted.time slots 0 128) (width ∙ sym (length_held wanted.time slots 0 128))
    (λ i h. w.ports i (rw width at h) ∙ sym (rw zero-add at (held_at wanted.time slots 0 128 i (rw width at h))))

-- what Allocate asks of the whole table, from a look over it
pub surveyed : (call : FromClient) {slots : List Slot} {survey : Survey} {free : Bool} {port : ℕ}
    → Surveyed slots (wanted_by (Client call) (Asked.Allocate)) call.user survey → free ≡ has survey.free
    → port ≡ port_for (held_in survey.ports) call.start
    → room_in (record { held = survey.held; free = free; port = port }) (has (own_place call slots)) ≡ room_for call slots
unfolding keyed
surveyed call {slots} {survey} w f p =
    let q = p ∙ ap (λ (l : List Bool). port_for l call.start) (ports_held_lem w) in
    let g = f ∙ ap has w.free in
    λ i. record { own = has (own_place call slots); held = w.held i; free = g i; port = q i }

-- ---- What is decided about the slot that was found

-- a request about the caller's own slot
pub own_answers : (call : FromClient) (asked : Asked) {own : Option (Bor Slot)} {reply reply' : List ℕ} {answer : Answer}
    → (rule : Bool → Slot → Change) → Answers (rule (is_some own) (slot_or_fresh own)) reply reply' answer
    → (slots : List Slot) → Owned slots (wanted_by (Client call) asked) own → Answers (about_own call slots rule).change reply reply' answer
unfolding keyed
own_answers call asked {own} {reply} {reply'} {answer} rule w slots o =
    subst (λ (x : Slot). Answers (rule (has (own_place call slots)) x) reply reply' answer) o.slot
    (subst (λ (b : Bool). Answers (rule b (slot_or_fresh own)) reply reply' answer) o.there w)

pub quiet_gives : {out : Out} {outcome : Outcome} (reply : List ℕ) → outcome ≡ outcome_of out → reply_after reply out ≡ reply → Gives out reply reply outcome
quiet_gives reply e r = record { outcome_is = e; reply_is = sym r }

pub peer_answers : (call : FromPeer) {own : Option (Bor Slot)} {reply reply' : List ℕ} {outcome : Outcome}
    → (rule : Bool → Slot → Out) → Gives (rule (is_some own) (slot_or_fresh own)) reply reply' outcome
    → (slots : List Slot) → Owned slots (wanted_by (Peer call) Asked.Nothing) own
    → Answers (about_found slots (find (in_slot (holds_port call.time call.port)) slots) (λ b slot. keep (rule b slot))).change reply reply' (unwritten outcome)
unfolding keyed
peer_answers call {own} {reply} {reply'} {outcome} rule g slots o =
    let place = find (in_slot (holds_port call.time call.port)) slots in
    subst (λ (x : Slot). Answers (keep (rule (has place) x)) reply reply' (unwritten outcome)) o.slot
    (subst (λ (b : Bool). Answers (keep (rule b (slot_or_fresh own))) reply reply' (unwritten outcome)) o.there (gives_kept g))

-- data for which no slot was found is dropped
module _ (call : ClientCall) (s : List ℕ) (slot : Slot) where
  send_unfound : send call s false slot ≡ dropped other_cause
  unfolding send send_cause any unless_dropped
  send_unfound =
      chosen (λ b. unless_dropped b (permission_of call.time (peer_or_nobody (first_peer s)) slot) (sent_from s slot (first_of attribute.«data» (attributes s))) ≡ dropped other_cause)
      (any_unknown s) (λ _. refl) (λ _. refl)

  channelled_unfound : send_channel_data call s false slot ≡ dropped other_cause
  unfolding send_channel_data
  channelled_unfound = go (channel_data_of s)
    where
      go : (read : Option ChannelMessage) → channelled_from call slot false read ≡ dropped other_cause
      go (Some message) = refl
      go None = refl

dropped_answers : {out : Out} (reply : List ℕ) → out ≡ dropped other_cause → Answers (keep out) reply reply (unwritten DroppedOther)
dropped_answers reply e = rw e (gives_kept (quiet_gives reply refl refl))

module _ {own : Option (Bor Slot)} (reply : List ℕ) (none : is_some own ≡ false) (s : List ℕ) where
  pub client_dropped : (denied : Bool) (call : FromClient) (asked : Asked) → is_data asked ≡ true → (slots : List Slot) → Owned slots (wanted_by (Client call) asked) own
      → Answers (on_asked denied call s slots asked).change reply reply (unwritten DroppedOther)
  client_dropped denied call Asked.Allocate y = absurd (false≢true y)
  client_dropped denied call Asked.Refresh y = absurd (false≢true y)
  client_dropped denied call Asked.CreatePermission y = absurd (false≢true y)
  client_dropped denied call Asked.ChannelBind y = absurd (false≢true y)
  client_dropped denied call Asked.Send y =
      own_answers call Asked.Send (λ there slot. keep (send (as_rules call) s there slot)) (dropped_answers reply (rw none (send_unfound (as_rules call) s (slot_or_fresh own))))
  client_dropped denied call Asked.ChannelData y =
      own_answers call Asked.ChannelData (λ there slot. keep (send_channel_data (as_rules call) s there slot)) (dropped_answers reply (rw none (channelled_unfound (as_rules call) s (slot_or_fresh own))))
  client_dropped denied call Asked.Nothing y = λ slots o. dropped_answers reply refl

  pub peer_dropped : (denied : Bool) (call : FromPeer) (slots : List Slot) → Owned slots (wanted_by (Peer call) Asked.Nothing) own
      → Answers (decided denied (Peer call) s slots).change reply reply (unwritten DroppedOther)
  unfolding decided relay_from_peer peer_cause any unless_dropped
  peer_dropped denied call = peer_answers call (relay_from_peer call.time call.source call.id s) (rw none (quiet_gives reply refl refl))

-- a request is no data
pub not_data : {asked it : Asked} {P : Type 0} → asked ≡ it → is_data it ≡ false → is_data asked ≡ true → P
not_data e n y = absurd (false≢true (sym n ∙ ap is_data (sym e) ∙ y))

-- a peer's datagram is data
pub peer_data : {call : Call} {peer : FromPeer} {asked : Asked} (s : List ℕ) → call ≡ Peer peer → asked ≡ asked_for call s → is_data asked ≡ true
peer_data {call} {peer} {asked} s e q = ap is_data (subst (λ (x : Call). asked ≡ asked_for x s) e q)

-- a slot is written only where one was found
module _ (denied : Bool) (call : FromClient) (s : List ℕ) (slots : List Slot) where
  asked_writes : (asked : Asked) (slot : Slot) (out : Out) → (on_asked denied call s slots asked).change ≡ write slot out → has (on_asked denied call s slots asked).place ≡ true
  asked_writes Asked.Allocate slot out e = (allocate-accepted (as_rules call) s slot out (room_for call slots) _ e).room
  asked_writes Asked.Refresh slot out e = (refreshes (as_rules call) s slot out _ _ e).owner.live
  asked_writes Asked.CreatePermission slot out e = (permits (as_rules call) s slot out _ _ e).owner.live
  asked_writes Asked.ChannelBind slot out e = (binds (as_rules call) s slot out _ _ e).owner.live
  asked_writes Asked.Send slot out e = kept_not_written e
  asked_writes Asked.ChannelData slot out e = kept_not_written e
  asked_writes Asked.Nothing slot out e = kept_not_written e

pub decided-writes : (denied : Bool) (call : Call) (s : List ℕ) (slots : List Slot) (slot : Slot) (out : Out) → (decided denied call s slots).change ≡ write slot out
    → has (decided denied call s slots).place ≡ true
unfolding decided
decided-writes denied (Client call) s slots slot out e = asked_writes denied call s slots (asked_by s) slot out e
decided-writes denied (Peer call) s slots slot out e = kept_not_written e
