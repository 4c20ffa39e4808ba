-- The laws of answering a line.
use Prim.Native.Nat.{ℕ, zero, suc, ◌+◌, ◌-◌, ◌<◌, ◌≤◌}
use mathlib.Core.Path.{◌≡◌, refl, sym, ap, ◌∙◌, subst}
use mathlib.Core.Bool.{Bool, true, false, false≢true}
use mathlib.Core.List.{List, [], ◌∷◌, ◌++◌}
use native.Mathlib.Omega.{arith}
use mathlib.Core.Logic.{inl, inr}
use lib.Dec.{leb, ltb}
use lib.ListN.{length, take, drop, length-append, length-drop, replicate, length-replicate}
use borrow.Author.Tests.{le-leb, lt-leb}
use Rattle.std.specs.Prelude.{Option, None, Some}
use Rattle.std.specs.Option.{unwrap_or}
use Rattle.std.specs.List.{PartBy}
use Rattle.choice.specs.Choice.{pick, both}
use Rattle.wire.specs.Wire.{part_of}
use Rattle.rules.specs.declared.answer.Outcome.{Outcome}
use Rattle.rules.specs.declared.answer.Outcome.TheVariants.{Refused, DroppedLapsed, DroppedNever, DroppedOther, ToClient, ToPeer}
use Rattle.messages.specs.Inner.{Sent}
use Rattle.interface.specs.declared.incoming.Call.{Call}
use Rattle.state.specs.State.{State}
use Rattle.state.specs.Outcomes.{state_after}
use Rattle.state.specs.Step.{act, Stepped}
use Rattle.interface.specs.Sending.{sent}
use Rattle.std.specs.Prelude.{Option, None, Some}
use Rattle.lines.specs.declared.Request.{Request}
use Rattle.script.specs.Answers.{answer_of, bad_answer}
use Rattle.lines.specs.Lines.{Line, bad, asks, line_of}
use Rattle.lines.specs.Inner.{Reads}
use Rattle.script.specs.Inner.{is_to_peer, Called}
use Rattle.script.specs.Run.{shown, answer_to, state_to, line_in, Runs}

-- ---- What an outcome sends is a part of one of the two buffers

pub sent_to_peer : (outcome : Outcome) (datagram reply : List ℕ) → is_to_peer outcome ≡ true → sent outcome datagram datagram ≡ sent outcome datagram reply
sent_to_peer (Refused number) datagram reply e = refl
sent_to_peer DroppedLapsed datagram reply e = refl
sent_to_peer DroppedNever datagram reply e = refl
sent_to_peer DroppedOther datagram reply e = refl
sent_to_peer (ToClient fiveTuple len) datagram reply e = absurd (false≢true e)
sent_to_peer (ToPeer port peer start len) datagram reply e = refl

pub sent_else : (outcome : Outcome) (datagram reply : List ℕ) → is_to_peer outcome ≡ false → sent outcome reply reply ≡ sent outcome datagram reply
sent_else (Refused number) datagram reply e = refl
sent_else DroppedLapsed datagram reply e = refl
sent_else DroppedNever datagram reply e = refl
sent_else DroppedOther datagram reply e = refl
sent_else (ToClient fiveTuple len) datagram reply e = refl
sent_else (ToPeer port peer start len) datagram reply e = absurd (false≢true (sym e))

picked_short : (b : Bool) (l : List ℕ) {n : ℕ} → length l ≤ n → length (pick b l []) ≤ n
picked_short true l h = h
picked_short false l h = omega arith

pub take_short : (k : ℕ) (l : List ℕ) {n : ℕ} → length l ≤ n → length (take k l) ≤ n
take_short zero l h = omega arith
take_short (suc k) [] h = omega arith
take_short (suc k) (x ∷ l) {n = zero} h = let y : ⊥ = omega (arith, h) in absurd y
take_short (suc k) (x ∷ l) {n = suc n} h = let r = take_short k l {n = n} (omega (arith, h)) in omega (arith, r)

pub sent_short : (outcome : Outcome) (datagram reply : List ℕ) {n : ℕ} → length datagram ≤ n → length reply ≤ n → length (sent outcome datagram reply) ≤ n
unfolding part_of
sent_short (Refused number) datagram reply h k = omega arith
sent_short DroppedLapsed datagram reply h k = omega arith
sent_short DroppedNever datagram reply h k = omega arith
sent_short DroppedOther datagram reply h k = omega arith
sent_short (ToClient fiveTuple len) datagram reply h k = picked_short (leb len (length reply)) (take len reply) (take_short len reply k)
sent_short (ToPeer port peer start len) datagram reply h k = picked_short (leb (start + len) (length datagram)) (take len (drop start datagram)) (take_short len (drop start datagram) (omega (arith, h, length-drop start datagram)))

-- ---- The line of an input

line_in_part : (from to : ℕ) (input : List ℕ) → from ≤ to → to ≤ length input → take (to - from) (drop from input) ≡ line_in from to input
unfolding line_in both
line_in_part from to input h k = rw (le-leb from to h, le-leb to (length input) k)

both_false : (b : Bool) → both b false ≡ false
unfolding both
both_false true = refl
both_false false = refl

line_in_past : (from to : ℕ) (input : List ℕ) → length input < to → [] ≡ line_in from to input
unfolding line_in
line_in_past from to input h = rw (lt-leb to (length input) h, both_false (leb from to))

line_in_back : (from to : ℕ) (input : List ℕ) → to < from → [] ≡ line_in from to input
unfolding line_in both
line_in_back from to input h = rw (lt-leb from to h)

-- the part of the input that there is, or an empty one
pub line_in_got : {B : Type 0} (now : B → List ℕ) (from to : ℕ) (input : List ℕ) (got : Option B) (empty : B) → now empty ≡ [] → PartBy now input from to got
    → now (unwrap_or got empty) ≡ line_in from to input
line_in_got now from to input None empty e (inl h, k) = e ∙ line_in_back from to input h
line_in_got now from to input None empty e (inr h, k) = e ∙ line_in_past from to input h
line_in_got now from to input (Some x) empty e (h, k) = h.2 ∙ line_in_part from to input h.0 h.1

pub reads_of : {l l' buffer : List ℕ} {r : Option Request} → l ≡ l' → Reads (line_of l) buffer r → Reads (line_of l') buffer r
reads_of {buffer = buffer} {r = r} e k = subst (λ x. Reads (line_of x) buffer r) e k

-- ---- A call is answered

pub called : {before after : State} {call : Call} {datagram output output' reply reply' : List ℕ} {n : ℕ} {outcome : Outcome}
    → Stepped before call datagram outcome after reply reply' → Sent (answer_of outcome (sent outcome datagram reply')) output output' n
    → Called before call datagram after reply reply' output output' n
called {before} {call = call} {datagram} {output} {output'} {reply} {reply'} {n} {outcome} s w =
    let e : answer_of outcome (sent outcome datagram reply') ≡ shown (act before call datagram (length reply)) datagram reply = rw (s.outcome_is, s.reply_is) in
    record { answered = subst (λ k. Sent k output output' n) e w; state_is = s.state_is; reply_is = s.reply_is }

-- the same call and datagram by other names
called_as : {before after : State} {call call' : Call} {datagram datagram' output output' reply reply' : List ℕ} {n : ℕ} → call ≡ call' → datagram ≡ datagram'
    → Called before call datagram after reply reply' output output' n → Called before call' datagram' after reply reply' output output' n
called_as {before} {after} {call} {call'} {datagram} {datagram'} {output} {output'} {reply} {reply'} {n} c d k =
    subst (λ x. Called before call' x after reply reply' output output' n) d
    (subst (λ x. Called before x datagram after reply reply' output output' n) c k)

take_le : (n : ℕ) (l : List ℕ) → length (take n l) ≡ n → n ≤ length l
take_le n l e = omega (arith, e, take_short n l {n = length l} (omega arith))

-- ---- A line is answered

pub runs_small : (line : Line) {before : State} {output : List ℕ} → ltb (length output) 4096 ≡ true → Runs line before before output output 0
runs_small line small = record { size_is = rw small; output_is = rw small; state_is = rw small }

-- what a line in an output that is long enough leaves
runs_long : {line : Line} {before after : State} {n : ℕ} {output output' : List ℕ} → ltb (length output) 4096 ≡ false → Sent (answer_to before line) output output' n
    → after ≡ state_to before line → Runs line before after output output' n
runs_long long w s = record { size_is = rw (long, w.size); output_is = rw (long, w.wrote.is); state_is = rw (long, s) }

-- the answer is within the output
within_output : (small : Bool) (answer output : List ℕ) → length (pick small output (answer ++ drop (length answer) output)) ≡ length output
    → pick small 0 (length answer) ≤ length output
within_output true answer output e = omega arith
within_output false answer output e = omega (arith, e, length-append answer (drop (length answer) output), length-drop (length answer) output)

pub runs_within : {line : Line} {before after : State} {n : ℕ} {output output' : List ℕ} → Runs line before after output output' n → length output' ≡ length output
    → n ≤ length output
runs_within {line} {before} {output = output} k e =
    rw k.size_is (within_output (ltb (length output) 4096) (answer_to before line) output (ap length (sym k.output_is) ∙ e))

-- how long a line's datagram is, as it was read
pub length_fits : (line : Line) {buffer : List ℕ} {request : Request} → Reads line buffer (Some request) → request.len ≤ length buffer
length_fits bad k = absurd (cc (k.is))
length_fits (asks call datagram) {buffer} {request} k =
    let same : request ≡ record { call = call; len = length datagram } = cc (k.is) in
    let t = take_le (length datagram) buffer (ap length k.front) in
    omega (arith, t, ap (λ (r : Request). r.len) same)

pub runs_bad : (line : Line) {buffer output output' : List ℕ} {before : State} {n : ℕ} → ltb (length output) 4096 ≡ false → Reads line buffer None
    → Sent bad_answer output output' n → Runs line before before output output' n
runs_bad bad long k w = runs_long long w refl
runs_bad (asks call datagram) long k w = absurd (cc (k.is))

pub runs_asks : (line : Line) {buffer output output' reply' : List ℕ} {request : Request} {before after : State} {n : ℕ} → ltb (length output) 4096 ≡ false
    → Reads line buffer (Some request) → Called before request.call (take request.len buffer) after (replicate 1536 0) reply' output output' n
    → Runs line before after output output' n
runs_asks bad long k d = absurd (cc (k.is))
runs_asks (asks call datagram) {buffer} {output} {output'} {request = request} {before} {after} {n} long k d =
    let same : request ≡ record { call = call; len = length datagram } = cc (k.is) in
    let c = ap (λ (r : Request). r.call) same in
    let d₀ = ap (λ (r : Request). take r.len buffer) same ∙ k.front in
    let e = called_as c d₀ d in
    let room = length-replicate {A = ℕ} 1536 0 in
    let w = subst (λ m. Sent (shown (act before call datagram m) datagram (replicate 1536 0)) output output' n) room e.answered in
    let s = subst (λ m. after ≡ state_after before (act before call datagram m)) room e.state_is in
    runs_long long w s
