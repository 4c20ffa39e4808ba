-- Lines that the call program runs one after another are a list of calls; so demand 3 holds of them.
use Prim.Native.Nat.{ℕ, zero, suc, ◌^◌, ◌<◌}
use mathlib.Core.Path.{◌≡◌, refl, sym, ◌∙◌, ap, subst}
use mathlib.Core.Bool.{Bool, true, false, false≢true}
use mathlib.Core.List.{List, [], ◌∷◌, ◌++◌}
use native.Mathlib.Omega.{arith}
use lib.Dec.{eqb, ltb, lit<}
use lib.ListN.{length, drop, replicate, length-replicate}
use lib.Seq.{take_at}
use borrow.Author.Tests.{ltb-true, le-ltb}
use Rattle.choice.specs.Choice.{pick, both, lookup}
use Rattle.choice.proofs.Laws.{both_parts}
use Rattle.address.specs.declared.Address.TheVariants.{V4, V6}
use Rattle.std.specs.Prelude.{Option, is_some, unwrap_or}
use Rattle.text.specs.Text.{digit_value, is_hex, hex_bytes_of}
use Rattle.interface.specs.declared.incoming.Call.{Call}
use Rattle.denied.specs.Prefixes.{covered}
use Rattle.denied.specs.Denied.{prefixes_of, read_denied}
use Rattle.state.specs.State.{State, empty, meeting}
use Rattle.state.specs.Outcomes.{Act, state_after}
use Rattle.state.specs.Step.{act}
use Rattle.lines.specs.Fields.{field_end, is_more, rest, number_up_to, is_address, word_at, address_of}
use Rattle.lines.specs.Lines.{Line, bad, asks, call_from_client, call_from_peer, with_datagram, client_line, peer_line, form_of, line_of}
use Rattle.script.specs.Run.{shown, line_act, answer_to, state_to}
use Rattle.lines.proofs.Read.{number_most, word_fits}
use Rattle.client_reader.specs.Fields.{Bytes, AddressFits}
use Rattle.history.specs.Events.{CallFits, Arrival, acts, outcome, replied, Event, Lived}
use Rattle.history.specs.Statement.{Demand3From}
use Rattle.history.specs.Lines.{Row, Ran, RanAll, FromLine, FromLines}
use Rattle.history.proofs.Demand.{demand_3_from}
use Rattle.history.specs.Causes.{CausesFrom}
use Rattle.history.proofs.Causes.{causes_from}
use Rattle.history.specs.Denied.{AllMeet, KeptOut}
use Rattle.history.proofs.Denied.{tree_stays, kept_out}
use Rattle.history.proofs.Whole.{accounts_empty}

-- ---- What a line reads is of its type
address_read : (l : List ℕ) → AddressFits (address_of l)
unfolding address_of word_at
address_read l = go (eqb (field_end l) 32) (eqb (field_end l) 8)
  where
    go : (six four : Bool) → AddressFits (pick six (V6 (word_at 0 l) (word_at 8 l) (word_at 16 l) (word_at 24 l)) (pick four (V4 (word_at 0 l)) (V4 0)))
    go true four = (word_fits _ refl refl, word_fits _ refl refl, word_fits _ refl refl, word_fits _ refl refl)
    go false true = word_fits _ refl refl
    go false false = lit< tt

hex_bytes_fit : (l : List ℕ) → is_hex l ≡ true → Bytes (hex_bytes_of l)
unfolding is_hex hex_bytes_of
hex_bytes_fit [] e i = lit< tt
hex_bytes_fit (c ∷ []) e i = absurd (false≢true e)
hex_bytes_fit (c ∷ d ∷ l) e zero =
    let p = both_parts (ltb (digit_value c) 16) (both (ltb (digit_value d) 16) (is_hex l)) e in
    let h : digit_value c < 16 = ltb-true (digit_value c) 16 p.0 in
    let k : digit_value d < 16 = ltb-true (digit_value d) 16 (both_parts (ltb (digit_value d) 16) (is_hex l) p.1).0 in
    omega arith
hex_bytes_fit (c ∷ d ∷ l) e (suc i) =
    hex_bytes_fit l (both_parts (ltb (digit_value d) 16) (is_hex l) (both_parts (ltb (digit_value c) 16) (both (ltb (digit_value d) 16) (is_hex l)) e).1).1 i

record LineFits (line : Line) : Type 0 where
  fits : (call : Call) (datagram : List ℕ) → line ≡ asks call datagram → CallFits call × Bytes datagram

bad_fits : LineFits bad
bad_fits = record { fits = λ call datagram e. let z : ◌≡◌ {A = ℕ} 0 1 = cc in let y : ⊥ = omega arith in absurd y }

pick_fits : (b : Bool) (x y : Line) → LineFits x → LineFits y → LineFits (pick b x y)
pick_fits true x y p q = p
pick_fits false x y p q = q

datagram_fits : (call : Call) (hex : List ℕ) → CallFits call → LineFits (with_datagram call hex)
unfolding with_datagram
datagram_fits call hex fits = go (is_hex hex) refl
  where
    go : (b : Bool) → is_hex hex ≡ b → LineFits (pick b (asks call (hex_bytes_of hex)) bad)
    go true e = record { fits = λ c d q. let p : call ≡ c = cc in let r : hex_bytes_of hex ≡ d = cc in (subst CallFits p fits, subst Bytes r (hex_bytes_fit hex e)) }
    go false e = bad_fits

client_fits : (l : List ℕ) → LineFits (client_line l)
unfolding client_line call_from_client
client_fits l = pick_fits good (with_datagram call (rest 5 l)) bad (datagram_fits call (rest 5 l) fits) bad_fits
  where
    time : Option ℕ
    time = number_up_to 18446744073709551615 l

    user : Option ℕ
    user = number_up_to 4294967295 (rest 1 l)

    start : Option ℕ
    start = number_up_to 4294967295 (rest 2 l)

    port : Option ℕ
    port = number_up_to 65535 (rest 4 l)

    good : Bool
    good = both (is_some time) (both (is_some user) (both (is_some start) (both (is_address (rest 3 l)) (both (is_some port) (is_more (rest 4 l))))))

    call : Call
    call = call_from_client (unwrap_or time 0) (unwrap_or user 0) (unwrap_or start 0) (address_of (rest 3 l)) (unwrap_or port 0)

    fits : CallFits call
    fits =
        let t = number_most 18446744073709551615 l in
        let u = number_most 4294967295 (rest 1 l) in
        let s = number_most 4294967295 (rest 2 l) in
        let p = number_most 65535 (rest 4 l) in
        (lit< tt, (address_read (rest 3 l), omega arith), (lit< tt, lit< tt), lit< tt, omega arith, omega arith, omega arith)

peer_fits : (l : List ℕ) → LineFits (peer_line l)
unfolding peer_line call_from_peer
peer_fits l = pick_fits good (with_datagram call (rest 4 l)) bad (datagram_fits call (rest 4 l) fits) bad_fits
  where
    time : Option ℕ
    time = number_up_to 18446744073709551615 l

    port : Option ℕ
    port = number_up_to 65535 (rest 2 l)

    relay_port : Option ℕ
    relay_port = number_up_to 65535 (rest 3 l)

    good : Bool
    good = both (is_some time) (both (is_address (rest 1 l)) (both (is_some port) (both (is_some relay_port) (is_more (rest 3 l)))))

    call : Call
    call = call_from_peer (unwrap_or time 0) (address_of (rest 1 l)) (unwrap_or port 0) (unwrap_or relay_port 0)

    fits : CallFits call
    fits =
        let t = number_most 18446744073709551615 l in
        let p = number_most 65535 (rest 2 l) in
        let r = number_most 65535 (rest 3 l) in
        ((address_read (rest 1 l), omega arith), (lit< tt, lit< tt, lit< tt), omega arith, omega arith)

form_fits : (l : List ℕ) → LineFits (form_of l)
unfolding form_of
form_fits [] = bad_fits
form_fits (letter ∷ []) = bad_fits
form_fits (letter ∷ tab ∷ l) =
    pick_fits (eqb tab 9) (lookup letter ((81, client_line l) ∷ (80, peer_line l) ∷ []) bad) bad
    (pick_fits (eqb letter 81) (client_line l) (pick (eqb letter 80) (peer_line l) bad) (client_fits l) (pick_fits (eqb letter 80) (peer_line l) bad (peer_fits l) bad_fits))
    bad_fits

line_fits : (l : List ℕ) → LineFits (line_of l)
unfolding line_of
line_fits l = pick_fits (ltb 3200 (length l)) bad (form_of l) bad_fits (form_fits l)

-- ---- One line
module _ (before after : State) (row : Row) (ran : Ran before row after) where
  short : ltb (length ran.output) 4096 ≡ false
  short = le-ltb (length ran.output) 4096 ran.room

  state_is : after ≡ state_to before (line_of row.line)
  state_is = rw short at ran.runs.state_is

  answer_is : row.answer ≡ answer_to before (line_of row.line)
  answer_is =
      let answer = answer_to before (line_of row.line) in
      let size : ran.size ≡ length answer = rw short at ran.runs.size_is in
      let written : ran.output' ≡ answer ++ drop (length answer) ran.output = rw short at ran.runs.output_is in
      ran.answered ∙ rw (size, written) (take_at answer (drop (length answer) ran.output) (length answer) refl)

-- the call of a line, with its fresh reply buffer
module _ (before : State) (call : Call) (datagram : List ℕ) (fits : CallFits call) (bytes : Bytes datagram) where
  abbrev arrival : Arrival
  arrival = record { call = call; datagram = datagram; reply = replicate 1536 0; denied = before.bookkeeping.denied; call_fits = fits; bytes = bytes }

  abbrev event : Event
  event = record { arrival = arrival; outcome = outcome before arrival; reply = replied before arrival }

  same_act : line_act before call datagram ≡ acts before arrival
  same_act = ap (act before call datagram) (sym (length-replicate {A = ℕ} 1536 0))

-- ---- The lines, one after another
pub lines_lived : (rows : List Row) (first last : State) → RanAll first rows last
    → (list : List Event) × FromLines rows list × Lived first list last × AllMeet first.bookkeeping.denied list
lines_lived [] first last ran = ([], refl, ran, tt)
lines_lived (row ∷ rows) first last ran =
    go (line_of row.line) (line_fits row.line) (state_is first ran.0 row ran.1) (answer_is first ran.0 row ran.1) (lines_lived rows ran.0 last ran.2)
  where
    go : (line : Line) → LineFits line → ran.0 ≡ state_to first line → row.answer ≡ answer_to first line
        → (list : List Event) × FromLines rows list × Lived ran.0 list last × AllMeet ran.0.bookkeeping.denied list
        → (list : List Event) × FromLine line row.answer (FromLines rows) list × Lived first list last × AllMeet first.bookkeeping.denied list
    go bad fits state answer more = (more.0, (answer, more.1), rw state at more.2, rw state at more.3)
    go (asks call datagram) fits state answer more =
        let f = fits.fits call datagram refl in
        let e = event first call datagram f.0 f.1 in
        let same = same_act first call datagram f.0 f.1 in (
          e ∷ more.0,
          (e, more.0, refl, record { call_is = refl; datagram_is = refl; answer_is = answer ∙ ap (λ (x : Act). shown x datagram (replicate 1536 0)) same }, more.1),
          (ran.0, record { outcome_is = refl; state_is = state ∙ ap (state_after first) same; reply_is = refl }, more.2),
          (refl, rw (ap (λ (st : State). st.bookkeeping.denied) state ∙ tree_stays first call datagram 1536) at more.3),
        )

-- demand 3 of the call program's lines, whatever tree of denied prefixes the empty relay has
pub lines_demand_3 : (denied : List ℕ) (rows : List Row) (last : State) → RanAll (meeting denied empty) rows last
    → (list : List Event) × FromLines rows list × Demand3From (meeting denied empty) [] list
lines_demand_3 denied rows last ran =
    let first = meeting denied empty in
    let l = lines_lived rows first last ran in
    (l.0, l.1, demand_3_from first [] accounts_empty l.0 last l.2)

-- what the field of `D` means, of the lines too
pub lines_causes : (denied : List ℕ) (rows : List Row) (last : State) → RanAll (meeting denied empty) rows last
    → (list : List Event) × FromLines rows list × CausesFrom [] list
lines_causes denied rows last ran =
    let first = meeting denied empty in
    let l = lines_lived rows first last ran in
    (l.0, l.1, causes_from first [] accounts_empty l.0 last l.2)

-- and of the lines that are run with the tree of a text: nothing passes between a client and an address that it denies
pub lines_kept_out : (text old : List ℕ) → (read_denied text old).number ≡ 0 → (rows : List Row) (last : State) → RanAll (meeting (read_denied text old).nodes empty) rows last
    → (list : List Event) × FromLines rows list
    × ((before after : List Event) (e : Event) → list ≡ before ++ e ∷ after → (x : ℕ) → x < 2 ^ 32 → covered (prefixes_of text) x ≡ true → KeptOut x e)
lines_kept_out text old taken rows last ran =
    let nodes = (read_denied text old).nodes in
    let l = lines_lived rows (meeting nodes empty) last ran in
    (l.0, l.1, kept_out text old nodes taken l.0 last l.2 l.3)
