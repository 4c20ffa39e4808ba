-- The laws of texts that are put one after another, and of their sizes: what each loop shows where it starts, goes on and ends.
use Prim.Native.Nat.{ℕ, zero, suc, ◌+◌, ◌-◌, ◌*◌, ◌^◌, ◌≤◌, ◌<◌}
use mathlib.Core.Path.{◌≡◌, refl, sym, ap, ◌∙◌, subst}
use mathlib.Core.Bool.{Bool, true, false}
use mathlib.Core.List.{List, [], ◌∷◌, ◌++◌, append_assoc, append-nil}
use native.Mathlib.Omega.{arith}
use native.Mathlib.Nat.{suc-add, add-suc, add-zero, zero-add, suc-mul, lt_of_lt_of_le}
use native.Mathlib.Numerals.{add-one}
use lib.Dec.{leb, lit≤}
use borrow.Author.Tests.{eq-eqb, ne_eqb, le-leb, lt-leb}
use lib.ListN.{length, get_or, take, drop, set, length-append, length-drop, take-append-drop, drop_of_length-le}
use lib.Seq.{take_all, take_at, drop_at, drop-drop, set_split, length-take-le}
use borrow.Rule.Slice.PartMut.{mid_of, put_mid}
use Rattle.wire.specs.Inner.{Wrote}
use Rattle.text.specs.Text.{line_text, decimal}
use Rattle.text.proofs.Laws.{length-decimal, size_le, decimal-length, address_length}
use Rattle.slot.specs.declared.Allocation.{Allocation}
use Rattle.slot.specs.declared.Permission.{Permission}
use Rattle.slot.specs.declared.Channel.{Channel}
use Rattle.slot.specs.declared.Slot.{Slot}
use Rattle.slot.specs.Slot.{live_allocation, live_permission, live_channel}
use Rattle.std.proofs.lemmas.List.Sums.{sum_by-cons}
use Rattle.std.specs.Prelude.{sum_by, Result, Ok, Err}
use Rattle.refusal.specs.declared.Refusal.{Refusal}
use Rattle.refusal.specs.declared.Refusal.TheVariants.{NotSixtyFourSlots, ShortOutput}
use Rattle.listing.specs.Listing.{allocation_line, permission_text, channel_text, permission_line, channel_line, permission_lines, channel_lines, slot_lines, listing, Lists}
use Rattle.listing.specs.Texts.{texts}
use Rattle.listing.specs.Inner.{Put, entries_text}

-- ---- a text at a place

pub put_length : {text d l : List ℕ} {place next : ℕ} → Put text place d l next → length l ≡ length d
put_length {text} {d} {l} {place} p =
    ap length p.is ∙ rw (length-append, length-append, length-take-le place d (omega (arith, p.fits)), length-drop) (omega (arith, p.fits))

pub put_none : (d : List ℕ) (place : ℕ) → place ≤ length d → Put [] place d d place
put_none d place h = record {
  fits = omega arith;
  is = rw (append-nil, add-zero) (sym (take-append-drop place d));
  then = omega arith;
}

pub put_one : (d : List ℕ) (place b : ℕ) → place + 1 ≤ length d → Put (b ∷ []) place d (set d place b) (place + 1)
put_one d place b h = record {
  fits = h;
  is = rw (set_split d place b (omega arith), append_assoc, add-one);
  then = refl;
}

-- what a writer put at the front of the part from the place on
pub put_part : {text d y : List ℕ} {place next : ℕ} → place ≤ length d → Wrote text (mid_of place (length d - place) d) y → next ≡ place + length text
    → Put text place d (put_mid place (length d - place) d y) next
put_part {text} {d} {y} {place} h w e =
    let m : mid_of place (length d - place) d ≡ drop place d = take_all (length d - place) (drop place d) (rw length-drop (omega arith)) in
    let n : drop (length d - place) (drop place d) ≡ [] = drop_of_length-le (drop place d) {i = length d - place} (rw length-drop (omega arith)) in
    let f : length text ≤ length d - place = simp (m, length-drop) at w.fits in
    record {
      fits = omega arith;
      is = rw (n, append-nil, w.is, m, drop-drop, append_assoc);
      then = e;
    }

-- two texts, one after the other
pub put_then : {s t d d1 d2 : List ℕ} {place n1 n2 : ℕ} → Put s place d d1 n1 → Put t n1 d1 d2 n2 → Put (s ++ t) place d d2 n2
put_then {s} {t} {d} {d1} {d2} {place} {n1} {n2} p q =
    let l : length (take place d ++ s) ≡ n1 = rw (length-append, length-take-le place d (omega (arith, p.fits))) (sym p.then) in
    let a : take n1 d1 ≡ take place d ++ s = ap (take n1) p.is ∙ take_at (take place d ++ s) (drop (place + length s) d) n1 l in
    let b : drop n1 d1 ≡ drop (place + length s) d = ap (drop n1) p.is ∙ drop_at (take place d ++ s) (drop (place + length s) d) n1 l in
    let g = put_length p in
    let e : place + length (s ++ t) ≡ place + length s + length t = rw length-append (omega arith) in
    record {
      fits = omega (arith, q.fits, p.then);
      is = rw (q.is, ← drop-drop, a, b, drop-drop, e, append_assoc (take place d) s t);
      then = omega (arith, q.then, p.then);
    }

-- there is room for a text whose writer is asked for the whole
pub room_first : (s t : List ℕ) (place : ℕ) {m : ℕ} → place + length (s ++ t) ≤ m → place + length s ≤ m
room_first s t place h = omega (arith, h, length-append s t)

pub put_room : {s d d1 : List ℕ} {place n1 : ℕ} (t : List ℕ) → Put s place d d1 n1 → place + length (s ++ t) ≤ length d → n1 + length t ≤ length d1
put_room {s} t p h = omega (arith, p.then, put_length p, h, length-append s t)

-- a text that is the same as another
pub room_as : {s t : List ℕ} (place : ℕ) {m : ℕ} → s ≡ t → place + length s ≤ m → place + length t ≤ m
room_as {s} {t} place {m} e h = subst (λ (x : List ℕ). place + length x ≤ m) e h

pub put_as : {s t d l : List ℕ} {place next : ℕ} → s ≡ t → Put t place d l next → Put s place d l next
put_as {s} {t} {d} {l} {place} {next} e p = subst (λ (x : List ℕ). Put x place d l next) (sym e) p

-- ---- texts of the entries of a list, one by one

pub texts_size : {A : Type 0} (text : A → List ℕ) (k : ℕ) (l : List A) → sum_by (λ x. length (text x)) l ≡ length (texts (λ (i : ℕ). text) k l)
unfolding texts
texts_size text k [] = refl
texts_size text k (x ∷ l) = rw (sum_by-cons, length-append) (ap (λ (n : ℕ). length (text x) + n) (texts_size text (suc k) l))

module _ {A : Type 0} (f : ℕ → A → List ℕ) where
  texts_more : (k : ℕ) (l : List A) (i : ℕ) (d : A) → i < length l → texts f k (take (suc i) l) ≡ texts f k (take i l) ++ f (k + i) (get_or l i d)
  unfolding texts
  texts_more k [] i d h = let y : ⊥ = omega arith in absurd y
  texts_more k (x ∷ l) zero d h = rw (append-nil, add-zero)
  texts_more k (x ∷ l) (suc i) d h = rw (texts_more (suc k) l i d (omega arith), append_assoc, suc-add, add-suc)

  texts_fit : (k : ℕ) (l : List A) (i : ℕ) (d : A) → i < length l → length (texts f k (take i l)) + length (f (k + i) (get_or l i d)) ≤ length (texts f k l)
  unfolding texts
  texts_fit k [] i d h = let y : ⊥ = omega arith in absurd y
  texts_fit k (x ∷ l) zero d h = rw (length-append, add-zero) (omega arith)
  texts_fit k (x ∷ l) (suc i) d h = rw (length-append, length-append, add-suc, ← suc-add) (omega (arith, texts_fit (suc k) l i d (omega arith)))

  -- the texts of the first i entries are put
  pub record Putting (l : List A) (place : ℕ) (d out : List ℕ) (next i : ℕ) : Type 0 where
    pub within : i ≤ length l
    pub is : Put (texts f 0 (take i l)) place d out next

  -- their size is known; each is at most `most`
  pub record Sizing (most : ℕ) (l : List A) (size i : ℕ) : Type 0 where
    pub within : i ≤ length l
    pub is : size ≡ length (texts f 0 (take i l))
    pub low : size ≤ i * most

module _ {A : Type 0} {f : ℕ → A → List ℕ} where
  pub putting_start : (l : List A) (place : ℕ) (d : List ℕ) → place ≤ length d → Putting f l place d d place 0
  unfolding texts
  putting_start l place d h = record { within = omega arith; is = put_none d place h }

  pub sizing_start : (most : ℕ) (l : List A) → Sizing f most l 0 0
  unfolding texts
  sizing_start most l = record { within = omega arith; is = refl; low = omega arith }

  module _ {l : List A} {place : ℕ} {d out : List ℕ} {next i : ℕ} (r : Putting f l place d out next i) where
    pub putting_fits : {x : A} (e : A) → i < length l → x ≡ get_or l i e → place + length (texts f 0 l) ≤ length d → next + length (f i x) ≤ length out
    putting_fits {x} e h g m = rw g (omega (arith, r.is.then, put_length r.is, rw zero-add at (texts_fit f 0 l i e h)))

    pub putting_next : {after : List ℕ} {then : ℕ} {x : A} (e : A) → i < length l → x ≡ get_or l i e → Put (f i x) next out after then
        → Putting f l place d after then (i + 1)
    putting_next {x = x} e h g p =
        record { within = omega arith; is = rw (add-one, texts_more f 0 l i e h, zero-add, ← g) (put_then r.is p) }

    pub putting_end : length l ≤ i → Put (texts f 0 l) place d out next
    putting_end h = rw (take_all i l h) at r.is

  module _ {most : ℕ} {l : List A} {size i : ℕ} (r : Sizing f most l size i) where
    pub sizing_next : {n : ℕ} {x : A} (e : A) → i < length l → x ≡ get_or l i e → n ≡ length (f i x) → n ≤ most → Sizing f most l (size + n) (i + 1)
    sizing_next {n} {x} e h g q b = record {
      within = omega arith;
      is = rw (add-one, texts_more f 0 l i e h, zero-add, ← g, length-append, ← q) (ap (λ (m : ℕ). m + n) r.is);
      low = rw (add-one, suc-mul) (omega (arith, r.low));
    }

    pub sizing_end : length l ≤ i → size ≡ length (texts f 0 l)
    sizing_end h = rw (take_all i l h) at r.is

-- ---- the lines of a slot

pub lines_live : (clock k : ℕ) (slot : Slot) {live : Bool} → live ≡ live_allocation clock slot.allocation → live ≡ true
    → slot_lines clock k slot
    ≡ allocation_line k slot.allocation
    ++ entries_text live_permission permission_text clock k slot.permissions
    ++ entries_text live_channel channel_text clock k slot.channels
unfolding slot_lines permission_lines channel_lines permission_line channel_line entries_text
lines_live clock k slot e t = rw (sym e ∙ t)

pub lines_lapsed : (clock k : ℕ) (slot : Slot) {live : Bool} → live ≡ live_allocation clock slot.allocation → live ≡ false → slot_lines clock k slot ≡ []
unfolding slot_lines
lines_lapsed clock k slot e t = rw (sym e ∙ t)

pub lines_size : (clock k : ℕ) (slot : Slot) {live : Bool} → live ≡ live_allocation clock slot.allocation → live ≡ true
    → length (slot_lines clock k slot)
    ≡ length (allocation_line k slot.allocation)
    + length (entries_text live_permission permission_text clock k slot.permissions)
    + length (entries_text live_channel channel_text clock k slot.channels)
lines_size clock k slot e t = rw (lines_live clock k slot e t, length-append, length-append) (omega arith)

-- ---- how long a line can be, where the slot's number is below 64 and every field fits its type

decimal_most : (w n : ℕ) → n < 10 ^ suc w → length (decimal n) ≤ suc w
decimal_most w n h = rw length-decimal (size_le w n h)

number_most : (k : ℕ) → k < 64 → length (decimal k) ≤ 2
number_most k h = decimal_most 1 k (lt_of_lt_of_le h (lit≤ tt))

word_most : (n : ℕ) → n < 2 ^ 16 → length (decimal n) ≤ 5
word_most n h = decimal_most 4 n (lt_of_lt_of_le h (lit≤ tt))

pub allocation_most : (k : ℕ) (a : Allocation) → k < 64 → a.user < 2 ^ 8 → a.five_tuple.client.port < 2 ^ 16 → a.five_tuple.server.port < 2 ^ 16 → a.port < 2 ^ 16 → a.expiry < 2 ^ 64
    → length (allocation_line k a) ≤ 114
unfolding allocation_line line_text
allocation_most k a hk hu hc hs hp he =
    rw (length-append, length-append, length-append, length-append, length-append, length-append, length-append, length-append, length-append)
    (omega (arith, number_most k hk, decimal_most 2 a.user (lt_of_lt_of_le hu (lit≤ tt)), address_length a.five_tuple.client.address, word_most _ hc, address_length a.five_tuple.server.address, word_most _ hs, word_most _ hp, decimal-length _ he))

pub permission_most : (k : ℕ) (p : Permission) → k < 64 → p.expiry < 2 ^ 64 → length (permission_text k p) ≤ 59
unfolding permission_text line_text
permission_most k p hk he =
    rw (length-append, length-append, length-append, length-append) (omega (arith, number_most k hk, address_length p.address, decimal-length _ he))

pub channel_most : (k : ℕ) (c : Channel) → k < 64 → c.number < 2 ^ 16 → c.peer.port < 2 ^ 16 → c.expiry < 2 ^ 64 → length (channel_text k c) ≤ 71
unfolding channel_text line_text
channel_most k c hk hn hp he =
    rw (length-append, length-append, length-append, length-append, length-append, length-append)
    (omega (arith, number_most k hk, word_most _ hn, address_length c.peer.address, word_most _ hp, decimal-length _ he))

-- ---- the walks over the slots

module _ (clock : ℕ) {slots : List Slot} {size i : ℕ} (r : Sizing (slot_lines clock) 1154 slots size i) where
  pub listing-sum : {n : ℕ} → length slots ≡ 64 → i < length slots → n ≤ 1154 → size + n < 2 ^ 64
  listing-sum e h b = omega (arith, r.low)

  pub listing_sized : length slots ≡ 64 → length slots ≤ i → (size ≡ length (listing clock slots)) × (size ≤ 73856)
  unfolding listing
  listing_sized e h = (sizing_end r h, omega (arith, r.low, r.within))

pub listing_start : (clock : ℕ) (slots : List Slot) (d : List ℕ) → Putting (slot_lines clock) slots 0 d d 0 0
listing_start clock slots d = putting_start slots 0 d (omega arith)

module _ (clock : ℕ) {slots : List Slot} {d out : List ℕ} {place i : ℕ} (r : Putting (slot_lines clock) slots 0 d out place i) where
  pub lines_fit : {slot : Slot} (e : Slot) → i < length slots → slot ≡ get_or slots i e → length (listing clock slots) ≤ length d → place + length (slot_lines clock i slot) ≤ length out
  unfolding listing
  lines_fit e h g b = putting_fits r e h g (rw zero-add b)

  pub listing_put : length slots ≤ i → out ≡ listing clock slots ++ drop (length (listing clock slots)) d
  unfolding listing
  listing_put h = (putting_end r h).is ∙ rw zero-add

-- ---- what a listing answers

module _ {clock : ℕ} {slots : List Slot} {d : List ℕ} where
  pub lists_count : (length slots ≡ 64 → ⊥) → Lists clock slots d d (Err NotSixtyFourSlots)
  lists_count n = record { answers = rw (ne_eqb (length slots) 64 n); output = rw (ne_eqb (length slots) 64 n); most = λ e. absurd (n e) }

  module _ (e : length slots ≡ 64) {size : ℕ} (q : (size ≡ length (listing clock slots)) × (size ≤ 73856)) where
    pub lists_short : length d < size → Lists clock slots d d (Err ShortOutput)
    lists_short h =
        let f = eq-eqb (length slots) 64 e in
        let g : leb (length (listing clock slots)) (length d) ≡ false = lt-leb (length (listing clock slots)) (length d) (rw (← q.0) h) in
        record { answers = rw (f, g); output = rw (f, g); most = λ _. rw (← q.0) q.1 }

    pub lists_whole : {l : List ℕ} → size ≤ length d → l ≡ listing clock slots ++ drop (length (listing clock slots)) d → Lists clock slots d l (Ok size)
    lists_whole {l} h p =
        let f = eq-eqb (length slots) 64 e in
        let g : leb (length (listing clock slots)) (length d) ≡ true = le-leb (length (listing clock slots)) (length d) (rw (← q.0) h) in
        record { answers = rw (f, g, q.0); output = rw (f, g) p; most = λ _. rw (← q.0) q.1 }

  -- every listing of 64 slots fits into 73,856 bytes: it is never refused for room there
  pub listing_fits : {l : List ℕ} {answer : Result ℕ Refusal} → Lists clock slots d l answer → length slots ≡ 64 → 73856 ≤ length d
      → (answer ≡ Ok (length (listing clock slots))) × (l ≡ listing clock slots ++ drop (length (listing clock slots)) d)
  listing_fits p e h =
      let f = eq-eqb (length slots) 64 e in
      let g : leb (length (listing clock slots)) (length d) ≡ true = le-leb (length (listing clock slots)) (length d) (omega (arith, p.most e)) in
      (p.answers ∙ rw (f, g), p.output ∙ rw (f, g))
