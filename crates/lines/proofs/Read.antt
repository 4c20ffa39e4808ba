-- The laws of reading a line.
use Prim.Native.Nat.{ℕ, suc, ◌+◌, ◌-◌, ◌^◌, ◌<◌, ◌≤◌}
use mathlib.Core.Path.{◌≡◌, refl, sym, ap, ◌∙◌, subst}
use mathlib.Core.Bool.{Bool, true, false}
use mathlib.Core.List.{List, [], ◌∷◌}
use native.Mathlib.Decide.{ℕ_discrete}
use native.Mathlib.Omega.{arith}
use native.Mathlib.Numerals.{add-one}
use lib.Dec.{eqb, leb, ltb}
use borrow.Author.Rules.{part_to_end}
use borrow.Author.Tests.{leb-true, lt-ltb, le-ltb, le-leb, lt-leb, ltb-true, ltb-false, eq-eqb, ne_eqb}
use Rattle.std.specs.Prelude.{Option, None, Some, is_some, unwrap_or}
use Rattle.std.proofs.lemmas.List.{drop-take, take-append-drop, take-append-le}
use lib.ListN.{length, get_or, take, drop, length-drop, drop_of_length-le}
use lib.Seq.{length-take-le, take-append_seam, slice}
use Rattle.text.specs.Scan.{index_of}
use Rattle.choice.specs.Choice.{pick, both, lookup}
use Rattle.choice.proofs.Laws.{both_no, both_yes}
use Rattle.text.specs.Text.{decimal_of, hex_word_of, is_hex, hex_bytes_of}
use Rattle.text.specs.Inner.{ReadHex}
use Rattle.text.proofs.Laws.{hex_word_only, hex_into_lem, index_within}
use Rattle.address.specs.declared.Address.{Address}
use Rattle.interface.specs.declared.incoming.Call.{Call}
use Rattle.lines.specs.declared.Request.{Request}
use Rattle.lines.specs.Fields.{field_end, is_more, after, rest, at_most, number_up_to, is_address, word_at, address_of}
use Rattle.lines.specs.Inner.{split_field, number_field, read_address, address_field, Reads}
use Rattle.lines.specs.Lines.{Line, bad, asks, call_from_client, call_from_peer, with_datagram, client_line, peer_line, form_of, line_of}

-- ---- Fields

module _ (l : List ℕ) {end : ℕ} (e : end ≡ index_of 9 l) where
  pub split_none : length l ≤ end → None ≡ split_field l
  unfolding split_field is_more field_end
  split_none h = rw (le-ltb (index_of 9 l) (length l) (omega arith))

  pub split_some : end < length l → Some (take end l, take (length l - (end + 1)) (drop (end + 1) l)) ≡ split_field l
  unfolding split_field is_more after field_end
  split_some h =
      let k : index_of 9 l < length l = omega arith in
      rw (part_to_end l (end + 1), add-one, e, lt-ltb (index_of 9 l) (length l) k)

-- the first field, and what is behind its tab
record Split (l field behind : List ℕ) : Type 0 where
  more : is_more l ≡ true
  is : field ≡ take (field_end l) l
  left : behind ≡ after l

split_is : {l field behind : List ℕ} → Some (field, behind) ≡ split_field l → Split l field behind
unfolding split_field
split_is {l} {field} {behind} e = go (is_more l) refl e
  where
    go : (b : Bool) → is_more l ≡ b → ◌≡◌ {A = Option (List ℕ × List ℕ)} (Some (field, behind)) (pick b (Some (take (field_end l) l, after l)) None) → Split l field behind
    go true m s = let q : ◌≡◌ {A = List ℕ × List ℕ} (field, behind) (take (field_end l) l, after l) = cc in
        record { more = m; is = ap (λ (p : List ℕ × List ℕ). p.0) q; left = ap (λ (p : List ℕ × List ℕ). p.1) q }
    go false m s = absurd (cc)

not_split : (l : List ℕ) → None ≡ split_field l → is_more l ≡ false
unfolding split_field
not_split l e = go (is_more l) e
  where
    go : (b : Bool) → ◌≡◌ {A = Option (List ℕ × List ℕ)} None (pick b (Some (take (field_end l) l, after l)) None) → b ≡ false
    go true s = absurd (cc)
    go false s = refl

pub number_barred : (most : ℕ) (l : List ℕ) → None ≡ split_field l → None ≡ number_field most l
unfolding number_field
number_barred most l e = rw (not_split l e, both_no)

module _ (most : ℕ) (l : List ℕ) {field behind : List ℕ} (s : Some (field, behind) ≡ split_field l) {read : Option ℕ} (d : read ≡ decimal_of field) where
  number_is : number_field most l ≡ pick (is_some (at_most most read)) (Some (unwrap_or (at_most most read) 0, behind)) None
  unfolding number_field number_up_to
  number_is = let k = split_is s in rw (d, k.more, k.is, k.left, both_yes)

  pub number_none : read ≡ None → None ≡ number_field most l
  unfolding at_most
  number_none e = sym (number_is ∙ rw e)

  module _ {n : ℕ} (e : read ≡ Some n) where
    pub number_over : most < n → None ≡ number_field most l
    unfolding at_most
    number_over h = sym (number_is ∙ rw (e, lt-leb n most h))

    pub number_good : n ≤ most → Some (n, behind) ≡ number_field most l
    unfolding at_most
    number_good h = sym (number_is ∙ rw (e, le-leb n most h))

picked_fits : (n most : ℕ) (b : Bool) → leb n most ≡ b → unwrap_or (pick b (Some n) None) 0 ≤ most
picked_fits n most true e = leb-true n most e
picked_fits n most false e = omega arith

at_most_fits : (most : ℕ) (read : Option ℕ) → unwrap_or (at_most most read) 0 ≤ most
unfolding at_most
at_most_fits most (Some n) = picked_fits n most (leb n most) refl
at_most_fits most None = omega arith

-- a number that was read is within its bound
pub number_most : (most : ℕ) (l : List ℕ) → unwrap_or (number_up_to most l) 0 ≤ most
unfolding number_up_to
number_most most l = at_most_fits most (decimal_of (take (field_end l) l))

-- a word of eight digits fits
pub word_fits : (l : List ℕ) {r : Option ℕ} {v : ℕ} → r ≡ hex_word_of l → v ≡ unwrap_or r 0 → v < 2 ^ 32
word_fits l {r = Some n} e v = subst (λ k. k < 2 ^ 32) (sym v) (hex_word_only n l (sym e)).0
word_fits l {r = None} e v = omega (arith, v)

pub eight : (l : List ℕ) (k : ℕ) → take (k + 8 - k) (drop k l) ≡ slice k (k + 8) l
eight l k = let e : k + 8 - k ≡ 8 = omega arith in rw e (sym (drop-take k 8 l))

-- a word of a field is one of the line
word_same : (k end : ℕ) (l : List ℕ) → k + 8 ≤ end → end ≤ length l → word_at k (take end l) ≡ word_at k l
unfolding word_at
word_same k end l h m =
    let long : k + 8 ≤ length (take end l) = rw (length-take-le end l m) h in
    let same : take (k + 8) (take end l) ≡ take (k + 8) l = sym (take-append-le (k + 8) (take end l) (drop end l) long) ∙ ap (take (k + 8)) (take-append-drop end l) in
    rw same

picked_none : {X : Type 0} (b : Bool) → ◌≡◌ {A = Option X} (pick b None None) None
picked_none true = refl
picked_none false = refl

-- a field that is read as an address
field_address : (l : List ℕ) (end : ℕ) → field_end l ≡ end → end ≤ length l → read_address (take end l) ≡ pick (is_address l) (Some (address_of l)) None
unfolding read_address is_address address_of
field_address l end e h = go (ℕ_discrete end 32) (ℕ_discrete end 8)
  where
    long : length (take end l) ≡ end
    long = length-take-le end l h

    go : Dec (end ≡ 32) → Dec (end ≡ 8) → read_address (take end l) ≡ pick (is_address l) (Some (address_of l)) None
    go (yes p) q = rw (e, long, p, word_same 0 32 l (omega arith) (omega arith), word_same 8 32 l (omega arith) (omega arith), word_same 16 32 l (omega arith) (omega arith), word_same 24 32 l (omega arith) (omega arith))
    go (no n) (yes q) = rw (e, long, q, word_same 0 8 l (omega arith) (omega arith))
    go (no n) (no m) = rw (e, long, ne_eqb end 32 n, ne_eqb end 8 m) (picked_none (is_hex (take end l)))

pub address_barred : (l : List ℕ) → None ≡ split_field l → None ≡ address_field l
unfolding address_field
address_barred l e = rw (not_split l e, both_no)

module _ (l : List ℕ) {field behind : List ℕ} (s : Some (field, behind) ≡ split_field l) {read : Option Address} (d : read ≡ read_address field) where
  address_is : address_field l ≡ pick (is_address l) (Some (address_of l, behind)) None
  unfolding address_field
  address_is = let k = split_is s in rw (k.more, k.left, both_yes)

  address_read : read ≡ pick (is_address l) (Some (address_of l)) None
  unfolding field_end
  address_read = let k = split_is s in d ∙ ap read_address k.is ∙ field_address l (field_end l) refl (index_within 9 l)

  pub address_none : read ≡ None → None ≡ address_field l
  address_none e = go (is_address l) (sym e ∙ address_read) ∙ sym address_is
    where
      go : (b : Bool) → None ≡ pick b (Some (address_of l)) None → ◌≡◌ {A = Option (Address × List ℕ)} None (pick b (Some (address_of l, behind)) None)
      go true q = absurd (cc)
      go false q = refl

  pub address_good : {address : Address} → read ≡ Some address → Some (address, behind) ≡ address_field l
  address_good {address} e = go (is_address l) (sym e ∙ address_read) ∙ sym address_is
    where
      go : (b : Bool) → Some address ≡ pick b (Some (address_of l)) None → ◌≡◌ {A = Option (Address × List ℕ)} (Some (address, behind)) (pick b (Some (address_of l, behind)) None)
      go true q = let same : address ≡ address_of l = cc in rw same
      go false q = absurd (cc)

-- ---- Lines, one field after another

abbrev and_then : {X : Type 0} → Option X → (X → Line) → Line
and_then (Some x) next = next x
and_then None next = bad

-- behind a field that no tab follows is neither a number nor an address
none_behind : (l : List ℕ) → is_more l ≡ false → after l ≡ []
unfolding is_more after
none_behind l e = drop_of_length-le l {i = suc (field_end l)} (omega (arith, ltb-false (field_end l) (length l) e))

no_number : (most : ℕ) → number_field most [] ≡ None
unfolding number_field is_more field_end index_of
no_number most = rw both_no

no_address : address_field [] ≡ None
unfolding address_field is_more field_end index_of
no_address = rw both_no

picked_then : {X : Type 0} (b : Bool) (x : X) (next : X → Line) → and_then (pick b (Some x) None) next ≡ pick b (next x) bad
picked_then true x next = refl
picked_then false x next = refl

pick_both : (a b : Bool) (x : Line) → pick (both a b) x bad ≡ pick a (pick b x bad) bad
unfolding both
pick_both true b x = refl
pick_both false b x = refl

-- a tab has to follow only the last of the fields before the datagram: else the next one is bad
tab_follows : (a b : Bool) (x : Line) → (b ≡ false → x ≡ bad) → pick (both a b) x bad ≡ pick a x bad
unfolding both
tab_follows true true x h = refl
tab_follows true false x h = sym (h refl)
tab_follows false b x h = refl

abbrev after_number : (most : ℕ) (l : List ℕ) → ℕ × List ℕ
after_number most l = (unwrap_or (number_up_to most l) 0, after l)

number_last : (most : ℕ) (l : List ℕ) (next : ℕ × List ℕ → Line) → and_then (number_field most l) next ≡ pick (both (is_some (number_up_to most l)) (is_more l)) (next (after_number most l)) bad
unfolding number_field
number_last most l next = picked_then (both (is_some (number_up_to most l)) (is_more l)) (after_number most l) next

number_then : (most : ℕ) (l : List ℕ) (next : ℕ × List ℕ → Line) → (is_more l ≡ false → next (after_number most l) ≡ bad)
    → and_then (number_field most l) next ≡ pick (is_some (number_up_to most l)) (next (after_number most l)) bad
number_then most l next h = number_last most l next ∙ tab_follows (is_some (number_up_to most l)) (is_more l) (next (after_number most l)) h

address_then : (l : List ℕ) (next : Address × List ℕ → Line) → (is_more l ≡ false → next (address_of l, after l) ≡ bad)
    → and_then (address_field l) next ≡ pick (is_address l) (next (address_of l, after l)) bad
unfolding address_field
address_then l next h = picked_then (both (is_address l) (is_more l)) (address_of l, after l) next ∙ tab_follows (is_address l) (is_more l) (next (address_of l, after l)) h

-- the next field is a number or an address
number_next : (most : ℕ) (l : List ℕ) (next : ℕ × List ℕ → Line) → is_more l ≡ false → and_then (number_field most (after l)) next ≡ bad
number_next most l next e = rw (none_behind l e, no_number most)

address_next : (l : List ℕ) (next : Address × List ℕ → Line) → is_more l ≡ false → and_then (address_field (after l)) next ≡ bad
address_next l next e = rw (none_behind l e, no_address)

-- a client's line
module _ (time : ℕ) where
  abbrev client_port : (user start : ℕ) → Address → ℕ × List ℕ → Line
  client_port user start address port = with_datagram (call_from_client time user start address port.0) port.1

  abbrev client_address : (user start : ℕ) → Address × List ℕ → Line
  client_address user start address = and_then (number_field 65535 address.1) (client_port user start address.0)

  abbrev client_start : (user : ℕ) → ℕ × List ℕ → Line
  client_start user start = and_then (address_field start.1) (client_address user start.0)

  abbrev client_user : ℕ × List ℕ → Line
  client_user user = and_then (number_field 4294967295 user.1) (client_start user.0)

abbrev client_time : ℕ × List ℕ → Line
client_time time = and_then (number_field 4294967295 time.1) (client_user time.0)

client_is : (l : List ℕ) → client_line l ≡ and_then (number_field 18446744073709551615 l) client_time
unfolding client_line rest
client_is l =
    let t = unwrap_or (number_up_to 18446744073709551615 l) 0 in
    let u = unwrap_or (number_up_to 4294967295 (after l)) 0 in
    let s = unwrap_or (number_up_to 4294967295 (after (after l))) 0 in
    let a = address_of (after (after (after l))) in
    sym (number_then 18446744073709551615 l client_time (number_next 4294967295 l (client_user t))
    ∙ rw (
      number_then 4294967295 (after l) (client_user t) (number_next 4294967295 (after l) (client_start t u)),
      number_then 4294967295 (after (after l)) (client_start t u) (address_next (after (after l)) (client_address t u s)),
      address_then (after (after (after l))) (client_address t u s) (number_next 65535 (after (after (after l))) (client_port t u s a)),
      number_last 65535 (after (after (after (after l)))) (client_port t u s a),
    )
    (sym (pick_both _ _ _ ∙ rw (pick_both (is_some (number_up_to 4294967295 (after l))), pick_both (is_some (number_up_to 4294967295 (after (after l)))), pick_both (is_address (after (after (after l))))))))

-- a peer's line
module _ (time : ℕ) where
  abbrev peer_relay_port : Address → (port : ℕ) → ℕ × List ℕ → Line
  peer_relay_port address port relay_port = with_datagram (call_from_peer time address port relay_port.0) relay_port.1

  abbrev peer_port : Address → ℕ × List ℕ → Line
  peer_port address port = and_then (number_field 65535 port.1) (peer_relay_port address port.0)

  abbrev peer_address : Address × List ℕ → Line
  peer_address address = and_then (number_field 65535 address.1) (peer_port address.0)

abbrev peer_time : ℕ × List ℕ → Line
peer_time time = and_then (address_field time.1) (peer_address time.0)

peer_is : (l : List ℕ) → peer_line l ≡ and_then (number_field 18446744073709551615 l) peer_time
unfolding peer_line rest
peer_is l =
    let t = unwrap_or (number_up_to 18446744073709551615 l) 0 in
    let a = address_of (after l) in
    let p = unwrap_or (number_up_to 65535 (after (after l))) 0 in
    sym (number_then 18446744073709551615 l peer_time (address_next l (peer_address t))
    ∙ rw (
      address_then (after l) (peer_address t) (number_next 65535 (after l) (peer_port t a)),
      number_then 65535 (after (after l)) (peer_port t a) (number_next 65535 (after (after l)) (peer_relay_port t a p)),
      number_last 65535 (after (after (after l))) (peer_relay_port t a p),
    )
    (sym (pick_both _ _ _ ∙ rw (pick_both (is_address (after l)), pick_both (is_some (number_up_to 65535 (after (after l))))))))

pub reads_bad : {line : Line} {buffer : List ℕ} → line ≡ bad → Reads line buffer None
reads_bad {line} {buffer} e = subst (λ k. Reads k buffer None) (sym e) (record { is = refl; front = refl })

pub reads_as : {line line' : Line} {buffer : List ℕ} {r : Option Request} → line ≡ line' → Reads line' buffer r → Reads line buffer r
reads_as {buffer = buffer} {r = r} e k = subst (λ x. Reads x buffer r) (sym e) k

-- a client's line, as far as its fields were read
module _ (l : List ℕ) where
  pub client_no_time : {buffer : List ℕ} → None ≡ number_field 18446744073709551615 l → Reads (client_line l) buffer None
  client_no_time e = reads_bad (client_is l ∙ rw (← e))

  module _ {time : ℕ} {l₁ : List ℕ} (t : Some (time, l₁) ≡ number_field 18446744073709551615 l) where
    client_of_time : client_line l ≡ client_time (time, l₁)
    client_of_time = client_is l ∙ rw (← t)

    pub client_no_user : {buffer : List ℕ} → None ≡ number_field 4294967295 l₁ → Reads (client_line l) buffer None
    client_no_user e = reads_bad (client_of_time ∙ rw (← e))

    module _ {user : ℕ} {l₂ : List ℕ} (u : Some (user, l₂) ≡ number_field 4294967295 l₁) where
      client_of_user : client_line l ≡ client_user time (user, l₂)
      client_of_user = client_of_time ∙ rw (← u)

      pub client_no_start : {buffer : List ℕ} → None ≡ number_field 4294967295 l₂ → Reads (client_line l) buffer None
      client_no_start e = reads_bad (client_of_user ∙ rw (← e))

      module _ {start : ℕ} {l₃ : List ℕ} (s : Some (start, l₃) ≡ number_field 4294967295 l₂) where
        client_of_start : client_line l ≡ client_start time user (start, l₃)
        client_of_start = client_of_user ∙ rw (← s)

        pub client_no_address : {buffer : List ℕ} → None ≡ address_field l₃ → Reads (client_line l) buffer None
        client_no_address e = reads_bad (client_of_start ∙ rw (← e))

        module _ {address : Address} {l₄ : List ℕ} (a : Some (address, l₄) ≡ address_field l₃) where
          client_of_address : client_line l ≡ client_address time user start (address, l₄)
          client_of_address = client_of_start ∙ rw (← a)

          pub client_no_port : {buffer : List ℕ} → None ≡ number_field 65535 l₄ → Reads (client_line l) buffer None
          client_no_port e = reads_bad (client_of_address ∙ rw (← e))

          pub client_asks : {buffer : List ℕ} {port : ℕ} {l₅ : List ℕ} {call : Call} {r : Option Request} → Some (port, l₅) ≡ number_field 65535 l₄ → call ≡ call_from_client time user start address port
              → Reads (with_datagram call l₅) buffer r → Reads (client_line l) buffer r
          client_asks p c = reads_as (client_of_address ∙ rw (← p, ← c))

-- a peer's line
module _ (l : List ℕ) where
  pub peer_no_time : {buffer : List ℕ} → None ≡ number_field 18446744073709551615 l → Reads (peer_line l) buffer None
  peer_no_time e = reads_bad (peer_is l ∙ rw (← e))

  module _ {time : ℕ} {l₁ : List ℕ} (t : Some (time, l₁) ≡ number_field 18446744073709551615 l) where
    peer_of_time : peer_line l ≡ peer_time (time, l₁)
    peer_of_time = peer_is l ∙ rw (← t)

    pub peer_no_address : {buffer : List ℕ} → None ≡ address_field l₁ → Reads (peer_line l) buffer None
    peer_no_address e = reads_bad (peer_of_time ∙ rw (← e))

    module _ {address : Address} {l₂ : List ℕ} (a : Some (address, l₂) ≡ address_field l₁) where
      peer_of_address : peer_line l ≡ peer_address time (address, l₂)
      peer_of_address = peer_of_time ∙ rw (← a)

      pub peer_no_port : {buffer : List ℕ} → None ≡ number_field 65535 l₂ → Reads (peer_line l) buffer None
      peer_no_port e = reads_bad (peer_of_address ∙ rw (← e))

      module _ {port : ℕ} {l₃ : List ℕ} (p : Some (port, l₃) ≡ number_field 65535 l₂) where
        peer_of_port : peer_line l ≡ peer_port time address (port, l₃)
        peer_of_port = peer_of_address ∙ rw (← p)

        pub peer_no_relay_port : {buffer : List ℕ} → None ≡ number_field 65535 l₃ → Reads (peer_line l) buffer None
        peer_no_relay_port e = reads_bad (peer_of_port ∙ rw (← e))

        pub peer_asks : {buffer : List ℕ} {relay_port : ℕ} {l₄ : List ℕ} {call : Call} {r : Option Request} → Some (relay_port, l₄) ≡ number_field 65535 l₃ → call ≡ call_from_peer time address port relay_port
            → Reads (with_datagram call l₄) buffer r → Reads (peer_line l) buffer r
        peer_asks q c = reads_as (peer_of_port ∙ rw (← q, ← c))

-- what is left is no longer than the line
picked_short : {X : Type 0} (b : Bool) (x y : X) (l behind : List ℕ) → ◌≡◌ {A = Option (X × List ℕ)} (Some (y, behind)) (pick b (Some (x, drop (suc (field_end l)) l)) None) → length behind ≤ length l
picked_short {X} true x y l behind e =
    let q : ◌≡◌ {A = X × List ℕ} (y, behind) (x, drop (suc (field_end l)) l) = cc in
    omega (arith, ap (λ (p : X × List ℕ). length p.1) q ∙ length-drop (suc (field_end l)) l)
picked_short false x y l behind e = absurd (cc)

pub number_short : (most : ℕ) (l : List ℕ) {n : ℕ} {behind : List ℕ} → Some (n, behind) ≡ number_field most l → length behind ≤ length l
unfolding number_field after
number_short most l {n} {behind} e = picked_short (both (is_some (number_up_to most l)) (is_more l)) (unwrap_or (number_up_to most l) 0) n l behind e

pub address_short : (l : List ℕ) {address : Address} {behind : List ℕ} → Some (address, behind) ≡ address_field l → length behind ≤ length l
unfolding address_field after
address_short l {address} {behind} e = picked_short (both (is_address l) (is_more l)) (address_of l) address l behind e

-- the bytes of a hex text were read, or not
hex_reads : (call : Call) (hex before : List ℕ) {buffer : List ℕ} {read : Option ℕ} → ReadHex hex before buffer read → (b : Bool) → is_hex hex ≡ b
    → ((n : ℕ) → read ≡ Some n → Reads (with_datagram call hex) buffer (Some (record { call = call; len = n }))) × (read ≡ None → Reads (with_datagram call hex) buffer None)
unfolding with_datagram
hex_reads call hex before {buffer} {read} r true h = (λ n e. go n e, λ e. absurd (cc (e, told)))
  where
    told : read ≡ Some (length (hex_bytes_of hex))
    told = r.answer ∙ rw h

    go : (n : ℕ) → read ≡ Some n → Reads (with_datagram call hex) buffer (Some (record { call = call; len = n }))
    go n e =
        let w : with_datagram call hex ≡ asks call (hex_bytes_of hex) = rw h in
        let f : take (length (hex_bytes_of hex)) buffer ≡ hex_bytes_of hex = rw (r.is, hex_into_lem hex before h, take-append_seam (hex_bytes_of hex) (drop (length (hex_bytes_of hex)) before)) in
        let q : n ≡ length (hex_bytes_of hex) = cc (e, told) in
        reads_as w (record { is = rw q; front = f })
hex_reads call hex before {buffer} {read} r false h = (λ n e. absurd (cc (e, told)), λ e. reads_bad (rw h))
  where
    told : read ≡ None
    told = r.answer ∙ rw h

pub reads_hex : (call : Call) (hex before : List ℕ) {buffer : List ℕ} {read : Option ℕ} → ReadHex hex before buffer read
    → ((n : ℕ) → read ≡ Some n → Reads (with_datagram call hex) buffer (Some (record { call = call; len = n }))) × (read ≡ None → Reads (with_datagram call hex) buffer None)
reads_hex call hex before r = hex_reads call hex before r (is_hex hex) refl

-- ---- The line, by its first two characters

pub line_long : (l : List ℕ) {buffer : List ℕ} → 3200 < length l → Reads (line_of l) buffer None
unfolding line_of
line_long l h = reads_bad (rw (lt-ltb 3200 (length l) h))

line_short : (l : List ℕ) → length l < 2 → line_of l ≡ bad
unfolding line_of form_of
line_short [] h = refl
line_short (letter ∷ []) h = refl
line_short (letter ∷ tab ∷ l) h = let y : ⊥ = omega (arith, h) in absurd y

-- what a line of a letter and a tab is, by the letter
abbrev by_letter : List ℕ → Line
by_letter l = lookup (get_or l 0 0) ((81, client_line (drop 2 l)) ∷ (80, peer_line (drop 2 l)) ∷ []) bad

form_is : (l : List ℕ) → 2 ≤ length l → form_of l ≡ pick (eqb (get_or l 1 0) 9) (by_letter l) bad
unfolding form_of
form_is [] h = let y : ⊥ = omega (arith, h) in absurd y
form_is (letter ∷ []) h = let y : ⊥ = omega (arith, h) in absurd y
form_is (letter ∷ tab ∷ l) h = refl

line_is : (l : List ℕ) → length l ≤ 3200 → 2 ≤ length l → line_of l ≡ pick (eqb (get_or l 1 0) 9) (by_letter l) bad
unfolding line_of
line_is l h k = rw (le-ltb 3200 (length l) h, form_is l k)

-- the form is the client's or the peer's
module _ (l : List ℕ) {buffer : List ℕ} {r : Option Request} (h : length l ≤ 3200) (k : 2 ≤ length l) (t : get_or l 1 0 ≡ 9) where
  pub line_client : get_or l 0 0 ≡ 81 → Reads (client_line (take (length l - 2) (drop 2 l))) buffer r → Reads (line_of l) buffer r
  line_client e = reads_as (line_is l h k ∙ rw (t, e, part_to_end l 2))

  pub line_peer : get_or l 0 0 ≡ 80 → Reads (peer_line (take (length l - 2) (drop 2 l))) buffer r → Reads (line_of l) buffer r
  line_peer e = reads_as (line_is l h k ∙ rw (t, e, part_to_end l 2))

pub line_other : (l : List ℕ) {buffer : List ℕ} → length l ≤ 3200 → (2 ≤ length l → get_or l 1 0 ≡ 9 → get_or l 0 0 ≡ 81 → ⊥) → (2 ≤ length l → get_or l 1 0 ≡ 9 → get_or l 0 0 ≡ 80 → ⊥)
    → Reads (line_of l) buffer None
line_other l h q p = reads_bad (go (ltb (length l) 2) refl)
  where
    letter : 2 ≤ length l → Dec (get_or l 1 0 ≡ 9) → line_of l ≡ bad
    letter k (yes t) = line_is l h k ∙ rw (eq-eqb (get_or l 1 0) 9 t, ne_eqb (get_or l 0 0) 81 (q k t), ne_eqb (get_or l 0 0) 80 (p k t))
    letter k (no t) = line_is l h k ∙ rw (ne_eqb (get_or l 1 0) 9 t)

    go : (b : Bool) → ltb (length l) 2 ≡ b → line_of l ≡ bad
    go true e = line_short l (ltb-true (length l) 2 e)
    go false e = letter (ltb-false (length l) 2 e) (ℕ_discrete (get_or l 1 0) 9)
