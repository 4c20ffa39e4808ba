-- The laws of the lines that the call program writes.
use Prim.Native.Nat.{ℕ, suc, ◌+◌, ◌-◌, ◌<◌}
use mathlib.Core.Path.{◌≡◌, sym, ◌∙◌}
use mathlib.Core.List.{List, [], ◌∷◌, ◌++◌, append_assoc}
use native.Mathlib.Omega.{arith}
use native.Mathlib.Numerals.{add-one}
use lib.ListN.{length, get_or, drop, set, length-append}
use lib.Seq.{drop-cons, set_at}
use borrow.Rule.Slice.PartMut.{mid_of, put_mid}
use Rattle.address.specs.declared.TransportAddress.{TransportAddress}
use Rattle.wire.specs.Inner.{Wrote}
use Rattle.wire.proofs.Laws.{wrote_then}
use Rattle.messages.specs.Inner.{Sent}
use Rattle.text.specs.Text.{line_text, decimal, address_text, hex_bytes}
use Rattle.script.specs.Answers.{sent_to}

-- after A, one byte was stored
pub sent_end : (x : ℕ) {A d l : List ℕ} {m : ℕ} → Wrote A d l → m ≡ length A → m < length d → Sent (A ++ x ∷ []) d (set l m x) (m + 1)
sent_end x {A} {d} {l} {m} w e h =
    let n : length (A ++ x ∷ []) ≡ m + 1 = rw (length-append, e) in
    let s : l ≡ A ++ get_or d m 0 ∷ drop (suc m) d = w.is ∙ rw (← e, drop-cons d m 0 h) in
    record {
      wrote = record { fits = omega arith; is = rw (n, s, set_at A (get_or d m 0) (drop (suc m) d) x m (sym e), append_assoc, add-one) };
      size = sym n;
    }

-- after A, B was written into the part behind it
pub sent_then : {A B d d1 y : List ℕ} {m n : ℕ} → Sent A d d1 m → Sent B (mid_of m (length d1 - m) d1) y n
    → Sent (A ++ B) d (put_mid m (length d1 - m) d1 y) (m + n)
sent_then u v = record { wrote = wrote_then u.wrote (sym u.size) v.wrote; size = rw (length-append, u.size, v.size) }

-- a line's fields, one by one
pub line_sent : (peer : TransportAddress) (sent : List ℕ) {d l : List ℕ} {n : ℕ}
    → Sent (((address_text peer.address ++ 9 ∷ []) ++ (decimal peer.port ++ 9 ∷ [])) ++ (hex_bytes sent ++ 10 ∷ [])) d l n
    → Sent (line_text (sent_to peer sent)) d l n
unfolding line_text sent_to
line_sent peer sent w = simp append_assoc at w

pub line_to_peer : (port : ℕ) (peer : TransportAddress) (sent : List ℕ) {d l : List ℕ} {n : ℕ}
    → Sent (((70 ∷ 9 ∷ []) ++ (decimal port ++ 9 ∷ [])) ++ line_text (sent_to peer sent)) d l n
    → Sent (line_text ((70 ∷ []) ∷ decimal port ∷ sent_to peer sent)) d l n
unfolding line_text sent_to
line_to_peer port peer sent w = simp append_assoc at w
