use Prim.Native.Nat.{ℕ}
use Rattle.listing.specs.Inner.{field_text}
use Rattle.listing.proofs.Laws.{Putting}
use Rattle.listing.proofs.puts.put_line.Given as goal

abbrev pub invariant-loop-field : goal.invariant-loop-field
invariant-loop-field l = Putting (λ (j : ℕ). field_text) l.fields l.place l.initial.output l.output l.next l.field-index
