use Prim.Native.Nat.{ℕ}
use Rattle.listing.specs.Inner.{entry_text}
use Rattle.listing.proofs.Laws.{Putting}
use Rattle.listing.proofs.puts.put_entries.Given as goal

abbrev pub invariant-loop-entry : goal.invariant-loop-entry
invariant-loop-entry g l =
    Putting (λ (j : ℕ). entry_text g.E.Entry.live g.E.Entry.line l.clock l.k) l.entries l.place l.initial.output l.output l.next l.entry-index
