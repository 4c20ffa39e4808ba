use Prim.Native.Nat.{ℕ}
use Rattle.listing.specs.Inner.{entry_text}
use Rattle.listing.proofs.Laws.{Sizing}
use Rattle.listing.proofs.sizes.entries_size.Given as goal

abbrev pub invariant-loop-entry : goal.invariant-loop-entry
invariant-loop-entry g l =
    Sizing (λ (j : ℕ). entry_text g.E.Entry.live g.E.Entry.line l.clock l.k) g.E.Entry.most l.entries l.size l.entry-index
