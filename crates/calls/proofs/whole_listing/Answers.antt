use Rattle.listing.proofs.Laws.{listing_fits}
use Rattle.calls.proofs.whole_listing.Goals as goal

pub returns : goal.returns
returns c = let whole = listing_fits c.list.ensures c.requires.0 c.requires.1 in (rw whole.0 at c.unwrap_or.ensures, whole.1)
