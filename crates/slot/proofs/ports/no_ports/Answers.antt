use mathlib.Core.Bool.{false}
use lib.ListN.{get_or-replicate}
use Rattle.slot.specs.Inner.{bits_of, held_in}
use Rattle.slot.proofs.ports.no_ports.Goals as goal

pub returns : goal.returns
unfolding bits_of held_in
returns c k h = get_or-replicate 128 k false false h
