use Rattle.stun.specs.Inner.{attributes_left}
use Rattle.stun.proofs.Laws.{Listed}
use Rattle.stun.proofs.message.unknown_types.Given as goal

abbrev pub invariant-loop-attribute : goal.invariant-loop-attribute
invariant-loop-attribute l = Listed l.s l.types l.count (attributes_left l.attribute-iterator)
