-- The bytes that an outcome sends, as a part of the reply or of the datagram.
use Rattle.std.specs.Prelude.{ℕ, List, [], leb, length, take}
use Rattle.choice.specs.Choice.{pick}
use Rattle.wire.specs.Wire.{part_of}
use Rattle.rules.specs.declared.answer.Outcome.{Outcome}
use Rattle.rules.specs.declared.answer.Outcome.TheVariants.{Refused, DroppedLapsed, DroppedNever, DroppedOther, ToClient, ToPeer}

-- 'To the client': the first n bytes of the reply; 'To a peer': the payload, where it lies in the datagram
abbrev pub sent : Outcome → List ℕ → List ℕ → List ℕ
sent (Refused number) datagram reply = []
sent DroppedLapsed datagram reply = []
sent DroppedNever datagram reply = []
sent DroppedOther datagram reply = []
sent (ToClient fiveTuple len) datagram reply = pick (leb len (length reply)) (take len reply) []
sent (ToPeer port peer start len) datagram reply = part_of datagram start len
