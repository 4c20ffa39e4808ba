-- Exact reading as a function, for statements that compute with what is read. What it gives is told by `exact` in proofs/Laws.antt:
-- `Exact s (message_in s)`, of any bytes s; the places of the fields, in Inner.antt, need not be believed.
use Rattle.std.specs.Prelude.{ℕ, List, Option}
use Rattle.client_reader.specs.declared.Message.{Message}
use Rattle.client_reader.specs.Inner.{fields_of, checked}

unfoldable pub message_in : List ℕ → Option Message
message_in s = checked (fields_of s) s
