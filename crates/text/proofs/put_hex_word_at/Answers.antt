use Rattle.wire.proofs.Laws.{wrote_then}
use Rattle.text.proofs.put_hex_word_at.Goals as goal

pub returns : goal.returns
returns c A d a u = wrote_then u a c.put_hex_word.ensures
