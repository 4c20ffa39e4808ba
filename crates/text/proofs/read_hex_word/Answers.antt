use Rattle.text.proofs.Laws.{hex_word_of_lem, hex_word_of_none}
use Rattle.text.proofs.read_hex_word.Goals as goal

pub returns-then-s-ne8 : goal.returns-then-s-ne8
returns-then-s-ne8 c = hex_word_of_none _ c.if-s-ne8.true

pub returns : goal.returns
returns c = hex_word_of_lem _ c.if-s-ne8.false c.number.ensures
