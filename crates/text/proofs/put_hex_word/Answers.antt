use Rattle.text.specs.Text.{hex_word}
use Rattle.text.proofs.put_hex_word.Goals as goal

pub returns : goal.returns
unfolding hex_word
returns c = c.put_digits.ensures
