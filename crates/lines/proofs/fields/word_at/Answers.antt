use Rattle.lines.specs.Fields.{word_at}
use Rattle.lines.proofs.Read.{word_fits, eight}
use Rattle.lines.proofs.fields.word_at.Goals as goal

pub overflow_cast-result : goal.overflow_cast-result
overflow_cast-result c = record { fits = word_fits _ c.read_hex_word.ensures c.unwrap_or.ensures }

pub returns : goal.returns
unfolding word_at
returns c = rw (c.unwrap_or.ensures, c.read_hex_word.ensures, eight c.args.field.now c.args.k)
