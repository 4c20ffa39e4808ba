use Rattle.text.proofs.Laws.{decimal_wrote}
use Rattle.text.proofs.put_decimal.Goals as goal

pub returns : goal.returns
returns c = (c.decimal_size-size.ensures.0, decimal_wrote c.args.n c.decimal_size-size.ensures.0 c.put_digits.ensures)
