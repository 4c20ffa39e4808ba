use native.Mathlib.Omega.{arith}
use Rattle.text.proofs.Laws.{decimal-length}
use Rattle.script.proofs.Written.{sent_end}
use Rattle.script.proofs.answers.put_number.Goals as goal

pub put_decimal-size-requires : goal.put_decimal-size-requires
put_decimal-size-requires c = omega (arith, decimal-length c.args.n (omega arith))

pub bounds-out-size : goal.bounds-out-size
bounds-out-size c = omega (arith, decimal-length c.args.n (omega arith), c.put_decimal-size.ensures.0)

pub returns : goal.returns
returns c =
    let size = decimal-length c.args.n (omega arith) in
    (sent_end _ c.put_decimal-size.ensures.1 c.put_decimal-size.ensures.0 (omega (arith, size, c.put_decimal-size.ensures.0)), omega (arith, size, c.put_decimal-size.ensures.0))
