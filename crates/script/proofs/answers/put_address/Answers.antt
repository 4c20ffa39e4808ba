use native.Mathlib.Omega.{arith}
use Rattle.text.proofs.Laws.{address_length}
use Rattle.script.proofs.Written.{sent_end}
use Rattle.script.proofs.answers.put_address.Goals as goal

pub put_address-size-requires : goal.put_address-size-requires
put_address-size-requires c = omega (arith, address_length c.args.address)

pub bounds-out-size : goal.bounds-out-size
bounds-out-size c = omega (arith, address_length c.args.address, c.put_address-size.ensures.0)

pub returns : goal.returns
returns c =
    let size = address_length c.args.address in
    (sent_end _ c.put_address-size.ensures.1 c.put_address-size.ensures.0 (omega (arith, size, c.put_address-size.ensures.0)), omega (arith, size, c.put_address-size.ensures.0))
