use Rattle.lines.proofs.Read.{reads_hex}
use Rattle.lines.proofs.with_datagram.Goals as goal

pub returns-in_err-len : goal.returns-in_err-len
returns-in_err-len c = rw c.from_residual.ensures ((reads_hex _ c.args.left.now _ c.read_hex_bytes.ensures).1 c.in_err-len.was)

pub returns : goal.returns
returns c = (reads_hex _ c.args.left.now _ c.read_hex_bytes.ensures).0 _ c.in_ok-len.was
