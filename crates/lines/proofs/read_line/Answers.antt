use native.Mathlib.Omega.{arith}
use Rattle.lines.proofs.Read.{line_long, line_client, line_peer, line_other}
use Rattle.lines.proofs.read_line.Goals as goal

pub returns-then-line-gt3200 : goal.returns-then-line-gt3200
returns-then-line-gt3200 c = line_long _ c.if-line-gt3200.true

pub returns-in-81 : goal.returns-in-81
returns-in-81 c = line_client _ c.if-line-gt3200.false (omega arith) (omega arith) (omega arith) c.client_line.ensures

pub returns-in-80 : goal.returns-in-80
returns-in-80 c = line_peer _ c.if-line-gt3200.false (omega arith) (omega arith) (omega arith) c.peer_line.ensures

pub returns-in_default : goal.returns-in_default
returns-in_default c = line_other _ c.if-line-gt3200.false (λ k t l. omega arith) (λ k t l. omega arith)

pub returns-in_default-2 : goal.returns-in_default-2
returns-in_default-2 c = line_other _ c.if-line-gt3200.false (λ k t l. omega arith) (λ k t l. omega arith)

pub returns-in_default-3 : goal.returns-in_default-3
returns-in_default-3 c = line_other _ c.if-line-gt3200.false (λ k t l. omega arith) (λ k t l. omega arith)

pub returns-in_default-4 : goal.returns-in_default-4
returns-in_default-4 c = line_other _ c.if-line-gt3200.false (λ k t l. omega arith) (λ k t l. omega arith)
