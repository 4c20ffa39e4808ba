use native.Mathlib.Omega.{arith}
use Rattle.lines.proofs.Read.{client_no_time, client_no_user, client_no_start, client_no_address, client_no_port, client_asks, number_short, address_short}
use Rattle.lines.proofs.client_line.Goals as goal

pub returns-in_err-time : goal.returns-in_err-time
returns-in_err-time c = rw c.from_residual.ensures (client_no_time _ c.in_err-time.ensures.value)

pub returns-in_err-user : goal.returns-in_err-user
returns-in_err-user c = rw c.from_residual-in_err-user.ensures (client_no_user _ c.in_ok-time.ensures.value c.in_err-user.ensures.value)

pub returns-in_err-start : goal.returns-in_err-start
returns-in_err-start c = rw c.from_residual-in_err-start.ensures (client_no_start _ c.in_ok-time.ensures.value c.in_ok-user.ensures.value c.in_err-start.ensures.value)

pub returns-in_err-address : goal.returns-in_err-address
returns-in_err-address c = rw c.from_residual-in_err-address.ensures (client_no_address _ c.in_ok-time.ensures.value c.in_ok-user.ensures.value c.in_ok-start.ensures.value c.in_err-address.ensures)

pub returns-in_err-port : goal.returns-in_err-port
returns-in_err-port c = rw c.from_residual-in_err-port.ensures (client_no_port _ c.in_ok-time.ensures.value c.in_ok-user.ensures.value c.in_ok-start.ensures.value c.in_ok-address.ensures c.in_err-port.ensures.value)

pub with_datagram-requires : goal.with_datagram-requires
with_datagram-requires c =
    let t = number_short _ _ c.in_ok-time.ensures.value in
    let u = number_short _ _ c.in_ok-user.ensures.value in
    let s = number_short _ _ c.in_ok-start.ensures.value in
    let a = address_short _ c.in_ok-address.ensures in
    let p = number_short _ _ c.in_ok-port.ensures.value in
    (omega arith, omega arith)

pub returns : goal.returns
returns c = client_asks _ c.in_ok-time.ensures.value c.in_ok-user.ensures.value c.in_ok-start.ensures.value c.in_ok-address.ensures c.in_ok-port.ensures.value c.call_from_client-call.ensures c.with_datagram.ensures
