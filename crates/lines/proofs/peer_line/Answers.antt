use native.Mathlib.Omega.{arith}
use Rattle.lines.proofs.Read.{peer_no_time, peer_no_address, peer_no_port, peer_no_relay_port, peer_asks, number_short, address_short}
use Rattle.lines.proofs.peer_line.Goals as goal

pub returns-in_err-time : goal.returns-in_err-time
returns-in_err-time c = rw c.from_residual.ensures (peer_no_time _ c.in_err-time.ensures.value)

pub returns-in_err-address : goal.returns-in_err-address
returns-in_err-address c = rw c.from_residual-in_err-address.ensures (peer_no_address _ c.in_ok-time.ensures.value c.in_err-address.ensures)

pub returns-in_err-port : goal.returns-in_err-port
returns-in_err-port c = rw c.from_residual-in_err-port.ensures (peer_no_port _ c.in_ok-time.ensures.value c.in_ok-address.ensures c.in_err-port.ensures.value)

pub returns-in_err-relay_port : goal.returns-in_err-relay_port
returns-in_err-relay_port c = rw c.from_residual-in_err-relay_port.ensures (peer_no_relay_port _ c.in_ok-time.ensures.value c.in_ok-address.ensures c.in_ok-port.ensures.value c.in_err-relay_port.ensures.value)

pub with_datagram-requires : goal.with_datagram-requires
with_datagram-requires c =
    let t = number_short _ _ c.in_ok-time.ensures.value in
    let a = address_short _ c.in_ok-address.ensures in
    let p = number_short _ _ c.in_ok-port.ensures.value in
    let r = number_short _ _ c.in_ok-relay_port.ensures.value in
    (omega arith, omega arith)

pub returns : goal.returns
returns c = peer_asks _ c.in_ok-time.ensures.value c.in_ok-address.ensures c.in_ok-port.ensures.value c.in_ok-relay_port.ensures.value c.call_from_peer-call.ensures c.with_datagram.ensures
