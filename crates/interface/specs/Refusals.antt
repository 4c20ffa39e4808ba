-- Document 01's refusals, 'in order, the first that applies'.
use Rattle.std.specs.Prelude.{ℕ, ◌^◌, not, eqb, ltb}
use Rattle.choice.specs.Choice.{pick}
use Rattle.address.specs.declared.FiveTuple.{FiveTuple}
use Rattle.address.specs.declared.TransportAddress.{TransportAddress}
use Rattle.address.specs.declared.TransactionId.{TransactionId}
use Rattle.interface.specs.declared.incoming.Call.{Call}
use Rattle.interface.specs.declared.incoming.Call.TheVariants.{Client, Peer}
use Rattle.interface.specs.declared.refusals.Lengths.{Lengths}

-- ---- The calls of a client's and of a peer's datagram

abbrev pub client_datagram : (time user start relay : ℕ) → FiveTuple → Call
client_datagram time user start relay fiveTuple = Client (record { time = time; user = user; start = start; relay = relay; five_tuple = fiveTuple })

abbrev pub peer_datagram : ℕ → TransportAddress → ℕ → TransactionId → Call
peer_datagram time source port id = Peer (record { time = time; source = source; port = port; id = id })

abbrev pub time_of : Call → ℕ
time_of (Client call) = call.time
time_of (Peer call) = call.time

-- ---- The refusals

-- the lengths that they look at
abbrev pub lengths : (slots datagram reply : ℕ) → Lengths
lengths slots datagram reply = record { slots = slots; datagram = datagram; reply = reply }

-- '7 protocol not 17 (client calls); 5 user over 32 (client calls)'
abbrev pub refused_caller : Call → ℕ → ℕ
refused_caller (Client call) rest =
    pick (not (eqb call.five_tuple.protocol 17)) 7 (pick (ltb 32 call.user) 5 rest)
refused_caller (Peer call) rest = rest

-- 'Refusals, in order, the first that applies: 3 reply buffer under 1,536 bytes; 6 not 64 slots; 4 datagram over 1,500 bytes; 7 ..;
-- 5 ..; 2 now over 2^40; 1 now below the clock.' 0 is none
unfoldable pub refusal : (clock : ℕ) → Lengths → Call → ℕ
refusal clock lengths call =
    pick (ltb lengths.reply 1536) 3
    (pick (not (eqb lengths.slots 64)) 6
    (pick (ltb 1500 lengths.datagram) 4
    (refused_caller call
    (pick (ltb (2 ^ 40) (time_of call)) 2
    (pick (ltb (time_of call) clock) 1
    0)))))
