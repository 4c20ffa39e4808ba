-- Document 01's 'Reading a client's datagram': what each kind of datagram asks.
use Rattle.std.specs.Prelude.{ℕ, List}
use Rattle.wire.specs.Wire.{num}
use Rattle.choice.specs.Choice.{pick}
use Rattle.stun.specs.declared.kinds.Class.{Class}
use Rattle.stun.specs.declared.kinds.Method.{Method}
use Rattle.stun.specs.declared.kinds.Method.TheVariants.{Allocate, Refresh, CreatePermission, ChannelBind}
use Rattle.stun.specs.declared.kinds.MessageKind.{MessageKind}
use Rattle.stun.specs.declared.kinds.MessageKind.TheVariants as Kind
use Rattle.stun.specs.Kinds.{message_kind_of}
use Rattle.stun.specs.Message.{sorted, is_well_formed}
use Rattle.decisions.specs.declared.client.Asked.{Asked}

abbrev pub request_asks : Method → Asked
request_asks Allocate = Asked.Allocate
request_asks Refresh = Asked.Refresh
request_asks CreatePermission = Asked.CreatePermission
request_asks ChannelBind = Asked.ChannelBind

-- 'Types read: 0x0003 Allocate, 0x0004 Refresh, 0x0008 CreatePermission, 0x0009 ChannelBind, 0x0016 Send indication. .. Other types are
-- dropped.'
abbrev pub kind_asks : MessageKind → Asked
kind_asks (Kind.Request method) = request_asks method
kind_asks (Kind.Success method) = Asked.Nothing
kind_asks (Kind.Error method) = Asked.Nothing
kind_asks Kind.SendIndication = Asked.Send
kind_asks Kind.DataIndication = Asked.Nothing
kind_asks Kind.Other = Asked.Nothing

-- 'STUN: at least 20 bytes; .. Otherwise dropped.'
abbrev pub class_asks : List ℕ → Class → Asked
class_asks s Class.Stun = pick (is_well_formed s) (kind_asks (message_kind_of (num s 0 2))) Asked.Nothing
class_asks s Class.ChannelData = Asked.ChannelData
class_asks s Class.Neither = Asked.Nothing

-- 'The first byte sorts it: 0 to 3 STUN, 64 to 79 ChannelData, all else dropped'
unfoldable pub asked_by : List ℕ → Asked
asked_by s = class_asks s (sorted s)
