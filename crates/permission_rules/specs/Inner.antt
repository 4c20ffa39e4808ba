-- What the functions inside ChannelBind promise each other. No public statement rests on it.
use Rattle.std.specs.Prelude.{ℕ, Option, None}
use Rattle.choice.specs.Choice.{pick}
use Rattle.address.specs.declared.TransportAddress.{TransportAddress}
use Rattle.slot.specs.declared.Slot.{Slot}
use Rattle.slot.specs.Slot.{permit, bind}
use Rattle.slot.specs.Inner.{made}

-- the slot with the permission and the channel that ChannelBind would make, where there is room for both
unfoldable pub bound_where_room : (time number : ℕ) → TransportAddress → Slot → Option Slot
bound_where_room time number peer slot =
    let permitted = permit time peer.address slot in
    pick permitted.ok (made (bind time number peer permitted.slot)) None
