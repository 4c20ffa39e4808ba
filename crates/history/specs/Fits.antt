-- The numbers in the relay's state are of the types that the code gives them (`crates/slot/src/lib.rt`), which a definition's numbers do not say.
use Rattle.std.specs.Prelude.{ℕ, ◌<◌, ◌^◌, ◌≡◌, length}
use Rattle.slot.specs.declared.Allocation.{Allocation}
use Rattle.slot.specs.declared.Permission.{Permission}
use Rattle.slot.specs.declared.Channel.{Channel}
use Rattle.slot.specs.declared.Slot.{Slot}
use Rattle.table.specs.Table.{slot_at}
use Rattle.state.specs.State.{State, clock_of}
use Rattle.client_reader.specs.Fields.{IdFits, AddressFits}
use Rattle.history.specs.Events.{TransportFits}
use Rattle.history.specs.Statement.{permission_at, channel_at}

pub record AllocationFits (allocation : Allocation) : Type 0 where
  pub user : allocation.user < 2 ^ 8
  pub client : TransportFits allocation.five_tuple.client
  pub server : TransportFits allocation.five_tuple.server
  pub protocol : allocation.five_tuple.protocol < 2 ^ 8
  pub port : allocation.port < 2 ^ 16
  pub expiry : allocation.expiry < 2 ^ 64

pub record PermissionFits (permission : Permission) : Type 0 where
  pub address : AddressFits permission.address
  pub expiry : permission.expiry < 2 ^ 64

pub record ChannelFits (channel : Channel) : Type 0 where
  pub number : channel.number < 2 ^ 16
  pub peer : TransportFits channel.peer
  pub expiry : channel.expiry < 2 ^ 64

-- 'with its eight permissions and eight channels beside them'
pub record SlotFits (slot : Slot) : Type 0 where
  pub allocation : AllocationFits slot.allocation
  pub transaction_id : IdFits slot.transaction_id
  pub eight_permissions : length slot.permissions ≡ 8
  pub permissions : (i : ℕ) → PermissionFits (permission_at slot.permissions i)
  pub eight_channels : length slot.channels ≡ 8
  pub channels : (i : ℕ) → ChannelFits (channel_at slot.channels i)

-- 'A clock and 64 slots.'
pub record StateFits (st : State) : Type 0 where
  pub clock : clock_of st < 2 ^ 64
  pub sixty_four : length st.slots ≡ 64
  pub slots : (i : ℕ) → SlotFits (slot_at st.slots i)
