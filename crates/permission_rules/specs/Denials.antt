-- Request 2's peers that the relay never makes a permission for: 'in CreatePermission for any address and in ChannelBind'.
use Rattle.std.specs.Prelude.{ℕ, Bool, false, List, Option}
use Rattle.address.specs.declared.Address.{Address}
use Rattle.address.specs.declared.Address.TheVariants.{V4, V6}
use Rattle.address.specs.declared.TransportAddress.{TransportAddress}
use Rattle.stun.specs.Values.{peer_or_nobody, peers, first_peer}
use Rattle.choice.specs.Choice.{any}
use Rattle.denied.specs.Tree.{denied}

-- the prefixes are of IPv4; an IPv6 address gets 443 before
abbrev pub denied_address : (nodes : List ℕ) → Address → Bool
denied_address nodes (V4 a) = denied nodes a
denied_address nodes (V6 a b c d) = false

abbrev pub denied_peer : (nodes : List ℕ) → Option TransportAddress → Bool
denied_peer nodes v = denied_address nodes (peer_or_nobody v).address

-- 'in CreatePermission for any address'
abbrev pub any_denied : (nodes s : List ℕ) → Bool
any_denied nodes s = any (denied_peer nodes) (peers s)

-- 'and in ChannelBind'
abbrev pub first_denied : (nodes s : List ℕ) → Bool
first_denied nodes s = denied_peer nodes (first_peer s)
