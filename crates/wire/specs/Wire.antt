-- Numbers in network order, at any width, and a part of lent bytes.
use Rattle.std.specs.Prelude.{ℕ, zero, suc, ◌+◌, ◌*◌, ◌/◌, ◌%◌, ◌^◌, List, [], ◌∷◌, leb, length, get_or, take, drop}
use Rattle.choice.specs.Choice.{pick}

-- the number in the w bytes of s from at, the highest first
unfoldable pub num : List ℕ → ℕ → ℕ → ℕ
num s at zero = 0
num s at (suc w) = get_or s at 0 * 256 ^ w + num s (at + 1) w

-- n in w bytes, the highest first
unfoldable pub bytes_of : ℕ → ℕ → List ℕ
bytes_of zero n = []
bytes_of (suc w) n = n / 256 ^ w % 256 ∷ bytes_of w n

-- the n bytes of s from start on; none where they lie outside
unfoldable pub part_of : List ℕ → ℕ → ℕ → List ℕ
part_of s start n = pick (leb (start + n) (length s)) (take n (drop start s)) []
