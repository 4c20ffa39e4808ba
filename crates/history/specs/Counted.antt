-- What demand 3 counts of a list of calls. Nothing here knows of a slot.
use Rattle.std.specs.Prelude.{Bool, false, not, List, [], ◌∷◌, ℕ, ◌+◌, eqb, ltb}
use Rattle.choice.specs.Choice.{pick, both}
use Rattle.address.specs.declared.Address.{Address}
use Rattle.address.specs.declared.FiveTuple.{FiveTuple}
use Rattle.address.specs.Address.{same_five_tuple}

-- an accepted Allocate gave C the port, for that many seconds from its time on; an accepted Refresh granted C that many seconds; an accepted
-- CreatePermission or ChannelBind of C was for these addresses, until the second at which it ends. Anything else counts as nothing
pub data Counted : Type 0 where
  gave : FiveTuple → (port time seconds : ℕ) → Counted
  kept : FiveTuple → (time seconds : ℕ) → Counted
  allowed : FiveTuple → List Address → (ends : ℕ) → Counted
  nothing : Counted

-- 'not zero and not over at t': 'over at t when time + seconds is t or less'
abbrev pub lasting : (t time seconds : ℕ) → Bool
lasting t time seconds = both (not (eqb seconds 0)) (ltb t (time + seconds))

-- whether the last lifetime granted to C is so, by what was counted, the newest first
unfoldable pub granted : List Counted → FiveTuple → (t : ℕ) → Bool
granted [] C t = false
granted (gave D port time seconds ∷ past) C t = pick (same_five_tuple D C) (lasting t time seconds) (granted past C t)
granted (kept D time seconds ∷ past) C t = pick (same_five_tuple D C) (lasting t time seconds) (granted past C t)
granted (allowed D addresses ends ∷ past) C t = granted past C t
granted (nothing ∷ past) C t = granted past C t

-- request 1: '"accepted Allocate" leaves such repeats out: it counts a success response only where, at the call's time, no lifetime was granted
-- to the 5-tuple yet, or the last one granted is zero or over'
abbrev pub without_repeats : List Counted → Counted → Counted
without_repeats past (gave C port time seconds) = pick (granted past C time) nothing (gave C port time seconds)
without_repeats past (kept C time seconds) = kept C time seconds
without_repeats past (allowed C addresses ends) = allowed C addresses ends
without_repeats past nothing = nothing
