-- The laws of the refusals' numbers: each is told from its number, and 0 alone of those up to 10 is none.
use Prim.Native.Nat.{ℕ, zero, suc, ◌≤◌}
use mathlib.Core.Path.{◌≡◌, refl}
use native.Mathlib.Omega.{arith}
use Rattle.std.specs.Prelude.{Some, None}
use Rattle.refusal.specs.declared.Refusal.{Refusal}
use Rattle.refusal.specs.declared.Refusal.TheVariants.{TimeBelowClock, TimeTooLate, ShortReply, LongDatagram, UnknownUser, NotSixtyFourSlots, NotUdp, ShortOutput, BadLine, TooManyNodes}
use Rattle.refusal.specs.Refusal.{number, numbered}

pub numbered_number : (r : Refusal) → numbered (number r) ≡ Some r
numbered_number TimeBelowClock = refl
numbered_number TimeTooLate = refl
numbered_number ShortReply = refl
numbered_number LongDatagram = refl
numbered_number UnknownUser = refl
numbered_number NotSixtyFourSlots = refl
numbered_number NotUdp = refl
numbered_number ShortOutput = refl
numbered_number BadLine = refl
numbered_number TooManyNodes = refl

pub none_numbered : (n : ℕ) → n ≤ 10 → numbered n ≡ None → n ≡ 0
none_numbered zero h e = refl
none_numbered (suc zero) h e = cc
none_numbered (suc (suc zero)) h e = cc
none_numbered (suc (suc (suc zero))) h e = cc
none_numbered (suc (suc (suc (suc zero)))) h e = cc
none_numbered (suc (suc (suc (suc (suc zero))))) h e = cc
none_numbered (suc (suc (suc (suc (suc (suc zero)))))) h e = cc
none_numbered (suc (suc (suc (suc (suc (suc (suc zero))))))) h e = cc
none_numbered (suc (suc (suc (suc (suc (suc (suc (suc zero)))))))) h e = cc
none_numbered (suc (suc (suc (suc (suc (suc (suc (suc (suc zero))))))))) h e = cc
none_numbered (suc (suc (suc (suc (suc (suc (suc (suc (suc (suc zero)))))))))) h e = cc
none_numbered (suc (suc (suc (suc (suc (suc (suc (suc (suc (suc (suc n))))))))))) h e = omega arith
