-- The number of each refusal: document 01's 1 to 8, and request 2's 9 and 10.
use Rattle.std.specs.Prelude.{ℕ, [], ◌∷◌, Option, Some, None, Result, Ok, Err}
use Rattle.choice.specs.Choice.{lookup}
use Rattle.refusal.specs.declared.Refusal.{Refusal}
use Rattle.refusal.specs.declared.Refusal.TheVariants.{TimeBelowClock, TimeTooLate, ShortReply, LongDatagram, UnknownUser, NotSixtyFourSlots, NotUdp, ShortOutput, BadLine, TooManyNodes}

-- '3 reply buffer under 1,536 bytes; 6 not 64 slots; 4 datagram over 1,500 bytes; 7 protocol not 17 (client calls); 5 user over 32 (client
-- calls); 2 now over 2^40; 1 now below the clock'; 'then 8: output shorter than the listing'; 'bad line 9, more nodes than 512 needed 10'
abbrev pub number : Refusal → ℕ
number TimeBelowClock = 1
number TimeTooLate = 2
number ShortReply = 3
number LongDatagram = 4
number UnknownUser = 5
number NotSixtyFourSlots = 6
number NotUdp = 7
number ShortOutput = 8
number BadLine = 9
number TooManyNodes = 10

-- the number of the refusal that a check gave, or what later ones give
abbrev pub number_or : {T : Type 0} → Result T Refusal → ℕ → ℕ
number_or (Ok value) rest = rest
number_or (Err refusal) rest = number refusal

-- 0 is none
abbrev pub number_of : {T : Type 0} → Result T Refusal → ℕ
number_of result = number_or result 0

-- the refusal of a number; 0 and what is above 10 are none
abbrev pub numbered : ℕ → Option Refusal
numbered n =
    lookup n
    ((1, Some TimeBelowClock)
    ∷ (2, Some TimeTooLate)
    ∷ (3, Some ShortReply)
    ∷ (4, Some LongDatagram)
    ∷ (5, Some UnknownUser)
    ∷ (6, Some NotSixtyFourSlots)
    ∷ (7, Some NotUdp)
    ∷ (8, Some ShortOutput)
    ∷ (9, Some BadLine)
    ∷ (10, Some TooManyNodes)
    ∷ [])
    None
