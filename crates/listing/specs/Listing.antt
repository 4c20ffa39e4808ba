-- Document 01's 'Listing and the call program': the listing as text.
use Rattle.std.specs.Prelude.{ℕ, ◌≤◌, ◌≡◌, List, [], ◌∷◌, ◌++◌, eqb, leb, length, drop, Result, Ok, Err}
use Rattle.choice.specs.Choice.{pick}
use Rattle.slot.specs.declared.Allocation.{Allocation}
use Rattle.slot.specs.declared.Permission.{Permission}
use Rattle.slot.specs.declared.Channel.{Channel}
use Rattle.slot.specs.declared.Slot.{Slot}
use Rattle.slot.specs.Slot.{live_allocation, live_permission, live_channel}
use Rattle.text.specs.Text.{line_text, decimal, address_text}
use Rattle.refusal.specs.declared.Refusal.{Refusal}
use Rattle.refusal.specs.declared.Refusal.TheVariants.{NotSixtyFourSlots, ShortOutput}
use Rattle.listing.specs.Texts.{texts}

-- '`A` slot, user, client address, client port, server address, server port, relay port, expiry'; 'each line ends in a newline'
unfoldable pub allocation_line : ℕ → Allocation → List ℕ
allocation_line k a =
    let client = a.five_tuple.client in
    let server = a.five_tuple.server in
    line_text
    ((65 ∷ []) ∷ decimal k ∷ decimal a.user ∷ address_text client.address ∷ decimal client.port ∷ address_text server.address ∷ decimal server.port ∷ decimal a.port ∷ decimal a.expiry ∷ [])

-- '`P` slot, address, expiry'
unfoldable pub permission_text : ℕ → Permission → List ℕ
permission_text k p = line_text ((80 ∷ []) ∷ decimal k ∷ address_text p.address ∷ decimal p.expiry ∷ [])

-- of 'live things at the stored clock'
unfoldable pub permission_line : ℕ → ℕ → Permission → List ℕ
permission_line clock k p = pick (live_permission clock p) (permission_text k p) []

-- '`C` slot, number, address, port, expiry'
unfoldable pub channel_text : ℕ → Channel → List ℕ
channel_text k c =
    line_text
    ((67 ∷ []) ∷ decimal k ∷ decimal c.number ∷ address_text c.peer.address ∷ decimal c.peer.port ∷ decimal c.expiry ∷ [])

-- of 'live things at the stored clock'
unfoldable pub channel_line : ℕ → ℕ → Channel → List ℕ
channel_line clock k c = pick (live_channel clock c) (channel_text k c) []

unfoldable pub permission_lines : ℕ → ℕ → List Permission → List ℕ
permission_lines clock k permissions = texts (λ (i : ℕ). permission_line clock k) 0 permissions

unfoldable pub channel_lines : ℕ → ℕ → List Channel → List ℕ
channel_lines clock k channels = texts (λ (i : ℕ). channel_line clock k) 0 channels

-- the `A` line; 'then its `P`' lines, 'then its `C`' lines. That a slot which isn't live has no lines, whatever lives in it, is a choice:
-- docs/DECISIONS.md, reading 1
unfoldable pub slot_lines : ℕ → ℕ → Slot → List ℕ
slot_lines clock k slot =
    pick (live_allocation clock slot.allocation)
    (allocation_line k slot.allocation ++ permission_lines clock k slot.permissions ++ channel_lines clock k slot.channels)
    []

-- 'Live things at the stored clock, slot by slot'. 'No header.'
unfoldable pub listing : ℕ → List Slot → List ℕ
listing clock slots = texts (slot_lines clock) 0 slots

-- what a listing answers, and the output after it: refusal 6 where there aren't 64 slots, then 8 where the output is shorter than the
-- listing, with the output as it was; else the length, and the listing at the front of the output. 64 slots have at most 73,856 characters,
-- 1,154 each: 114 of an `A` line, and eight times 59 of a `P` line and 71 of a `C` line
pub record Lists (clock : ℕ) (slots : List Slot) (before after : List ℕ) (answer : Result ℕ Refusal) : Type 0 where
  pub answers : answer
      ≡ pick (eqb (length slots) 64)
      (pick (leb (length (listing clock slots)) (length before)) (Ok (length (listing clock slots))) (Err ShortOutput))
      (Err NotSixtyFourSlots)
  pub output : after
      ≡ pick (eqb (length slots) 64)
      (pick (leb (length (listing clock slots)) (length before)) (listing clock slots ++ drop (length (listing clock slots)) before) before)
      before
  pub most : length slots ≡ 64 → length (listing clock slots) ≤ 73856
