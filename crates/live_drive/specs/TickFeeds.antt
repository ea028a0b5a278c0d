-- Rows by the clock. Contracts see the inputs that count at a tick; another thread has read them, so nothing is said of when
-- they came.
use Rattle.std.specs.Prelude.{◌≡◌, ℕ, List, [], Option, Some, None}
use Rattle.st_types.specs.Rows.{Latch}
use Rattle.st_types.specs.Values.{Datum}
use Rattle.st_meaning.specs.declared.plan.PlanInput.{PlanInput}
use Rattle.live_drive.specs.Stamps.{IsAfter}
use Rattle.live_drive.specs.declared.feed.FeedEnd.{FeedEnd}
use Rattle.live_drive.specs.declared.feed.Incoming.{Incoming}
use Rattle.live_drive.specs.declared.feed.Incoming.TheVariants as came

-- the inputs of the newest row; none before one has come
abbrev pub inputs_of : Option Latch → List Datum
inputs_of None = []
inputs_of (Some row) = row.image

abbrev pub HasTicked : List Datum → List Datum → Type 0
HasTicked old new = Unit {0}

-- a row with the inputs that count now, later than the last one, and nothing else
abbrev pub GivesTick : List PlanInput → Option ℕ → List Datum → Incoming → Type 0
GivesTick inputs last newest (came.Row row) = IsAfter last row.moment × (row.image ≡ newest)
GivesTick inputs last newest other = ⊥

abbrev pub EndsTicks : List Datum → FeedEnd → List Datum → Type 0
EndsTicks old end new = Unit {0}
