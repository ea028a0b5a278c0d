-- The rows that activations wait with.
use Rattle.std.specs.Prelude.{◌≡◌, ℕ, ◌<◌, ◌==◌, Bool, false, List, length, if◌then◌else◌, Option, Some, None}
use Rattle.st_meaning.specs.declared.plan.Schedule.{Schedule}
use Rattle.st_types.specs.Rows.{Latch}
use Rattle.st_meaning.specs.Due.{History, Waits}
use Rattle.st_meaning.specs.Logs.{row_at}

-- each row has so many values
abbrev pub IsWide : ℕ → List Latch → Type 0
IsWide width held = (p : ℕ) → p < length held → length (row_at held p).image ≡ width

-- each program below n that waits has in its place the row of this number if it waits with that, else the row that was
-- there
abbrev pub HoldsNew : List Schedule → History → List Latch → List Latch → ℕ → Latch → ℕ → Type 0
HoldsNew schedules h old new number row n =
    (p k : ℕ) → p < n → Waits schedules h record { program = p; row = k }
    → row_at new p ≡ (if k == number then row else row_at old p)

-- it is this number
abbrev pub is_number : Option ℕ → ℕ → Bool
is_number None number = false
is_number (Some k) number = k == number
