-- Latching the next of the rows that are left.
use Rattle.std.specs.Prelude.{◌≡◌, ℕ, List, [], ◌∷◌, Option, Some, None, Ok, Err}
use Rattle.st_types.specs.Rows.{Latch}
use Rattle.serial_core.specs.Steps.{Latches}
use Rattle.durable_core.specs.declared.refusal.Refusal.{Refusal}
use Rattle.durable_core.specs.Cores.{CoreView, Guards}

-- The first row is latched as the core does it, and whether that was refused; without a row nothing changes.
abbrev pub LatchesNext : {D : Type 0} → CoreView D → List Latch → Option Refusal → CoreView D → Type 0
LatchesNext old [] None new = new ≡ old
LatchesNext old [] (Some refusal) new = ⊥
LatchesNext old (row ∷ rest) None new =
    (n : ℕ) × Guards {A = ℕ} old (Ok n) new (λ r. Latches old.state row r new.state)
LatchesNext old (row ∷ rest) (Some refusal) new =
    Guards {A = ℕ} old (Err refusal) new (λ r. Latches old.state row r new.state)
