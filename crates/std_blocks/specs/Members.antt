-- Members of an instance in consecutive slots, and their values after a call of a standard block.
use Rattle.std.specs.Prelude.{◌≡◌, ℕ, zero, suc, List, [], ◌∷◌, Option, Some, option_map, option_and_then, slice_get}
use Rattle.std.specs.Prelude.{Result, Ok, Err}
use Rattle.st_types.specs.declared.fault.Fault.{Fault}
use Rattle.st_types.specs.declared.fault.Fault.TheVariants.{Conversion}
use Rattle.st_types.specs.Values.{Datum}
use Rattle.st_meaning.specs.Failures.{Failure, ill_typed, or_failure}
use Rattle.st_meaning.specs.Ticks.{proceed}
use Rattle.st_meaning.specs.StandardBlocks.{StandardBlock, members_of, stepped}
use Rattle.slot_trees.specs.SlotExecution.{Slots, stored_at}
use Rattle.slot_trees.specs.SlotRuns.{member_slots, members_stored}

-- the values of a number of slots from one on
unfoldable pub values_from : Slots → ℕ → ℕ → Option (List Datum)
values_from vs k zero = Some []
values_from vs k (suc n) =
    option_and_then (λ v. option_map (λ xs. v ∷ xs) (values_from vs (suc k) n)) (slice_get vs k)

-- the slots after these values are assigned to those from one on, one after another
unfoldable pub all_stored : Slots → ℕ → List Datum → Result Slots Failure
all_stored vs k [] = Ok vs
all_stored vs k (x ∷ xs) = proceed (stored_at vs k x) (λ us. all_stored us (suc k) xs)

-- the slots after a call of a standard block whose members begin at one
unfoldable pub block_stepped : StandardBlock → ℕ → ℕ → Slots → Result Slots Failure
block_stepped b now at vs = proceed (or_failure ill_typed (member_slots vs at (members_of b)))
    (λ xs. members_stored vs at (members_of b) (stepped b now xs))

-- Code answers so: it leaves these slots, or it ends with the fault for what is ill typed.
abbrev pub Leaves : Result (Unit {0}) Fault → Result Slots Failure → Slots → Type 0
Leaves (Ok _) r new = r ≡ Ok new
Leaves (Err f) r new = (r ≡ Err ill_typed) × (f ≡ Conversion)
