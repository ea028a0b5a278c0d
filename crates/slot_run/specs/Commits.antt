-- The slots after an execution is committed.
use Rattle.std.specs.Prelude.{◌≡◌, ℕ, List, not}
use Rattle.std.specs.List.{filter}
use Rattle.st_types.specs.Values.{Datum}
use Rattle.st_meaning.specs.declared.outcome.Outcome.{Outcome}
use Rattle.st_meaning.specs.Runs.{Program, outcome_of, store_after}
use Rattle.st_meaning.specs.Slots.{Slot, Cell, AreOfTypes, variables_with, inputs_in, after_writes}
use Rattle.slot_run.specs.Inputs.{is_input_slot}

-- the values of the slots after the writes to variables: those to inputs are left out
abbrev pub committed : List Slot → List Datum → List Cell → List Datum
committed layout vs writes = after_writes vs (filter (λ c. not (is_input_slot layout c.0)) writes)

-- The program has run from the values vs to us, ended so, and left its variables; inputs and types are as they were.
pub record IsRunFrom (layout : List Slot) (p : Program) (budget moment : ℕ) (vs us : List Datum)
    (outcome : Outcome) : Type 0 where
  pub ends : outcome_of p budget (variables_with layout vs) (inputs_in layout vs) moment ≡ outcome
  pub variables : variables_with layout us ≡ store_after p budget (variables_with layout vs) (inputs_in layout vs) moment
  pub inputs : inputs_in layout us ≡ inputs_in layout vs
  pub typed : AreOfTypes layout us
