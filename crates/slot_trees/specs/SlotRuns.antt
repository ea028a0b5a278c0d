-- The result of a run of a program over slots.
use Rattle.std.specs.Prelude.{ℕ, zero, suc, List, [], ◌∷◌, Option, Some, option_map, option_and_then, slice_get}
use Rattle.std.specs.Prelude.{Result, Ok, Err}
use Rattle.st_types.specs.declared.fault.Fault.{Fault}
use Rattle.st_types.specs.declared.fault.Fault.TheVariants.{Budget}
use Rattle.st_types.specs.Values.{Datum}
use Rattle.st_meaning.specs.declared.outcome.Outcome.{Outcome}
use Rattle.st_meaning.specs.declared.outcome.Outcome.TheVariants.{Done, Faulted}
use Rattle.st_meaning.specs.Failures.{Failure, StuckFaults, ill_typed, or_failure}
use Rattle.st_meaning.specs.Ticks.{Run, ◌>>=◌, give, fault, attempt, proceed}
use Rattle.st_meaning.specs.StandardBlocks.{StandardBlock, BlockMember, members_of, stepped}
use Rattle.st_meaning.specs.Loops.{EndOf, goes_on, exits, returns}
use Rattle.slot_trees.specs.SlotTrees.{BlockCode, own_block, standard_block, SlotStmts, SlotFunction, SlotLibrary}
use Rattle.slot_trees.specs.SlotEvaluation.{SlotUnits}
use Rattle.slot_trees.specs.SlotExecution.{Slots, SlotEnd, stored_at, slot_exec_all}

-- the state at the end
abbrev pub state_of : {S : Type 0} → EndOf S → S
state_of (goes_on s) = s
state_of (exits s) = s
state_of (returns s) = s

-- a function's values at the beginning of a call: its inputs have the arguments' values
abbrev pub bound_input_slots : Slots → List ℕ → List Datum → Result Slots Failure
bound_input_slots vs [] [] = Ok vs
bound_input_slots vs (k ∷ ks) (x ∷ xs) = proceed (stored_at vs k x) (λ us. bound_input_slots us ks xs)
bound_input_slots vs _ _ = Err ill_typed

-- a function's body on values of its own; its result is in the slot of its name
abbrev pub slot_function : StuckFaults → SlotUnits → SlotFunction → List Datum → Run Datum
slot_function stuck_faults units f xs = do
  vs ← attempt stuck_faults (bound_input_slots f.fresh f.inputs xs)
  e ← slot_exec_all (record { units = units; base = 0; stuck_faults = stuck_faults }) f.body vs
  attempt stuck_faults (or_failure ill_typed (slice_get (state_of e) f.result))

-- a block's body on the slots of an instance
abbrev pub slot_block : StuckFaults → SlotUnits → SlotStmts → ℕ → Slots → Run Slots
slot_block stuck_faults units body at vs = do
  e ← slot_exec_all (record { units = units; base = at; stuck_faults = stuck_faults }) body vs
  give (state_of e)

-- the values of the members of an instance of a standard block, from a slot on
abbrev pub member_slots : Slots → ℕ → List BlockMember → Option (List Datum)
member_slots vs k [] = Some []
member_slots vs k (m ∷ ms) =
    option_and_then (λ v. option_map (λ xs. v ∷ xs) (member_slots vs (suc k) ms)) (slice_get vs k)

abbrev pub members_stored : Slots → ℕ → List BlockMember → List Datum → Result Slots Failure
members_stored vs k (m ∷ ms) (x ∷ xs) = proceed (stored_at vs k x) (λ us. members_stored us (suc k) ms xs)
members_stored vs k _ _ = Ok vs

-- a call of a standard block: its members step
abbrev pub slot_standard : StuckFaults → StandardBlock → ℕ → ℕ → Slots → Run Slots
slot_standard stuck_faults b now at vs = do
  xs ← attempt stuck_faults (or_failure ill_typed (member_slots vs at (members_of b)))
  attempt stuck_faults (members_stored vs at (members_of b) (stepped b now xs))

-- a function of the text by its number
abbrev pub slot_function_call : StuckFaults → SlotLibrary → SlotUnits → ℕ → List Datum → Run Datum
slot_function_call stuck_faults library units f xs = do
  g ← attempt stuck_faults (or_failure ill_typed (slice_get library.functions f))
  slot_function stuck_faults units g xs

-- a block on its instance: a standard one, or one of the text by its number
abbrev pub slot_instance_call : StuckFaults → SlotLibrary → SlotUnits → ℕ → BlockCode → ℕ → Slots → Run Slots
slot_instance_call stuck_faults library units now (standard_block b) at vs = slot_standard stuck_faults b now at vs
slot_instance_call stuck_faults library units now (own_block i) at vs = do
  body ← attempt stuck_faults (or_failure ill_typed (slice_get library.blocks i))
  slot_block stuck_faults units body at vs

-- the effects of a text's units, given those of the units that they call
abbrev pub slot_units_over : StuckFaults → SlotLibrary → ℕ → SlotUnits → SlotUnits
slot_units_over stuck_faults library now units = record {
  functions = slot_function_call stuck_faults library units;
  blocks = slot_instance_call stuck_faults library units now;
}

-- The units of a text, with calls at most n deep.
unfoldable pub slot_units_within : StuckFaults → SlotLibrary → ℕ → ℕ → SlotUnits
slot_units_within stuck_faults library now zero =
    record { functions = λ f xs. fault Budget; blocks = λ c at vs. fault Budget }
slot_units_within stuck_faults library now (suc n) =
    slot_units_over stuck_faults library now (slot_units_within stuck_faults library now n)

-- a program's body on the slots of its layout, from the first one of its own variables on, with calls at most `n` deep
unfoldable pub slots_ran : StuckFaults → SlotLibrary → ℕ → SlotStmts → ℕ → ℕ → Slots → Run SlotEnd
slots_ran stuck_faults library base body now depth vs =
    slot_exec_all
    (record { units = slot_units_within stuck_faults library now depth; base = base; stuck_faults = stuck_faults }) body vs

-- how a run ends: it is done, or it faulted
abbrev pub slot_outcome_in : Result (SlotEnd × ℕ) Fault → Outcome
slot_outcome_in (Ok r) = Done
slot_outcome_in (Err e) = Faulted e

-- the values after a run: a fault leaves them as they were
abbrev pub slots_in : Result (SlotEnd × ℕ) Fault → Slots → Slots
slots_in (Ok r) vs = state_of r.0
slots_in (Err e) vs = vs
