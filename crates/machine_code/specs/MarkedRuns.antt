-- The result of a run of a program over marked slots.
use Rattle.std.specs.Prelude.{ℕ, zero, suc, List, [], ◌∷◌, slice_get}
use Rattle.std.specs.Prelude.{Result, Ok, Err}
use Rattle.st_types.specs.declared.fault.Fault.{Fault}
use Rattle.st_types.specs.declared.fault.Fault.TheVariants.{Budget}
use Rattle.st_types.specs.Values.{Datum}
use Rattle.st_meaning.specs.Failures.{StuckFaults, ill_typed, or_failure}
use Rattle.st_meaning.specs.Ticks.{Run, ◌>>=◌, give, fault, attempt}
use Rattle.st_meaning.specs.StandardBlocks.{StandardBlock, BlockMember, members_of, stepped}
use Rattle.st_meaning.specs.Loops.{goes_on, exits, returns}
use Rattle.machine_code.specs.Tracking.{Tracked, tracked}
use Rattle.slot_trees.specs.SlotTrees.{BlockCode, own_block, standard_block, SlotStmts, SlotFunction, SlotLibrary}
use Rattle.slot_trees.specs.SlotExecution.{SlotEnd}
use Rattle.slot_trees.specs.SlotRuns.{state_of, bound_input_slots}
use Rattle.machine_code.specs.MarkedEvaluation.{MarkedUnits, marked_look}
use Rattle.machine_code.specs.MarkedExecution.{MarkedEnd, marked_put, marked_exec_all}

-- the values of a call of a function are its own, and have no marks
abbrev pub unmarked_values : List Datum → Tracked
unmarked_values vs = tracked vs []

-- a function's body on values of its own; its result is in the slot of its name
abbrev pub marked_function : StuckFaults → MarkedUnits → SlotFunction → List Datum → Run Datum
marked_function t units f xs = do
  vs ← attempt t (bound_input_slots f.fresh f.inputs xs)
  e ← marked_exec_all (record { units = units; base = 0; stuck_faults = t }) f.body (unmarked_values vs)
  attempt t (or_failure ill_typed (slice_get (state_of e).values f.result))

-- a block's body on the slots of an instance
abbrev pub marked_block : StuckFaults → MarkedUnits → SlotStmts → ℕ → Tracked → Run Tracked
marked_block t units body at m = do
  e ← marked_exec_all (record { units = units; base = at; stuck_faults = t }) body m
  give (state_of e)

-- the values of the members of an instance of a standard block, from a slot on, which are marked
abbrev pub marked_members : StuckFaults → List BlockMember → ℕ → Tracked → Run (List Datum × Tracked)
marked_members t [] k m = give ([], m)
marked_members t (x ∷ xs) k m = do
  r ← marked_look t ill_typed m k
  s ← marked_members t xs (suc k) r.1
  give (r.0 ∷ s.0, s.1)

abbrev pub marked_members_stored : StuckFaults → List BlockMember → ℕ → List Datum → Tracked → Run Tracked
marked_members_stored t (x ∷ xs) k (v ∷ vs) m = do
  n ← marked_put t m k v
  marked_members_stored t xs (suc k) vs n
marked_members_stored t _ k _ m = give m

-- a call of a standard block: its members step
abbrev pub marked_standard : StuckFaults → StandardBlock → ℕ → ℕ → Tracked → Run Tracked
marked_standard t b now at m = do
  r ← marked_members t (members_of b) at m
  marked_members_stored t (members_of b) at (stepped b now r.0) r.1

-- a function of the text by its number
abbrev pub marked_function_call : StuckFaults → SlotLibrary → MarkedUnits → ℕ → List Datum → Run Datum
marked_function_call t library units f xs = do
  g ← attempt t (or_failure ill_typed (slice_get library.functions f))
  marked_function t units g xs

-- a block on its instance: a standard one, or one of the text by its number
abbrev pub marked_instance_call : StuckFaults → SlotLibrary → MarkedUnits → ℕ → BlockCode → ℕ → Tracked → Run Tracked
marked_instance_call t library units now (standard_block b) at m = marked_standard t b now at m
marked_instance_call t library units now (own_block i) at m = do
  body ← attempt t (or_failure ill_typed (slice_get library.blocks i))
  marked_block t units body at m

-- the actions of the units of a text, if those that they call do this
abbrev pub marked_units_over : StuckFaults → SlotLibrary → ℕ → MarkedUnits → MarkedUnits
marked_units_over t library now units = record {
  functions = marked_function_call t library units;
  blocks = marked_instance_call t library units now;
}

-- The units of a text, with calls at most n deep.
unfoldable pub marked_units_within : StuckFaults → SlotLibrary → ℕ → ℕ → MarkedUnits
marked_units_within t library now zero =
    record { functions = λ f xs. fault Budget; blocks = λ c at m. fault Budget }
marked_units_within t library now (suc n) =
    marked_units_over t library now (marked_units_within t library now n)

-- a program's body on the marked slots of its layout, from the first one of its own variables on, with calls at most n
-- deep
unfoldable pub marked_ran : StuckFaults → SlotLibrary → ℕ → SlotStmts → ℕ → ℕ → Tracked → Run MarkedEnd
marked_ran t library base body now depth m =
    marked_exec_all
    (record { units = marked_units_within t library now depth; base = base; stuck_faults = t }) body m

-- how statements end without their marks
abbrev pub without_marks : MarkedEnd → SlotEnd
without_marks (goes_on m) = goes_on m.values
without_marks (exits m) = exits m.values
without_marks (returns m) = returns m.values

abbrev pub run_without_marks : Result (MarkedEnd × ℕ) Fault → Result (SlotEnd × ℕ) Fault
run_without_marks (Ok r) = Ok (without_marks r.0, r.1)
run_without_marks (Err f) = Err f
