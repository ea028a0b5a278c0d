-- The meaning of code.
use Rattle.std.specs.Prelude.{◌≡◌, ℕ, List, [], ◌++◌, length, map, Err}
use Rattle.st_types.specs.Values.{Datum}
use Rattle.st_types.specs.declared.fault.Fault.{Fault}
use Rattle.st_meaning.specs.Failures.{StuckFaults, in_runs}
use Rattle.st_meaning.specs.Runs.{Program, ran_where, outcome_of, store_after}
use Rattle.st_meaning.specs.Stores.{Store}
use Rattle.st_meaning.specs.Slots.{Slot}
use Rattle.slot_trees.specs.Seeing.{Sees}
use Rattle.machine_code.specs.Memories.{plain}
use Rattle.machine_code.specs.Machine.{Ending, runs}
use Rattle.machine_code.specs.Asking.{FailsWith}
use Rattle.machine_code.specs.Endings.{outcome_at_end, values_at_end}
use Rattle.slot_code.specs.Codes.{CodeView}

-- the run of code at a moment over a memory: the values of its slots, and the values after them
abbrev pub code_run : CodeView → ℕ → List Datum → ℕ → Ending (List Datum)
code_run code now memory budget = runs plain in_runs now code.instrs (length code.instrs) [] memory budget

-- the same if other faults stand for cases that no well-typed text meets
abbrev pub code_run_where : StuckFaults → CodeView → ℕ → List Datum → ℕ → Ending (List Datum)
code_run_where t code now memory budget = runs plain t now code.instrs (length code.instrs) [] memory budget

-- The code does over the layout the same as the program. The slots have the code's types. Over any values of the slots,
-- whatever is in the memory after them, the machine ends as the program does over the variables and inputs that have these
-- values, and leaves the same variables.
pub record Means (layout : List Slot) (code : CodeView) (p : Program) : Type 0 where
  pub kinds : map (λ l. l.kind) layout ≡ code.kinds
  pub outcome : (image s : Store) (vs rest : List Datum) (now budget : ℕ) → Sees layout image s vs
      → length rest ≡ code.extra
      → outcome_of p budget s image now ≡ outcome_at_end (code_run code now (vs ++ rest) budget)
  pub store : (image s : Store) (vs rest : List Datum) (now budget : ℕ) → Sees layout image s vs
      → length rest ≡ code.extra → Sees layout image (store_after p budget s image now)
      (values_at_end (code_run code now (vs ++ rest) budget) vs)

-- Whatever faults stand for cases that no well-typed text meets: if the machine fails on the code over values of the
-- layout's slots, so does the program, with the same fault, whatever these values are.
pub record FailsEqually (layout : List Slot) (code : CodeView) (p : Program) : Type 0 where
  pub fails : (t : StuckFaults) (f : Fault) (image s : Store) (vs rest : List Datum) (now budget : ℕ)
      → Sees layout image s vs → length rest ≡ code.extra
      → FailsWith f (code_run_where t code now (vs ++ rest) budget) → ran_where t p image now budget s ≡ Err f
