-- Runs of the code of a text's programs, which end as the programs do.
use Rattle.std.specs.Prelude.{◌≡◌, ℕ, List, [], ◌++◌, length, Some, slice_get}
use Rattle.st_types.specs.Values.{Datum}
use Rattle.st_types.specs.Sources.{Source}
use Rattle.st_meaning.specs.Failures.{in_runs}
use Rattle.st_meaning.specs.Runs.{Program, outcome_of, store_after}
use Rattle.st_meaning.specs.Stores.{Store}
use Rattle.layout.specs.TextLayouts.{slots_of_text}
use Rattle.slot_trees.specs.SlotTrees.{SlotStmts}
use Rattle.slot_trees.specs.Seeing.{Sees}
use Rattle.slot_trees.specs.TextLinks.{LinkedText, linked_source}
use Rattle.machine_code.specs.Memories.{plain}
use Rattle.machine_code.specs.Machine.{Ending, runs}
use Rattle.machine_code.specs.Endings.{outcome_at_end, values_at_end}
use Rattle.machine_code.specs.Programs.{program_code, ProgramFits}

-- the run of a linked program's code over the values of its slots and the memory after them, with calls of this depth
abbrev pub coded_run : LinkedText → SlotStmts → ℕ → ℕ → List Datum → List Datum → ℕ → Ending (List Datum)
coded_run linked body depth now vs rest budget =
    let code = program_code linked.library 0 (length vs) body depth in
    runs plain in_runs now code (length code) [] (vs ++ rest) budget

-- A program of the text has a linked body. If this fits a memory, a run of its code over any values of the layout's slots
-- ends as the program does and leaves the same variables, whatever is in the memory after them.
pub record HasCodeRuns (source : Source) (n : ℕ) (p : Program) : Type 0 where
  pub linked : LinkedText
  pub is : linked_source source ≡ Some linked
  pub body : SlotStmts
  pub there : slice_get linked.programs n ≡ Some body
  pub outcome : (memory depth : ℕ) (image s : Store) (vs rest : List Datum) (now budget : ℕ)
      → ProgramFits memory linked.library 0 (length vs) body depth → Sees (slots_of_text source) image s vs
      → length (vs ++ rest) ≡ memory
      → outcome_of p budget s image now ≡ outcome_at_end (coded_run linked body depth now vs rest budget)
  pub store : (memory depth : ℕ) (image s : Store) (vs rest : List Datum) (now budget : ℕ)
      → ProgramFits memory linked.library 0 (length vs) body depth → Sees (slots_of_text source) image s vs
      → length (vs ++ rest) ≡ memory → Sees (slots_of_text source) image (store_after p budget s image now)
      (values_at_end (coded_run linked body depth now vs rest budget) vs)
