-- A text that is linked, and how runs of its programs agree with those by slots.
use Rattle.std.specs.Prelude.{◌≡◌, ◌≤◌, ℕ, List, Some, slice_get}
use Rattle.st_types.specs.Values.{Datum}
use Rattle.st_types.specs.Sources.{Source}
use Rattle.st_meaning.specs.Failures.{StuckFaults, in_runs}
use Rattle.st_meaning.specs.Runs.{Program, ran_where, outcome_of, store_after}
use Rattle.st_meaning.specs.Stores.{Store}
use Rattle.layout.specs.TextLayouts.{slots_of_text}
use Rattle.slot_trees.specs.SlotTrees.{SlotStmts}
use Rattle.slot_trees.specs.SlotRuns.{slots_ran, slot_outcome_in, slots_in}
use Rattle.slot_trees.specs.Seeing.{Sees}
use Rattle.slot_trees.specs.Alike.{EndEqually, EndsEqually}
use Rattle.slot_trees.specs.LinkedPrograms.{IsLinkOf}
use Rattle.slot_trees.specs.TextLinks.{LinkedText, linked_source}

pub record HasLink (source : Source) : Type 0 where
  pub linked : LinkedText
  pub link : IsLinkOf source linked

-- The text is linked, and so is the body of this number; over all values of its slots a run of the body ends as the
-- program's does, and leaves the same variables.
pub record HasSlotRuns (source : Source) (n : ℕ) (p : Program) : Type 0 where
  pub linked : LinkedText
  pub is : linked_source source ≡ Some linked
  pub body : SlotStmts
  pub there : slice_get linked.programs n ≡ Some body
  pub ends : (stuck_faults : StuckFaults) (image : Store) (now budget depth : ℕ) (s : Store) (vs : List Datum)
      → budget ≤ depth → Sees (slots_of_text source) image s vs
      → EndEqually (EndsEqually (Sees (slots_of_text source) image)) (ran_where stuck_faults p image now budget s)
      (slots_ran stuck_faults linked.library 0 body now depth vs budget)
  pub outcome : (image : Store) (now budget depth : ℕ) (s : Store) (vs : List Datum) → budget ≤ depth
      → Sees (slots_of_text source) image s vs → outcome_of p budget s image now
      ≡ slot_outcome_in (slots_ran in_runs linked.library 0 body now depth vs budget)
  pub store : (image : Store) (now budget depth : ℕ) (s : Store) (vs : List Datum) → budget ≤ depth
      → Sees (slots_of_text source) image s vs
      → Sees (slots_of_text source) image (store_after p budget s image now)
      (slots_in (slots_ran in_runs linked.library 0 body now depth vs budget) vs)
