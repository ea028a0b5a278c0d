-- A text with its linked form, and when the latter has a program.
use Rattle.std.specs.Prelude.{◌≡◌, ℕ, List, true, Some, slice_get}
use Rattle.st_types.specs.Sources.{Source}
use Rattle.st_meaning.specs.Runs.{Program}
use Rattle.st_meaning.specs.Slots.{Slot}
use Rattle.layout.specs.LayoutVariables.{declared_of}
use Rattle.layout.specs.Names.{has_different_names}
use Rattle.slot_trees.specs.SlotTrees.{SlotStmts}
use Rattle.slot_trees.specs.LinkedTexts.{IsProgramLink}
use Rattle.slot_trees.specs.TextLinks.{LinkedText, linked_source}
use Rattle.slot_trees.specs.Orderly.{are_units_orderly}

-- a text whose names occur once in their scopes and whose units are in order, with its linked form
pub record IsLinkOf (source : Source) (linked : LinkedText) : Type 0 where
  pub names : has_different_names source ≡ true
  pub units : are_units_orderly (declared_of source) ≡ true
  pub is : linked_source source ≡ Some linked

-- the body of this number is the program's
pub record HasProgram (layout : List Slot) (linked : LinkedText) (n : ℕ) (p : Program) : Type 0 where
  pub body : SlotStmts
  pub there : slice_get linked.programs n ≡ Some body
  pub link : IsProgramLink layout p 0 linked.library body
