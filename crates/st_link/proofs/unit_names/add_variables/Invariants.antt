use Rattle.std.proofs.Common.{◌≡◌, ◌≤◌, ◌+◌, ℕ, List, map, take, true, Option}
use Rattle.st_types.specs.declared.limits.TheConstants.{MAX_PATHS}
use Rattle.st_meaning.specs.NameTypes.{Declared}
use Rattle.symbols.specs.Agreeing.{Agree}
use Rattle.symbols.specs.Found.{found, or_found}
use Rattle.layout.specs.Sizes.{capped_size}
use Rattle.slot_trees.specs.Tables.{Symbol}
use Rattle.slot_trees.specs.ExpressionViews.{anchor_view}
use Rattle.st_link.specs.Shapes.{ServesShapes}
use Rattle.st_link.specs.BodyTables.{IsSymbol}
use Rattle.st_link.specs.Rooms.{first_slot}
use Rattle.st_link.specs.FirstSlots.{slots_taken, symbol_among, unless_found}
use Rattle.st_link.specs.LinkVariables.{are_whole, variable_view}
use Rattle.st_link.proofs.unit_names.add_variables.Given as goal

abbrev pub invariant-loop-variable : goal.invariant-loop-variable
invariant-loop-variable l = record {
  small : l.offset ≤ MAX_PATHS + 1;
  slots : (text : Declared) → ServesShapes l.shapes text → are_whole text (map variable_view l.variables) ≡ true
      → l.offset ≡ capped_size (slots_taken text (map variable_view (take l.variable-index l.variables)));
  added : (text : Declared) (x : List ℕ) (o : Option Symbol) → ServesShapes l.shapes text
      → are_whole text (map variable_view l.variables) ≡ true
      → first_slot (anchor_view l.base) + slots_taken text (map variable_view l.variables) ≤ MAX_PATHS
      → Agree (IsSymbol text) (found l.fn.symbols x) o → Agree (IsSymbol text) (found l.symbols x)
      (or_found o (unless_found l.hidden x
      (symbol_among text (anchor_view l.base) (map variable_view (take l.variable-index l.variables)) x)));
}
