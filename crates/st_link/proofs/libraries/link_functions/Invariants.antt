use Rattle.std.proofs.Common.{◌≡◌, List, map, drop, true, Option, option_map}
use Rattle.std.specs.List.{list_all}
use Rattle.st_types.specs.UnitViews.{unit_view}
use Rattle.st_types.specs.Units.{OrganisationUnit}
use Rattle.st_meaning.specs.NameTypes.{Declared}
use Rattle.slot_trees.specs.SlotTrees.{SlotFunction}
use Rattle.slot_trees.specs.LibraryViews.{slot_function_view}
use Rattle.st_link.specs.CalledFunctions.{is_called}
use Rattle.st_link.specs.Linked.{functions_of}
use Rattle.st_link.specs.LinkVariables.{LinkVariable, is_whole_unit}
use Rattle.st_link.specs.Tables.{ServesLinks}
use Rattle.st_link.proofs.GatheredLemmas.{GatheredSoFar}
use Rattle.st_link.proofs.libraries.link_functions.Given as goal

abbrev pub invariant-loop-unit : goal.invariant-loop-unit
invariant-loop-unit l = (text : Declared) (globals : List LinkVariable) → ServesLinks l.tables text globals
    → list_all (is_whole_unit text) (map (λ u. unit_view u.now) l.units) ≡ true
    → GatheredSoFar OrganisationUnit (Option SlotFunction) (functions_of (is_called l.called) text) (map (λ u. unit_view u.now) l.units)
    (map (option_map slot_function_view) l.functions.items) (map (λ u. unit_view u.now) (drop l.unit-index l.units))
