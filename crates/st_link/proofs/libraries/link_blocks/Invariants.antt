use Rattle.std.proofs.Common.{◌≡◌, List, map, drop, true, Option, option_map}
use Rattle.std.specs.List.{list_all}
use Rattle.st_types.specs.UnitViews.{unit_view}
use Rattle.st_types.specs.Units.{OrganisationUnit}
use Rattle.st_meaning.specs.NameTypes.{Declared}
use Rattle.layout.specs.LayoutVariables.{Owned}
use Rattle.slot_trees.specs.SlotTrees.{SlotStmts}
use Rattle.slot_trees.specs.StatementViews.{slot_stmts_view}
use Rattle.st_link.specs.Linked.{blocks_of}
use Rattle.st_link.specs.LinkVariables.{LinkVariable, is_whole_unit}
use Rattle.st_link.specs.Tables.{AreGlobals, ServesLinks}
use Rattle.st_link.proofs.GatheredLemmas.{GatheredSoFar}
use Rattle.st_link.proofs.libraries.link_blocks.Given as goal

abbrev pub invariant-loop-unit : goal.invariant-loop-unit
invariant-loop-unit l = (text : Declared) (globals : List LinkVariable) (layout : List Owned)
    → ServesLinks l.tables text globals → AreGlobals text layout globals
    → list_all (is_whole_unit text) (map (λ u. unit_view u.now) l.units) ≡ true
    → GatheredSoFar OrganisationUnit (Option SlotStmts) (blocks_of text layout) (map (λ u. unit_view u.now) l.units)
    (map (option_map (λ b. slot_stmts_view b.items)) l.blocks.items)
    (map (λ u. unit_view u.now) (drop l.unit-index l.units))
