use Rattle.std.proofs.Common.{◌≡◌, ◌≤◌, ◌+◌, List, map, drop, take, true}
use Rattle.std.specs.List.{list_all}
use Rattle.st_types.specs.declared.limits.TheConstants.{MAX_PATHS}
use Rattle.st_meaning.specs.NameTypes.{Declared}
use Rattle.layout.specs.LayoutVariables.{Owned}
use Rattle.layout.specs.Instances.{OwnedProgram, instance_view}
use Rattle.slot_trees.specs.SlotTrees.{SlotStmts}
use Rattle.slot_trees.specs.StatementViews.{slot_stmts_view}
use Rattle.st_link.specs.FirstSlots.{slots_taken}
use Rattle.st_link.specs.Linked.{IsLayoutBy, programs_of, slots_of_instances}
use Rattle.st_link.specs.LinkVariables.{is_whole_unit, of_owned}
use Rattle.st_link.specs.Tables.{ServesLinks}
use Rattle.st_link.proofs.GatheredLemmas.{GatheredSoFar}
use Rattle.st_link.proofs.programs.link_programs.Given as goal

abbrev pub invariant-loop-instance : goal.invariant-loop-instance
invariant-loop-instance l = record {
  small : l.first ≤ MAX_PATHS + 1;
  first : (text : Declared) (globals layout : List Owned)
      → ServesLinks l.tables text (map of_owned globals)
      → l.tables.global_slots ≡ slots_taken text (map of_owned globals)
      → list_all (is_whole_unit text) text.units ≡ true
      → IsLayoutBy text globals (map instance_view l.instances) layout
      → l.first ≡ slots_taken text (map of_owned globals)
      + slots_of_instances text (map instance_view (take l.instance-index l.instances));
  linked : (text : Declared) (globals layout : List Owned)
      → ServesLinks l.tables text (map of_owned globals)
      → l.tables.global_slots ≡ slots_taken text (map of_owned globals)
      → list_all (is_whole_unit text) text.units ≡ true
      → IsLayoutBy text globals (map instance_view l.instances) layout
      → GatheredSoFar OwnedProgram SlotStmts (programs_of text layout) (map instance_view l.instances)
      (map (λ b. slot_stmts_view b.items) l.programs.items)
      (map instance_view (drop l.instance-index l.instances));
}
