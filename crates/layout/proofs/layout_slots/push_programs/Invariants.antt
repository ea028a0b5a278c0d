use Rattle.std.proofs.Common.{◌≡◌, ◌≤◌, [], length, map, drop, true}
use Rattle.st_types.specs.declared.limits.TheConstants.{MAX_PATHS}
use Rattle.st_meaning.specs.NameTypes.{Declared}
use Rattle.layout.specs.Compositions.{ServesTypes}
use Rattle.layout.specs.Instances.{instance_view, variables_of_programs}
use Rattle.layout.specs.Layouts.{are_expandable}
use Rattle.layout.specs.declared.limits.TheConstants.{MAX_INSTANCES}
use Rattle.layout.proofs.LayoutLemmas.{Left}
use Rattle.layout.proofs.layout_slots.push_programs.Given as goal

abbrev pub invariant-loop-instance : goal.invariant-loop-instance
invariant-loop-instance l = record {
  trail : l.grown.trail.items ≡ l.fn.grown.trail.items;
  room : length l.fn.grown.slots.items ≤ MAX_PATHS → length l.grown.slots.items ≤ MAX_PATHS;
  few : l.fn.grown.instances ≤ MAX_INSTANCES → l.grown.instances ≤ MAX_INSTANCES;
  left : (text : Declared) → ServesTypes l.types text → l.fn.grown.trail.items ≡ []
      → are_expandable text (variables_of_programs text (map instance_view l.instances)) ≡ true
      → Left text (variables_of_programs text (map instance_view l.instances)) l.fn.grown l.grown
      (variables_of_programs text (map instance_view (drop l.instance-index l.instances)));
}
