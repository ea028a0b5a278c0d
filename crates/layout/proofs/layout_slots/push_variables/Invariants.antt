use Rattle.std.proofs.Common.{◌≡◌, ◌≤◌, [], length, map, drop, true}
use Rattle.st_types.specs.declared.limits.TheConstants.{MAX_PATHS}
use Rattle.st_meaning.specs.NameTypes.{Declared}
use Rattle.layout.specs.Compositions.{ServesTypes}
use Rattle.layout.specs.Layouts.{are_expandable}
use Rattle.layout.specs.Variables.{variable_view}
use Rattle.layout.specs.declared.limits.TheConstants.{MAX_INSTANCES}
use Rattle.layout.proofs.LayoutLemmas.{Left}
use Rattle.layout.proofs.layout_slots.push_variables.Given as goal

abbrev pub invariant-loop-variable : goal.invariant-loop-variable
invariant-loop-variable l = record {
  trail : l.grown.trail.items ≡ l.fn.grown.trail.items;
  room : length l.fn.grown.slots.items ≤ MAX_PATHS → length l.grown.slots.items ≤ MAX_PATHS;
  few : l.fn.grown.instances ≤ MAX_INSTANCES → l.grown.instances ≤ MAX_INSTANCES;
  left : (text : Declared) → ServesTypes l.types text → l.fn.grown.trail.items ≡ []
      → are_expandable text (map (variable_view l.owner) l.variables) ≡ true
      → Left text (map (variable_view l.owner) l.variables) l.fn.grown l.grown
      (map (variable_view l.owner) (drop l.variable-index l.variables));
}
