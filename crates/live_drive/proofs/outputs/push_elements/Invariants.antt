use Rattle.std.proofs.Common.{◌≡◌, ◌++◌, drop, map}
use Rattle.std.specs.List.{flat_map}
use Rattle.st_types.specs.SourceViews.{element_view}
use Rattle.live_drive.specs.Outputs.{outputs_in, place_named}
use Rattle.live_drive.proofs.outputs.push_elements.Given as goal

abbrev pub invariant-loop-element : goal.invariant-loop-element
invariant-loop-element l = l.places.items
    ++ flat_map (place_named l.plan) (flat_map outputs_in (map element_view (drop l.element-index l.elements)))
    ≡ l.initial.places.items ++ flat_map (place_named l.plan) (flat_map outputs_in (map element_view l.elements))
