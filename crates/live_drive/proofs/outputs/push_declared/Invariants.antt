use Rattle.std.proofs.Common.{◌≡◌, ◌++◌, drop, map}
use Rattle.std.specs.List.{flat_map}
use Rattle.st_types.specs.ConfigurationViews.{global_declaration_view}
use Rattle.live_drive.specs.Outputs.{output_name, place_named}
use Rattle.live_drive.proofs.outputs.push_declared.Given as goal

abbrev pub invariant-loop-declaration : goal.invariant-loop-declaration
invariant-loop-declaration l = l.places.items
    ++ flat_map (place_named l.plan) (flat_map (λ d. output_name d.names) (map global_declaration_view (drop l.declaration-index l.declarations)))
    ≡ l.initial.places.items
    ++ flat_map (place_named l.plan) (flat_map (λ d. output_name d.names) (map global_declaration_view l.declarations))
