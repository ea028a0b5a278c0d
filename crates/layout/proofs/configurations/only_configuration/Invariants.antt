use Rattle.std.proofs.Common.{◌≡◌, ◌++◌, map, drop, option_map}
use Rattle.std.specs.Prelude.{option_to_list}
use Rattle.st_types.specs.ConfigurationViews.{configuration_view}
use Rattle.st_types.specs.SourceViews.{element_view, source_view}
use Rattle.layout.specs.LayoutVariables.{configurations_in}
use Rattle.layout.proofs.configurations.only_configuration.Given as goal

-- the configuration found so far and the elements still to come
abbrev pub invariant-loop-element : goal.invariant-loop-element
invariant-loop-element l = option_to_list (option_map (λ c. configuration_view c.now) l.found)
    ++ configurations_in (map element_view (drop l.element-index l.element-items))
    ≡ configurations_in (source_view l.source)
