use Rattle.std.proofs.Common.{◌≡◌, ◌++◌, map, drop}
use Rattle.st_types.specs.UnitViews.{unit_view}
use Rattle.st_types.specs.ConfigurationViews.{configuration_view}
use Rattle.st_types.specs.SourceViews.{element_view, source_view}
use Rattle.st_meaning.specs.NameTypes.{units_in}
use Rattle.st_rules.specs.ConfigurationRules.{configurations_in}
use Rattle.config.proofs.configured.parts_of.Given as goal

abbrev pub invariant-loop-element : goal.invariant-loop-element
invariant-loop-element l =
    (map (λ u. unit_view u.now) l.units.items ++ units_in (map element_view (drop l.element-index l.element-items))
    ≡ units_in (source_view l.source))
    × (map (λ c. configuration_view c.now) l.configurations.items
    ++ configurations_in (map element_view (drop l.element-index l.element-items))
    ≡ configurations_in (source_view l.source))
