use Rattle.std.proofs.Common.{◌≡◌, ◌++◌, drop, map}
use Rattle.std.specs.List.{flat_map}
use Rattle.st_types.specs.ConfigurationViews.{global_declaration_view}
use Rattle.st_rules.specs.ConfigurationRules.{address_in}
use Rattle.config.proofs.addresses.push_addresses.Given as goal

abbrev pub invariant-loop-declaration : goal.invariant-loop-declaration
invariant-loop-declaration l = l.addresses.items
    ++ flat_map (λ d. address_in d.names) (map global_declaration_view (drop l.declaration-index l.declarations))
    ≡ l.initial.addresses.items ++ flat_map (λ d. address_in d.names) (map global_declaration_view l.declarations)
