use Rattle.std.proofs.Common.{◌≡◌, ◌++◌, map, drop, Option, option_map}
use Rattle.layout.specs.LayoutVariables.{owned_variable}
use Rattle.layout.specs.NamedSites.{named_site_view}
use Rattle.layout.specs.Slots.{owner_view}
use Rattle.layout.specs.Variables.{variable_view}
use Rattle.layout.specs.declared.slots.OwnerNames.{OwnerNames}
use Rattle.layout.proofs.variables.own_variables.Given as goal

-- the elements so far and those still to come
abbrev pub invariant-loop-site : goal.invariant-loop-site
invariant-loop-site l = (o : Option OwnerNames) → map (variable_view o) l.variables.items
    ++ map (owned_variable (option_map owner_view o)) (map named_site_view (drop l.site-index l.sites))
    ≡ map (owned_variable (option_map owner_view o)) (map named_site_view l.sites)
