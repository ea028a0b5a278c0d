use Rattle.std.proofs.Common.{◌≡◌, ◌++◌, map, drop, None}
use Rattle.layout.specs.LayoutVariables.{owned_variable}
use Rattle.layout.specs.NamedSites.{named_as, named_site_view}
use Rattle.layout.specs.Variables.{variable_view}
use Rattle.layout.proofs.variables.push_listed.Given as goal

-- the elements so far and those still to come
abbrev pub invariant-loop-name : goal.invariant-loop-name
invariant-loop-name l = map (variable_view None) l.variables.items
    ++ map (λ x. owned_variable None (named_as (named_site_view l.initial.site) x)) (drop l.name-index l.names)
    ≡ map (variable_view None) l.initial.variables.items
    ++ map (λ x. owned_variable None (named_as (named_site_view l.initial.site) x)) l.names
