use Rattle.std.proofs.Common.{◌≡◌, ◌++◌, map, drop}
use Rattle.st_types.specs.DeclarationViews.{declaration_view}
use Rattle.layout.specs.Types.{sites_of_declarations}
use Rattle.layout.specs.NamedSites.{named_site_view}
use Rattle.layout.proofs.named_sites.push_declarations.Given as goal

-- the elements so far and those still to come
abbrev pub invariant-loop-declaration : goal.invariant-loop-declaration
invariant-loop-declaration l = map named_site_view l.sites.items
    ++ sites_of_declarations l.said (map declaration_view (drop l.declaration-index l.declarations))
    ≡ map named_site_view l.initial.sites.items
    ++ sites_of_declarations l.said (map declaration_view l.declarations)
