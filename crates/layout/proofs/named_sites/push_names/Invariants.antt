use Rattle.std.proofs.Common.{◌≡◌, ◌++◌, map, drop}
use Rattle.layout.specs.NamedSites.{named_as, named_site_view}
use Rattle.layout.proofs.named_sites.push_names.Given as goal

-- the elements so far and those still to come
abbrev pub invariant-loop-name : goal.invariant-loop-name
invariant-loop-name l = map named_site_view l.sites.items
    ++ map (named_as (named_site_view l.initial.site)) (drop l.name-index l.names)
    ≡ map named_site_view l.initial.sites.items ++ map (named_as (named_site_view l.initial.site)) l.names
