use Rattle.std.proofs.Common.{◌≡◌, ◌++◌, map, drop}
use Rattle.layout.specs.Types as made
use Rattle.layout.specs.NamedSites.{named_site_view}
use Rattle.layout.specs.KeptSites.{kept, kept_part, member_part, part_view, site_view}
use Rattle.layout.proofs.block_members.push_members.Given as goal

-- the elements so far and those still to come
abbrev pub invariant-loop-variable : goal.invariant-loop-variable
invariant-loop-variable l = (s : made.Site) → site_view l.initial.whole ≡ kept s
    → map part_view l.parts.items
    ++ map kept_part (map (member_part s) (map named_site_view (drop l.variable-index l.variables)))
    ≡ map part_view l.initial.parts.items
    ++ map kept_part (map (member_part s) (map named_site_view l.variables))
