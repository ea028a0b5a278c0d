use Rattle.std.proofs.Common.{◌≡◌, ◌++◌, map, drop}
use Rattle.layout.specs.Types as made
use Rattle.layout.specs.Types.{site_of_member}
use Rattle.layout.specs.KeptSites.{kept, kept_part, member_part, part_view, site_view}
use Rattle.layout.specs.StandardMembers.{standard_member_view}
use Rattle.layout.proofs.standard_members.push_members.Given as goal

-- the elements so far and those still to come
abbrev pub invariant-loop-member : goal.invariant-loop-member
invariant-loop-member l = (s : made.Site) → site_view l.initial.whole ≡ kept s
    → map part_view l.parts.items ++ map kept_part
    (map (member_part s) (map site_of_member (map standard_member_view (drop l.member-index l.members))))
    ≡ map part_view l.initial.parts.items ++ map kept_part
    (map (member_part s) (map site_of_member (map standard_member_view l.members)))
