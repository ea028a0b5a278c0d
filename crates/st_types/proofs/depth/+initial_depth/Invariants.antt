use Rattle.std.proofs.Common.{◌≡◌, ◌≤◌, map, drop, max, min, ◌-◌, ◌^◌}
use Rattle.st_types.specs.Initials.{elements_of, members_of}
use Rattle.st_types.specs.InitialViews.{element_view, member_view}
use Rattle.st_types.specs.Depths.{deepest_element, deepest_member}
use Rattle.st_types.proofs.depth.+initial_depth.Given as goal

-- the greatest depth of all is the greater one of the parts seen and the parts left
abbrev pub invariant-deepest_element-loop-element : goal.invariant-deepest_element-loop-element
invariant-deepest_element-loop-element l =
    (l.depth ≤ 2 ^ 64 - 1) × (min (deepest_element (elements_of (map element_view l.elements))) (2 ^ 64 - 1) ≡ min
    (max l.depth (deepest_element (elements_of (map element_view (drop l.element-index l.elements))))) (2 ^ 64 - 1))

abbrev pub invariant-deepest_member-loop-member : goal.invariant-deepest_member-loop-member
invariant-deepest_member-loop-member l =
    (l.depth ≤ 2 ^ 64 - 1) × (min (deepest_member (members_of (map member_view l.members))) (2 ^ 64 - 1) ≡ min
    (max l.depth (deepest_member (members_of (map member_view (drop l.member-index l.members))))) (2 ^ 64 - 1))
