use Rattle.std.proofs.Common.{◌≡◌, map, drop}
use Rattle.st_types.specs.Initials.{members_of}
use Rattle.st_types.specs.InitialViews.{member_view}
use Rattle.layout.specs.Sites.{field_initial}
use Rattle.layout.proofs.members.field_initial.Given as goal

abbrev pub invariant-loop-member : goal.invariant-loop-member
invariant-loop-member l = field_initial (members_of (map member_view (drop l.member-index l.members))) l.name
    ≡ field_initial (members_of (map member_view l.members)) l.name
