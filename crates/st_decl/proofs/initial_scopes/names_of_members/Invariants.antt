use Rattle.std.proofs.Common.{◌≡◌, ◌++◌, map, drop}
use Rattle.st_types.specs.Initials.{members_of}
use Rattle.st_types.specs.InitialViews.{member_view}
use Rattle.st_rules.specs.InitialScopes.{names_of_members}
use Rattle.st_decl.proofs.initial_scopes.names_of_members.Given as goal

abbrev pub invariant-loop-member : goal.invariant-loop-member
invariant-loop-member l = map (λ x. x.now) l.scope.items
    ++ names_of_members (members_of (map member_view (drop l.member-index l.members)))
    ≡ names_of_members (members_of (map member_view l.members))
