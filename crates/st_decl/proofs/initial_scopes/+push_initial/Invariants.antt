use Rattle.std.proofs.Common.{◌≡◌, ◌++◌, map, drop}
use Rattle.st_types.specs.Initials.{elements_of, members_of}
use Rattle.st_types.specs.InitialViews.{element_view, member_view}
use Rattle.st_rules.specs.InitialScopes.{scopes_in_list, scopes_in_members}
use Rattle.st_decl.proofs.initial_scopes.+push_initial.Given as goal

abbrev pub invariant-push_list-loop-element : goal.invariant-push_list-loop-element
invariant-push_list-loop-element l = map (λ s. map (λ x. x.now) s.items) l.scopes.items
    ++ scopes_in_list (elements_of (map element_view (drop l.element-index l.elements)))
    ≡ map (λ s. map (λ x. x.now) s.items) l.initial.scopes.items
    ++ scopes_in_list (elements_of (map element_view l.elements))

abbrev pub invariant-push_members-loop-member : goal.invariant-push_members-loop-member
invariant-push_members-loop-member l = map (λ s. map (λ x. x.now) s.items) l.scopes.items
    ++ scopes_in_members (members_of (map member_view (drop l.member-index l.members)))
    ≡ map (λ s. map (λ x. x.now) s.items) l.initial.scopes.items
    ++ scopes_in_members (members_of (map member_view l.members))
