use Rattle.std.proofs.Common.{refl}
use Rattle.st_types.specs.Initials.{elements_of, members_of}
use Rattle.st_rules.specs.InitialScopes.{scopes_in_initial, scopes_in_list, scopes_in_list_element, scopes_in_members}
use Rattle.st_decl.proofs.PushLemmas.{tree_turn, tree_all}
use Rattle.st_decl.proofs.initial_scopes.+push_initial.Goals as goal

pub push_list-loop-element-preserved : goal.push_list-loop-element-preserved
push_list-loop-element-preserved t c =
    tree_turn scopes_in_list elements_of scopes_in_list_element _ (λ x xs. refl) _ _ _ _ _ _ c.loop-element-test.true
    c.element-item.is c.loop-element.invariant c.in_ok-push_element.ensures

pub push_members-loop-member-preserved : goal.push_members-loop-member-preserved
push_members-loop-member-preserved t c =
    tree_turn scopes_in_members members_of (λ m. scopes_in_initial m.1) _ (λ m ms. refl) _ _ _ _ _ _
    c.loop-member-test.true c.member-item.is c.loop-member.invariant c.in_ok-push_initial.ensures

pub push_list-returns : goal.push_list-returns
push_list-returns t c =
    tree_all scopes_in_list elements_of _ _ _ _ _ refl c.loop-element-test.false c.loop-element.invariant

pub push_members-returns : goal.push_members-returns
push_members-returns t c =
    tree_all scopes_in_members members_of _ _ _ _ _ refl c.loop-member-test.false c.loop-member.invariant
