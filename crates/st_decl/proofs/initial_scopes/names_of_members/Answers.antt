use Rattle.std.proofs.Common.{refl, [], ◌∷◌}
use Rattle.st_types.specs.Initials.{members_of}
use Rattle.st_rules.specs.InitialScopes.{names_of_members}
use Rattle.st_decl.proofs.PushLemmas.{tree_turn, tree_all, seen_push}
use Rattle.st_decl.proofs.initial_scopes.names_of_members.Goals as goal

pub loop-member-preserved : goal.loop-member-preserved
loop-member-preserved c =
    tree_turn names_of_members members_of (λ m. m.0 ∷ []) _ (λ m ms. refl) _ _ _ _ _ _ c.loop-member-test.true
    c.member-item.is c.loop-member.invariant (seen_push _ _ _ _ c.in_ok-push.ensures.items)

pub returns : goal.returns
returns c = tree_all names_of_members members_of _ _ _ _ _ refl c.loop-member-test.false c.loop-member.invariant
