use Rattle.std.proofs.Common.{refl, ap, ◌∙◌, ◌∷◌, ◌++◌, map, option_map}
use Rattle.st_types.specs.Initials.{elements_of, members_of}
use Rattle.st_types.specs.InitialViews.{initial_view}
use Rattle.st_meaning.specs.ResolvedUnits.{field_of}
use Rattle.st_rules.specs.InitialRules.{start, starts_below, starts_of_element, starts_of_elements, starts_of_members}
use Rattle.symbols.specs.PlaceTypes.{place_type_view}
use Rattle.st_decl.specs.StartViews.{start_view}
use Rattle.st_decl.proofs.PushLemmas.{tree_turn, tree_all}
use Rattle.st_decl.proofs.starts.+push_start.Goals as goal

pub push_elements-loop-element-preserved : goal.push_elements-loop-element-preserved
push_elements-loop-element-preserved t c = λ text serves given.
    let declared = option_map place_type_view c.args.declared in
    tree_turn (starts_of_elements text declared) elements_of (starts_of_element text declared) _ (λ x xs. refl)
    _ _ _ _ _ _ c.loop-element-test.true c.element-item.is (c.loop-element.invariant text serves given)
    (c.in_ok-push_element.ensures text serves given)

pub push_members-loop-member-preserved : goal.push_members-loop-member-preserved
push_members-loop-member-preserved t c = λ text serves given.
    let declared = option_map place_type_view c.args.declared in
    let value = initial_view c.member-item.result.value in
    tree_turn (starts_of_members text declared) members_of
    (λ m. start (field_of text declared m.0.name) m.1 ∷ starts_below text (field_of text declared m.0.name) m.1) _
    (λ m ms. refl) _ _ _ _ _ _ c.loop-member-test.true c.member-item.is (c.loop-member.invariant text serves given)
    (c.in_ok-push_start.ensures text serves given
    ∙ ap (λ f. map start_view c.loop-member.starts.items ++ start f value ∷ starts_below text f value)
    (c.field_of-field.ensures text given))

pub push_elements-returns : goal.push_elements-returns
push_elements-returns t c = λ text serves given.
    tree_all (starts_of_elements text (option_map place_type_view c.args.declared)) elements_of _ _ _ _ _ refl
    c.loop-element-test.false (c.loop-element.invariant text serves given)

pub push_members-returns : goal.push_members-returns
push_members-returns t c = λ text serves given.
    tree_all (starts_of_members text (option_map place_type_view c.args.declared)) members_of _ _ _ _ _ refl
    c.loop-member-test.false (c.loop-member.invariant text serves given)
