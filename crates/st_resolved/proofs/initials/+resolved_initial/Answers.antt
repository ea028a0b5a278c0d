use Rattle.std.proofs.Common.{rules, ◌≡◌, ◌∙◌, sym, ap, map, option_map}
use Rattle.st_types.proofs.Bridge.{structure_view}
use Rattle.st_types.specs.declared.initial.Initial as code_initial
use Rattle.st_types.specs.declared.initial.InitialMember as code_member
use Rattle.st_types.specs.Initials.{list, structure, elements_of, members_of}
use Rattle.st_types.specs.InitialViews.{initial_view, element_view, member_view}
use Rattle.st_meaning.specs.ResolvedUnits.{resolved_initial}
use Rattle.symbols.specs.PlaceTypes.{place_type_view}
use Rattle.st_resolved.specs.Arms.{resolved_member}
use Rattle.st_resolved.proofs.ListLemmas.{resolved_turn, all_resolved}
use Rattle.st_resolved.proofs.InitialLemmas.{list_resolved, structure_resolved, member_resolved}
use Rattle.st_resolved.proofs.initials.+resolved_initial.Goals as goal

pub resolved_initial-returns-in_ok-elements-in-List : goal.resolved_initial-returns-in_ok-elements-in-List
resolved_initial-returns-in_ok-elements-in-List t c text serves fields =
    let is = c.in-List.is in
    let declared = option_map place_type_view c.args.declared in
    let xs = map element_view c.in-List.elements.items in
    let seen : initial_view c.args.initial.now ≡ list c.in-List.place (elements_of xs) =
    rw is (search (rules, code_initial.the_lemmas)) in
    let each = rw c.deref.ensures.value at (c.in_ok-elements-in-List.ensures text serves fields) in
    c.list.ensures
    ∙ list_resolved text declared _ c.in-List.place xs _ (c.element_of-element.ensures text serves) each
    ∙ sym (ap (resolved_initial text declared) seen)

pub resolved_initial-returns-in_ok-members-in-Structure : goal.resolved_initial-returns-in_ok-members-in-Structure
resolved_initial-returns-in_ok-members-in-Structure t c text serves fields =
    let is = c.in-Structure.is in
    let declared = option_map place_type_view c.args.declared in
    let xs = map member_view c.in-Structure.members.items in
    let seen : initial_view c.args.initial.now ≡ structure c.in-Structure.place (members_of xs) =
    rw is (structure_view c.in-Structure.place c.in-Structure.members) in
    let each = rw c.deref-in-Structure.ensures.value at (c.in_ok-members-in-Structure.ensures text serves fields) in
    c.structure.ensures ∙ structure_resolved text declared c.in-Structure.place xs _ each
    ∙ sym (ap (resolved_initial text declared) seen)

pub resolved_members-loop-member-preserved : goal.resolved_members-loop-member-preserved
resolved_members-loop-member-preserved t c text serves fields =
    let at = c.loop-member in
    let declared = option_map place_type_view c.args.declared in
    let x = c.member-item.result in
    let new : code_member.InitialMember = record { name = c.in_ok-name.name; value = c.in_ok-value.value } in
    resolved_turn member_view (resolved_member text declared) c.args.members.now at.member-index x _ at.resolved.items
    c.push.new.self.items new c.loop-member-test.true c.member-item.is (at.invariant text serves fields) (search rules)
    (member_resolved text declared _ x.name c.in_ok-name.name (initial_view x.value) (initial_view c.in_ok-value.value)
    (c.field_of-field.ensures text fields) (search rules) (c.in_ok-value.ensures text serves fields))

pub resolved_elements-loop-element-preserved : goal.resolved_elements-loop-element-preserved
resolved_elements-loop-element-preserved t c text serves fields =
    resolved_turn _ _ _ _ _ _ _ _ _ c.loop-element-test.true c.element-item.is
    (c.loop-element.invariant text serves fields) c.in_ok-push.ensures.items
    (c.in_ok-resolved_element.ensures text serves fields)

pub resolved_elements-returns : goal.resolved_elements-returns
resolved_elements-returns t c text serves fields =
    all_resolved _ _ _ _ _ _ c.loop-element-test.false (c.loop-element.invariant text serves fields)

pub resolved_members-returns : goal.resolved_members-returns
resolved_members-returns t c text serves fields =
    all_resolved _ _ _ _ _ _ c.loop-member-test.false (c.loop-member.invariant text serves fields)
