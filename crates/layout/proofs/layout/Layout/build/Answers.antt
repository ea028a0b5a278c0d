use Rattle.std.proofs.Common.{rules, ◌≡◌, ◌≤◌, ap, subst, sym, ◌∙◌, [], length, map, true, Err}
use Rattle.indexmap.specs.IndexMap.{insert_all}
use Rattle.st_types.specs.Paths.{same_path}
use Rattle.st_meaning.specs.Slots.{IsLayout}
use Rattle.layout.specs.Indexed.{entry_of, slot_of_entry}
use Rattle.st_meaning.specs.NameTypes.{declared_in}
use Rattle.layout.specs.declared.limits.TheConstants.{MAX_INSTANCES}
use Rattle.st_types.specs.declared.limits.TheConstants.{MAX_PATHS}
use Rattle.layout.specs.LayoutVariables.{declared_of, layout_variables}
use Rattle.layout.specs.TextLayouts.{instances_of, instances_of_text, slots_of_text}
use Rattle.layout.specs.Growth.{Exceeds}
use Rattle.layout.specs.Layouts.{are_expandable, layout_size, layout_slots, owned_variables}
use Rattle.layout.specs.KeptLayouts.{IsLayoutOf, image_among, inputs_among, retains_no_input, slot_view, variables_among}
use Rattle.layout.proofs.IndexLemmas.{slots_are_indexed}
use Rattle.layout.proofs.PlanLemmas.{image_is, unretained_all, inputs_are, length_slots_of}
use Rattle.layout.proofs.PlanLemmas.{once_expandable, slots_are, variables_are}
use Rattle.layout.proofs.layout.Layout.build.Goals as goal
use Rattle.st_types.proofs.ListLemmas.{length_map}

pub returns-in_err-slots-clause-err : goal.returns-in_err-slots-clause-err
returns-in_err-slots-clause-err c =
    let fault : c.from_residual.result ≡ Err c.in_err-slots.field-0.0 = search rules in
    rw fault (λ text is typed.
    let sound : are_expandable (declared_of text) (layout_variables text) ≡ true =
    once_expandable (declared_of text) (layout_variables text)
    (c.accepted_texts_declare_names_once.ensures.once text typed) in
    let there = c.in_err-slots.ensures.err
    (ap (λ s. are_expandable (declared_in s) (owned_variables s)) is ∙ sound) in
    subst (λ n. Exceeds n (instances_of_text text) c.in_err-slots.field-0.0)
    (sym (length_slots_of c.leaves_of_shapes.ensures.count (declared_of text) (layout_variables text)))
    (subst (λ s. Exceeds (layout_size (declared_in s) (owned_variables s)) (instances_of (declared_in s) (owned_variables s))
    c.in_err-slots.field-0.0) is there))

pub returns-clause-ok : goal.returns-clause-ok
returns-clause-ok c text is typed =
    let found = c.in_ok-slots.slots.items in
    let sound : are_expandable (declared_of text) (layout_variables text) ≡ true =
    once_expandable (declared_of text) (layout_variables text)
    (c.accepted_texts_declare_names_once.ensures.once text typed) in
    let held = ap (λ s. are_expandable (declared_in s) (owned_variables s)) is ∙ sound in
    let there : found ≡ layout_slots (declared_of text) (layout_variables text) =
    c.in_ok-slots.ensures.ok held ∙ ap (λ s. layout_slots (declared_in s) (owned_variables s)) is in
    let seen : map slot_view found ≡ slots_of_text text =
    ap (map slot_view) there ∙ slots_are (declared_of text) (layout_variables text) in
    let apart : IsLayout (map slot_view found) =
    subst IsLayout (sym seen) (c.accepted_texts_declare_names_once.ensures.layout text typed) in
    let all : c.in_ok-slots-2.slots.entries ≡ insert_all same_path [] (map entry_of found) = search rules in
    let shown : map slot_of_entry c.in_ok-slots-2.slots.entries ≡ found =
    ap (map slot_of_entry) all ∙ slots_are_indexed found apart in
    subst (IsLayoutOf text) (sym shown)
    (record {
      slots = seen;
      variables = ap variables_among there ∙ variables_are (declared_of text) (layout_variables text);
      inputs = ap inputs_among there ∙ inputs_are (declared_of text) (layout_variables text);
      image = ap image_among there ∙ image_is (declared_of text) (layout_variables text);
      unretained = ap retains_no_input there ∙ unretained_all (declared_of text) (layout_variables text);
      room = subst (λ n. n ≤ MAX_PATHS) (sym (length_map slot_view found) ∙ ap length seen) c.in_ok-slots.ensures.room;
      few = subst (λ s. instances_of (declared_in s) (owned_variables s) ≤ MAX_INSTANCES) is (c.in_ok-slots.ensures.few held);
    })
