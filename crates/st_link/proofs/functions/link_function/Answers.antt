use Rattle.std.proofs.Common.{rules, ◌≡◌, ap, sym, subst, ◌∙◌, ◌∷◌, map, true, false, None}
use Rattle.std.specs.Prelude.{not}
use Rattle.st_types.specs.DeclarationViews.{variable_block_view}
use Rattle.st_types.specs.UnitViews.{unit_view}
use Rattle.layout.specs.LayoutVariables.{owned_variable}
use Rattle.layout.specs.Libraries.{fresh_values, result_site}
use Rattle.layout.specs.Types.{sites_of_blocks}
use Rattle.layout.specs.TextLayouts.{instances_of}
use Rattle.layout.specs.Growth.{Exceeds, is_too_large}
use Rattle.layout.specs.Layouts.{are_expandable, layout_size}
use Rattle.slot_trees.specs.LinkedTexts.{values_of_fresh}
use Rattle.slot_trees.specs.TextLinks.{linked_function, sites_of_call}
use Rattle.slot_trees.specs.LibraryViews.{slot_function_view}
use Rattle.st_link.proofs.ErrorLemmas.{none_then}
use Rattle.st_link.specs.CalledFunctions.{is_called}
use Rattle.st_link.specs.KeptTexts.{function_fits, is_linked}
use Rattle.st_link.proofs.FunctionLinks.{function_small, whole_expandable}
use Rattle.st_link.proofs.UnitLinks.{kept_nowhere, kept_out, kept_there}
use Rattle.st_link.proofs.functions.link_function.Goals as goal
use Rattle.std.proofs.lemmas.Bool.{and_from, and_left, and_right}

pub returns-in_err-link_with-in-Ok-clause-none : goal.returns-in_err-link_with-in-Ok-clause-none
returns-in_err-link_with-in-Ok-clause-none c =
    let r = c.args.returned.now in
    let u = unit_view c.args.unit.now in
    none_then _ c.in_err-link_with-in-Ok.field-0.0 _ _ c.in_err-link_with-in-Ok.ensures.none
    (λ h text globals serves whole.
    let called = is_called c.args.called.now in
    let there : called u.name.name ≡ true = sym c.has.ensures ∙ c.if-not-has.false in
    let sound = ap (λ bs. are_expandable text (map (owned_variable None)
    (result_site r u.name.name ∷ sites_of_blocks (map variable_block_view bs)))) c.deref.ensures.value
    ∙ whole_expandable text r u whole in
    let few : is_too_large text (map (owned_variable None) (sites_of_call r u)) ≡ false =
    sym (ap (λ bs. is_too_large text (map (owned_variable None)
    (result_site r u.name.name ∷ sites_of_blocks (map variable_block_view bs)))) c.deref.ensures.value)
    ∙ c.in-Ok.ensures.room text serves.types sound in
    kept_nowhere (is_linked called text r u) (linked_function text r u)
    (and_from (called u.name.name) (function_fits text r u) there (ap not few))
    (h text globals serves whole (function_small text r u few))) (search rules)

pub returns-in_ok-link_with-in-Ok-clause-linked : goal.returns-in_ok-link_with-in-Ok-clause-linked
returns-in_ok-link_with-in-Ok-clause-linked c text globals serves whole =
    let r = c.args.returned.now in
    let u = unit_view c.args.unit.now in
    let called = is_called c.args.called.now in
    let there : called u.name.name ≡ true = sym c.has.ensures ∙ c.if-not-has.false in
    let sound = ap (λ bs. are_expandable text (map (owned_variable None)
    (result_site r u.name.name ∷ sites_of_blocks (map variable_block_view bs)))) c.deref.ensures.value
    ∙ whole_expandable text r u whole in
    let few : is_too_large text (map (owned_variable None) (sites_of_call r u)) ≡ false =
    sym (ap (λ bs. is_too_large text (map (owned_variable None)
    (result_site r u.name.name ∷ sites_of_blocks (map variable_block_view bs)))) c.deref.ensures.value)
    ∙ c.in-Ok.ensures.room text serves.types sound in
    let fresh = c.in-Ok.ensures.ok text serves.types sound
    ∙ ap (λ bs. values_of_fresh (fresh_values text
    (result_site r u.name.name ∷ sites_of_blocks (map variable_block_view bs)))) c.deref.ensures.value in
    kept_there (is_linked called text r u) (linked_function text r u)
    (slot_function_view c.in_ok-link_with-in-Ok.field-0)
    (and_from (called u.name.name) (function_fits text r u) there (ap not few))
    (c.in_ok-link_with-in-Ok.ensures.linked text globals serves whole (function_small text r u few) fresh)

pub returns-in-Err-TooLarge-clause-linked : goal.returns-in-Err-TooLarge-clause-linked
returns-in-Err-TooLarge-clause-linked c text globals serves whole =
    let r = c.args.returned.now in
    let u = unit_view c.args.unit.now in
    let called = is_called c.args.called.now in
    let sound = ap (λ bs. are_expandable text (map (owned_variable None)
    (result_site r u.name.name ∷ sites_of_blocks (map variable_block_view bs)))) c.deref.ensures.value
    ∙ whole_expandable text r u whole in
    let vs = map (owned_variable None)
    (result_site r u.name.name ∷ sites_of_blocks (map variable_block_view c.deref.result.now)) in
    let large : is_too_large text (map (owned_variable None) (sites_of_call r u)) ≡ true =
    sym (ap (λ bs. is_too_large text (map (owned_variable None)
    (result_site r u.name.name ∷ sites_of_blocks (map variable_block_view bs)))) c.deref.ensures.value)
    ∙ subst (λ e. Exceeds (layout_size text vs) (instances_of text vs) e) c.in-Err-TooLarge.field-0-is
    (c.in-Err-TooLarge.ensures.err text serves.types sound) in
    kept_out (is_linked called text r u) (linked_function text r u)
    (and_right (called u.name.name) (function_fits text r u) (ap not large))

pub returns-then-not-has-clause-linked : goal.returns-then-not-has-clause-linked
returns-then-not-has-clause-linked c text globals serves whole =
    let r = c.args.returned.now in
    let u = unit_view c.args.unit.now in
    let called = is_called c.args.called.now in
    kept_out (is_linked called text r u) (linked_function text r u)
    (and_left (called u.name.name) (function_fits text r u) (sym c.has.ensures ∙ c.if-not-has.true))
