use Rattle.std.proofs.Common.{rules, ◌≡◌, ap, sym, ◌∙◌, map}
use Rattle.st_types.specs.DeclarationViews.{variable_block_view}
use Rattle.st_types.specs.Statements.{stmts_of}
use Rattle.st_types.specs.StatementViews.{stmt_view}
use Rattle.st_types.specs.UnitViews.{unit_view}
use Rattle.layout.specs.Libraries.{input_names}
use Rattle.slot_trees.specs.LinkedStatements.{linked_stmts}
use Rattle.slot_trees.specs.TextLinks.{call_slot, call_slots}
use Rattle.slot_trees.specs.StatementViews.{slot_stmts_view}
use Rattle.st_link.proofs.ErrorLemmas.{none_then}
use Rattle.st_link.proofs.FunctionLinks.{first_missing, second_missing, third_missing, three_there}
use Rattle.st_link.proofs.functions.link_parts.Goals as goal

pub returns-in_err-inputs-clause-none : goal.returns-in_err-inputs-clause-none
returns-in_err-inputs-clause-none c =
    let u = unit_view c.args.unit.now in
    let names : map (λ x. x.now.name) c.deref-2.result.now ≡ input_names u.blocks =
    ap (map (λ x. x.now.name)) c.deref-2.ensures.value ∙ c.in_ok-inputs_of.ensures
    ∙ ap (λ bs. input_names (map variable_block_view bs)) c.deref.ensures.value in
    none_then _ c.in_err-inputs.field-0.0 _ _ c.in_err-inputs.ensures.none
    (λ h text t serves. first_missing (λ x y z. (x, y, z)) (call_slots t.symbols (input_names u.blocks))
    (call_slot t.symbols u.name.name) (linked_stmts t (stmts_of u.body))
    (ap (call_slots t.symbols) (sym names) ∙ h text t serves)) (search rules)

pub returns-in_err-result-clause-none : goal.returns-in_err-result-clause-none
returns-in_err-result-clause-none c =
    let u = unit_view c.args.unit.now in
    none_then _ c.in_err-result.field-0.0 _ _ c.in_err-result.ensures.none
    (λ h text t serves. second_missing (λ x y z. (x, y, z)) (call_slots t.symbols (input_names u.blocks))
    (call_slot t.symbols u.name.name) (linked_stmts t (stmts_of u.body)) (h text t serves)) (search rules)

pub returns-in_err-body-clause-none : goal.returns-in_err-body-clause-none
returns-in_err-body-clause-none c =
    let u = unit_view c.args.unit.now in
    none_then _ c.in_err-body.field-0.0 _ _ c.in_err-body.ensures.none
    (λ h text t serves. third_missing (λ x y z. (x, y, z)) (call_slots t.symbols (input_names u.blocks))
    (call_slot t.symbols u.name.name) (linked_stmts t (stmts_of u.body))
    (ap (λ xs. linked_stmts t (stmts_of (map stmt_view xs))) (sym c.deref-3.ensures.value) ∙ h text t serves))
    (search rules)

pub returns-clause-linked : goal.returns-clause-linked
returns-clause-linked c text t serves =
    let u = unit_view c.args.unit.now in
    let names : map (λ x. x.now.name) c.deref-2.result.now ≡ input_names u.blocks =
    ap (map (λ x. x.now.name)) c.deref-2.ensures.value ∙ c.in_ok-inputs_of.ensures
    ∙ ap (λ bs. input_names (map variable_block_view bs)) c.deref.ensures.value in
    three_there (λ x y z. (x, y, z)) (call_slots t.symbols (input_names u.blocks))
    (call_slot t.symbols u.name.name) (linked_stmts t (stmts_of u.body))
    c.in_ok-inputs.inputs.items c.in_ok-result.result (slot_stmts_view c.in_ok-body.body.items)
    (ap (call_slots t.symbols) (sym names) ∙ c.in_ok-inputs.ensures.linked text t serves)
    (c.in_ok-result.ensures.linked text t serves)
    (ap (λ xs. linked_stmts t (stmts_of (map stmt_view xs))) (sym c.deref-3.ensures.value)
    ∙ c.in_ok-body.ensures.linked text t serves)
