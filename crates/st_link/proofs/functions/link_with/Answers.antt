use Rattle.std.proofs.Common.{rules, ap, sym, ◌∙◌, ℕ, List, [], Some}
use Rattle.std.specs.Prelude.{option_map}
use Rattle.st_types.specs.Statements.{stmts_of}
use Rattle.st_types.specs.UnitViews.{unit_view}
use Rattle.layout.specs.Libraries.{body_of_unit, input_names}
use Rattle.slot_trees.specs.LinkedTexts.{table_of}
use Rattle.slot_trees.specs.SlotTrees.{SlotStmts}
use Rattle.slot_trees.specs.TextLinks.{call_slot, call_slots, function_with, linked_function_body, symbols_of_function}
use Rattle.slot_trees.specs.TextNumbers.{numbers_of}
use Rattle.slot_trees.specs.StatementViews.{slot_stmts_view}
use Rattle.st_link.proofs.ErrorLemmas.{none_then}
use Rattle.st_link.proofs.FunctionLinks.{body_with, function_by_parts, third_missing}
use Rattle.st_link.proofs.functions.link_with.Goals as goal

pub returns-in_err-made-clause-none : goal.returns-in_err-made-clause-none
returns-in_err-made-clause-none c =
    let r = c.args.returned.now in
    let u = unit_view c.args.unit.now in
    none_then _ c.in_err-made.field-0.0 _ _ c.in_err-made.ensures.none
    (λ h text globals serves whole room.
    let s = symbols_of_function text r u in
    third_missing (function_with text r u) (call_slots s (input_names u.blocks)) (call_slot s u.name.name)
    (linked_function_body text s (body_of_unit text u).instances (stmts_of u.body))
    (body_with text s (body_of_unit text u).instances (stmts_of u.body) (h text globals serves))) (search rules)

pub returns-in_err-inputs-clause-none : goal.returns-in_err-inputs-clause-none
returns-in_err-inputs-clause-none c =
    let r = c.args.returned.now in
    let u = unit_view c.args.unit.now in
    none_then _ c.in_err-inputs.field-0.0 _ _ c.in_err-inputs.ensures.none
    (λ h text globals serves whole room.
    let t = table_of (numbers_of text) (symbols_of_function text r u) [] in
    function_by_parts text r u (c.in_ok-made.ensures.without text globals serves)
    ∙ ap (option_map (λ (x : List ℕ × ℕ × SlotStmts). function_with text r u x.0 x.1 x.2))
    (h text t (c.in_ok-made.ensures.serves text globals serves whole room))) (search rules)

pub returns-clause-linked : goal.returns-clause-linked
returns-clause-linked c text globals serves whole room fresh =
    let r = c.args.returned.now in
    let u = unit_view c.args.unit.now in
    let t = table_of (numbers_of text) (symbols_of_function text r u) [] in
    let parts = c.in_ok-inputs.field-0 in
    function_by_parts text r u (c.in_ok-made.ensures.without text globals serves)
    ∙ ap (option_map (λ (x : List ℕ × ℕ × SlotStmts). function_with text r u x.0 x.1 x.2))
    (c.in_ok-inputs.ensures.linked text t (c.in_ok-made.ensures.serves text globals serves whole room))
    ∙ ap (λ f. Some (record {
      fresh = f;
      inputs = parts.inputs.items;
      result = parts.result;
      body = slot_stmts_view parts.body.items;
    })) (sym fresh)
