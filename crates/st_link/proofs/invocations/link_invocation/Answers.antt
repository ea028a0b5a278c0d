use Rattle.std.proofs.Common.{rules, ◌≡◌, ap, sym, subst, ◌∙◌, Some, None, Err, map, true}
use Rattle.std.specs.Prelude.{option_map}
use Rattle.st_types.specs.StatementViews.{argument_view}
use Rattle.symbols.specs.Agreeing.{Agree}
use Rattle.slot_trees.specs.ExpressionViews.{anchor_view}
use Rattle.slot_trees.specs.StatementViews.{block_code_view, slot_argument_view}
use Rattle.slot_trees.specs.LinkedStatements.{block_code_of}
use Rattle.slot_trees.specs.Tables.{symbol_of}
use Rattle.st_link.specs.BodyTables.{IsSymbol}
use Rattle.st_link.proofs.ErrorLemmas.{none_then}
use Rattle.st_link.proofs.InstanceLemmas.{call_linked, instance_there, members_there, no_arguments}
use Rattle.st_link.proofs.invocations.link_invocation.Goals as goal

pub returns-clause-linked : goal.returns-clause-linked
returns-clause-linked c text t serves =
    let x = c.args.name.now.name in
    let s = c.in-Some.symbol in
    let y = symbol_of t.symbols x in
    let there = subst (λ o. Agree (IsSymbol text) o y) c.in-Some.is (c.symbol.ensures text t serves) in
    let tested : c.has_members.result ≡ true = search rules in
    let some = members_there text s y there
    (λ expanded. sym (c.has_members.ensures text serves.shapes expanded) ∙ tested) in
    let code : block_code_of t x ≡ Some (block_code_view c.in-Some-code.code) =
    sym (c.code.ensures text t serves) ∙ ap (option_map block_code_view) c.in-Some-code.is in
    call_linked t x (map argument_view c.args.arguments.now) (anchor_view s.anchor) some.0
    (block_code_view c.in-Some-code.code) (map slot_argument_view c.in_ok-arguments.arguments.items)
    (instance_there text s y some.0 there c.if-symbol.false some.1) code
    (c.in_ok-arguments.ensures.linked text t some.0 serves some.1) ∙ ap Some (sym c.invoke.ensures)

pub returns-in_err-arguments-clause-none : goal.returns-in_err-arguments-clause-none
returns-in_err-arguments-clause-none c =
    none_then _ c.in_err-arguments.field-0.0 _ _ c.in_err-arguments.ensures.none
    (λ h text t serves.
    let x = c.args.name.now.name in
    let s = c.in-Some.symbol in
    let y = symbol_of t.symbols x in
    let there = subst (λ o. Agree (IsSymbol text) o y) c.in-Some.is (c.symbol.ensures text t serves) in
    let tested : c.has_members.result ≡ true = search rules in
    let some = members_there text s y there
    (λ expanded. sym (c.has_members.ensures text serves.shapes expanded) ∙ tested) in
    let code : block_code_of t x ≡ Some (block_code_view c.in-Some-code.code) =
    sym (c.code.ensures text t serves) ∙ ap (option_map block_code_view) c.in-Some-code.is in
    no_arguments t x (map argument_view c.args.arguments.now) (anchor_view s.anchor) some.0
    (block_code_view c.in-Some-code.code) (instance_there text s y some.0 there c.if-symbol.false some.1) code
    (h text t some.0 serves some.1)) (search rules)
