use Rattle.std.proofs.Common.{rules, ◌≡◌, ◌∙◌, sym, ap, subst, [], map, drop}
use Rattle.std.proofs.lemmas.List.{append-nil, drop_all, length-map}
use Rattle.std.proofs.lemmas.Result.{IfOk-weaker}
use Rattle.st_types.specs.declared.expression.Expr as code_expr
use Rattle.st_types.specs.declared.expression.Variable as code_variable
use Rattle.st_types.specs.Expressions.{call, parenthesis, unary, binary, read, variable, no_selectors}
use Rattle.st_types.specs.Expressions.{exprs_of, selectors_of}
use Rattle.st_types.specs.ExpressionViews.{expr_view, variable_view, selector_view}
use Rattle.st_meaning.specs.NameTypes.{kind_of_variable}
use Rattle.st_meaning.specs.Resolution.{resolved_variable}
use Rattle.st_rules.specs.Environments.{Environment}
use Rattle.symbols.specs.Serving.{Serves}
use Rattle.st_resolved.specs.declared.resolutions.Resolution.TheVariants.{Typed}
use Rattle.st_resolved.specs.Resolutions.{Resolves, ResolvesAll}
use Rattle.st_resolved.proofs.ListLemmas.{selectors_resolved, resolved_turn, all_resolved}
use Rattle.st_resolved.proofs.ReadLemmas.{none_there, some_there, selected_resolves}
use Rattle.st_resolved.proofs.expressions.+resolve.Goals as goal

pub resolve-returns-in_ok-parts-in-Call : goal.resolve-returns-in_ok-parts-in-Call
resolve-returns-in_ok-parts-in-Call t c =
    let is = c.in-Call.is in
    let e = c.args.expression.now in
    let es = exprs_of (map expr_view c.in-Call.arguments.items) in
    let seen : expr_view e ≡ call c.in-Call.function es = rw is (search (rules, code_expr.the_lemmas)) in
    IfOk-weaker c.called.result _ (λ whole. (env : Environment) → Serves c.args.names.now env
    → Resolves env (expr_view e) whole)
    (λ whole resolves env serves. subst (λ x. Resolves env x whole) (sym seen)
    (resolves env es serves.tables (rw c.deref.ensures.value at (c.in_ok-parts-in-Call.ensures env serves))))
    c.called.ensures

pub resolve-returns-in_ok-inner-in-Parenthesis : goal.resolve-returns-in_ok-inner-in-Parenthesis
resolve-returns-in_ok-inner-in-Parenthesis t c =
    let is = c.in-Parenthesis.is in
    let e = c.args.expression.now in
    let x = expr_view c.in-Parenthesis.inner.value in
    let seen : expr_view e ≡ parenthesis c.in-Parenthesis.place x = rw is (search (rules, code_expr.the_lemmas)) in
    IfOk-weaker c.parenthesized.result _ (λ whole. (env : Environment) → Serves c.args.names.now env
    → Resolves env (expr_view e) whole)
    (λ whole resolves env serves. subst (λ y. Resolves env y whole) (sym seen)
    (resolves env x (rw c.deref-in-Parenthesis.ensures at (c.in_ok-inner-in-Parenthesis.ensures env serves))))
    c.parenthesized.ensures

pub resolve-returns-in_ok-operand-in-Unary : goal.resolve-returns-in_ok-operand-in-Unary
resolve-returns-in_ok-operand-in-Unary t c =
    let is = c.in-Unary.is in
    let e = c.args.expression.now in
    let x = expr_view c.in-Unary.operand.value in
    let seen : expr_view e ≡ unary c.in-Unary.operator c.in-Unary.place x =
    rw is (search (rules, code_expr.the_lemmas)) in
    IfOk-weaker c.negated.result _ (λ whole. (env : Environment) → Serves c.args.names.now env
    → Resolves env (expr_view e) whole)
    (λ whole resolves env serves. subst (λ y. Resolves env y whole) (sym seen)
    (resolves env x (rw c.deref-in-Unary.ensures at (c.in_ok-operand-in-Unary.ensures env serves))))
    c.negated.ensures

pub resolve-returns-in_ok-right-in-Binary : goal.resolve-returns-in_ok-right-in-Binary
resolve-returns-in_ok-right-in-Binary t c =
    let is = c.in-Binary.is in
    let e = c.args.expression.now in
    let l = expr_view c.in-Binary.left.value in
    let r = expr_view c.in-Binary.right.value in
    let seen : expr_view e ≡ binary c.in-Binary.operator l r = rw is (search (rules, code_expr.the_lemmas)) in
    IfOk-weaker c.operation.result _ (λ whole. (env : Environment) → Serves c.args.names.now env
    → Resolves env (expr_view e) whole)
    (λ whole resolves env serves. subst (λ y. Resolves env y whole) (sym seen)
    (resolves env l r (rw c.deref-in-Binary.ensures at (c.in_ok-left-in-Binary.ensures env serves))
    (rw c.deref-in-Binary-2.ensures at (c.in_ok-right-in-Binary.ensures env serves))))
    c.operation.ensures

pub resolve_all-returns : goal.resolve_all-returns
resolve_all-returns t c env serves =
    let at = c.loop-expression in
    let xs = c.args.expressions.now in
    let none : drop at.expression-index xs ≡ [] = drop_all at.expression-index xs c.loop-expression-test.false in
    let done : ResolvesAll env (exprs_of (map expr_view (drop at.expression-index xs))) [] = rw none tt in
    rw append-nil at (at.invariant env [] serves done)

pub resolved_read-returns-then-is_empty : goal.resolved_read-returns-then-is_empty
resolved_read-returns-then-is_empty t c =
    let v = c.args.variable.now in
    let none = none_there v.selectors.items _ c.if-is_empty.ensures v.selectors.ok.0 in
    let seen : variable_view v ≡ variable v.name (selectors_of (map selector_view v.selectors.items)) =
    search (rules, code_variable.the_lemmas) in
    let alone : read (variable v.name no_selectors) ≡ read (variable_view v) =
    sym (ap read (seen ∙ ap (λ xs. variable v.name (selectors_of (map selector_view xs))) none)) in
    IfOk-weaker c.resolved_alone.result _ (λ whole. (env : Environment) → Serves c.args.names.now env
    → Resolves env (read (variable_view v)) whole)
    (λ whole resolves env serves. subst (λ x. Resolves env x whole) alone (resolves env serves))
    c.resolved_alone.ensures

pub resolved_read-returns : goal.resolved_read-returns
resolved_read-returns t c env serves =
    let v = c.args.variable.now in
    let xs = map selector_view v.selectors.items in
    let some = some_there xs _ c.if-is_empty.ensures
    (v.selectors.ok.0 ∙ sym (length-map v.selectors.items selector_view)) in
    let seen : variable_view v ≡ variable v.name (selectors_of xs) = search (rules, code_variable.the_lemmas) in
    subst (λ x. Resolves env (read x) (Typed c.kind_of_variable-kind.result c.variable.result)) (sym seen)
    (selected_resolves env v.name xs c.kind_of_variable-kind.result c.variable.result some
    (c.kind_of_variable-kind.ensures env serves ∙ ap (kind_of_variable env.text env.unit) seen)
    (c.variable.ensures
    ∙ ap read (c.in_ok-resolved.ensures env serves ∙ ap (resolved_variable env.text env.unit) seen)))

pub resolved_variable-returns : goal.resolved_variable-returns
resolved_variable-returns t c env serves =
    let v = c.args.variable.now in
    let xs = map selector_view v.selectors.items in
    let seen : variable_view v ≡ variable v.name (selectors_of xs) = search (rules, code_variable.the_lemmas) in
    let each = rw c.deref.ensures.value at (c.in_ok-selectors.ensures env serves) in
    c.new.ensures ∙ ap (variable c.in_ok-copied.field-0) (ap selectors_of each ∙ selectors_resolved env.text env.unit xs)
    ∙ ap (λ x. resolved_variable env.text env.unit (variable x (selectors_of xs))) c.in_ok-copied.ensures
    ∙ sym (ap (resolved_variable env.text env.unit) seen)

pub resolved_selectors-loop-selector-preserved : goal.resolved_selectors-loop-selector-preserved
resolved_selectors-loop-selector-preserved t c env serves =
    resolved_turn _ _ _ _ _ _ _ _ _ c.loop-selector-test.true c.selector-item.is
    (c.loop-selector.invariant env serves) c.in_ok-push.ensures.items
    (c.in_ok-resolved_selector.ensures env serves)

pub resolved_selectors-returns : goal.resolved_selectors-returns
resolved_selectors-returns t c env serves =
    all_resolved _ _ _ _ _ _ c.loop-selector-test.false (c.loop-selector.invariant env serves)
