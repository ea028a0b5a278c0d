use Rattle.std.proofs.Common.{rules, refl, ◌≡◌, ◌∙◌, sym, ap, ℕ, map, drop, Some, None, option_map, [], arith}
use Rattle.st_types.specs.declared.expression.Expr as code_expr
use Rattle.st_types.specs.declared.expression.Variable as code_variable
use Rattle.st_types.specs.declared.expression.Selector as code_selector
use Rattle.st_types.specs.Expressions.{literal, read, call, parenthesis, unary, binary, exprs_of, no_exprs, expr_then}
use Rattle.st_types.specs.Expressions.{variable, selectors_of, subscript}
use Rattle.st_types.specs.ExpressionViews.{expr_view, variable_view, selector_view}
use Rattle.st_rules.proofs.CollectLemmas.{search_starts, search_ends, search_is, collects_both}
use Rattle.st_meaning.specs.Resolution.{common_kind}
use Rattle.st_rules.specs.Demands.{demands_of_standard}
use Rattle.st_rules.specs.Environments.{Environment}
use Rattle.st_rules.specs.ExpressionRules.{count_of}
use Rattle.st_rules.specs.Typings.{kind_of, kinds_of, typing_of_kind, typing_of_type, typings_of}
use Rattle.symbols.specs.Serving.{Serves}
use Rattle.st_rules.specs.declared.typings.Typing.TheVariants.{Nothing}
use Rattle.symbols.specs.PlaceTypes.{place_type_view}
use Rattle.symbols.specs.Standard.{standard_view}
use Rattle.st_typing.specs.Arguments.{demands_of_inputs, demands_view, demands_on}
use Rattle.st_rules.specs.Nodes.{first_demand, other_demands}
use Rattle.st_typing.proofs.CallLemmas.{argument_goes_on, unknown_goes_on, none_left, call_types, counted_call, inputs_counted}
use Rattle.st_typing.proofs.CallLemmas.{count_seen, left_seen, many_standard, standard_collects, one_typed, more_typed, one_seen, two_seen}
use Rattle.st_typing.proofs.CallLemmas.{three_seen, many_common}
use Rattle.st_typing.proofs.SelectionLemmas.{selector_goes_on, type_goes_on, subscript_goes_on, place_found, place_lost}
use Rattle.st_typing.proofs.SelectionLemmas.{type_ends, selectors_end}
use Rattle.st_typing.proofs.SelectionLemmas.{none_written, some_written, alone_types, read_types, no_nodes_left}
use Rattle.st_typing.proofs.TypingLemmas.{parenthesis_types, negation_types, operation_types, placed}
use Rattle.st_typing.proofs.expressions.+typing.Goals as goal

-- operators
pub typing-returns-in-Parenthesis : goal.typing-returns-in-Parenthesis
typing-returns-in-Parenthesis t c env serves =
    let is = c.in-Parenthesis.is in
    let x = expr_view c.in-Parenthesis.inner.value in
    let seen : expr_view c.args.expression.now ≡ parenthesis c.in-Parenthesis.field-0 x =
    rw is (search (rules, code_expr.the_lemmas)) in
    rw seen (parenthesis_types env c.in-Parenthesis.field-0 x _ _ _
    (rw c.deref-in-Parenthesis.ensures at (c.typing.ensures env serves)))

pub typing-returns-in-Unary : goal.typing-returns-in-Unary
typing-returns-in-Unary t c env serves =
    let is = c.in-Unary.is in
    let x = expr_view c.in-Unary.operand.value in
    let seen : expr_view c.args.expression.now ≡ unary c.in-Unary.operator c.in-Unary.place x =
    rw is (search (rules, code_expr.the_lemmas)) in
    let inner = rw c.deref-in-Unary.ensures at (c.typing-operand_typing.ensures env serves) in
    rw seen (negation_types env c.in-Unary.operator c.in-Unary.place x _ _ _ _ inner
    (c.negation.ensures env x inner.typing))

pub typing-returns-in-Binary : goal.typing-returns-in-Binary
typing-returns-in-Binary t c env serves =
    let is = c.in-Binary.is in
    let l = expr_view c.in-Binary.left.value in
    let r = expr_view c.in-Binary.right.value in
    let seen : expr_view c.args.expression.now ≡ binary c.in-Binary.operator l r =
    rw is (search (rules, code_expr.the_lemmas)) in
    let left = rw c.deref-in-Binary.ensures at (c.typing-left_typing.ensures env serves) in
    let right = rw c.deref-in-Binary-2.ensures at (c.typing-right_typing.ensures env serves) in
    let typed = rw (c.deref-in-Binary-3.ensures, c.deref-in-Binary-4.ensures) at (c.operation.ensures.typing env) in
    let wrong = rw (c.deref-in-Binary-3.ensures, c.deref-in-Binary-4.ensures) at (c.operation.ensures.broken env) in
    rw seen (operation_types env c.in-Binary.operator l r _ _ _ _ _ _ _ left right (typed left.typing right.typing)
    (wrong left.typing right.typing))

-- at a place
pub wrong_expression-returns-clause-broken : goal.wrong_expression-returns-clause-broken
wrong_expression-returns-clause-broken t c env serves =
    let inner = c.typing-found.ensures env serves in
    placed env c.args.demand (expr_view c.args.expression.now) _ _ _ _ inner (c.wrong_at.ensures env inner.typing)

-- selections
pub select_all-loop-selector-init : goal.select_all-loop-selector-init
select_all-loop-selector-init t c env serves = record { types = refl; faults = search_starts _ _ _ refl }

pub select_all-loop-selector-preserved : goal.select_all-loop-selector-preserved
select_all-loop-selector-preserved t c env serves =
    let xs = c.args.selectors.now in
    let i = c.loop-selector.selector-index in
    let x = c.selector-item.result in
    let before = c.loop-selector.invariant env serves in
    let to = c.select-found.ensures.selected env.text serves.tables in
    record {
      types = type_goes_on env.text _ _ xs i x _ c.loop-selector-test.true c.selector-item.is to before.types;
      faults = selector_goes_on env c.args.place _ _ xs i x _ _ _ _ _ c.loop-selector-test.true c.selector-item.is to
          before.faults (c.wrong_subscript.ensures env serves) (c.select-found.ensures.broken env.text serves.tables);
    }

pub select_all-returns-clause-selected : goal.select_all-returns-clause-selected
select_all-returns-clause-selected t c env serves =
    let before = c.loop-selector.invariant env serves in
    type_ends env.text c.args.selectors.now c.loop-selector.selector-index _ _ c.loop-selector-test.false
    before.types

pub select_all-returns-clause-broken : goal.select_all-returns-clause-broken
select_all-returns-clause-broken t c env serves =
    let before = c.loop-selector.invariant env serves in
    selectors_end env c.args.place c.args.selectors.now c.loop-selector.selector-index _ _ _ _
    c.loop-selector-test.false before.faults

pub wrong_subscripts-loop-selector-init : goal.wrong_subscripts-loop-selector-init
wrong_subscripts-loop-selector-init t c env serves = search_starts _ _ _ refl

pub wrong_subscripts-loop-selector-preserved : goal.wrong_subscripts-loop-selector-preserved
wrong_subscripts-loop-selector-preserved t c env serves =
    subscript_goes_on env c.args.selectors.now c.loop-selector.selector-index c.selector-item.result _ _ _ _
    c.loop-selector-test.true c.selector-item.is (c.loop-selector.invariant env serves)
    (c.wrong_subscript.ensures env serves)

pub wrong_subscripts-returns : goal.wrong_subscripts-returns
wrong_subscripts-returns t c env serves =
    search_ends _ _ _ (search_is _ _ [] _ _
    (no_nodes_left env c.args.selectors.now c.loop-selector.selector-index c.loop-selector-test.false)
    (c.loop-selector.invariant env serves))

pub wrong_subscript-returns-in-Subscript : goal.wrong_subscript-returns-in-Subscript
wrong_subscript-returns-in-Subscript t c env serves =
    let is = c.in-Subscript.is in
    let seen : selector_view c.args.selector.now ≡ subscript (expr_view c.in-Subscript.subscript) =
    rw is (search (rules, code_selector.the_lemmas)) in
    rw seen (c.wrong_expression.ensures.broken env serves)

pub place_of-returns-in-Some-clause-broken : goal.place_of-returns-in-Some-clause-broken
place_of-returns-in-Some-clause-broken t c env serves =
    let v = c.args.variable.now in
    let xs = selectors_of (map selector_view v.selectors.items) in
    let seen : variable_view v ≡ variable v.name xs = search (rules, code_variable.the_lemmas) in
    rw seen (place_found env v.name xs (place_type_view c.in-Some.declared) _ _ (c.in-Some.ensures env serves)
    (rw c.deref.ensures.value at (c.select_all.ensures.broken env serves)))

pub place_of-returns-in-None-clause-broken : goal.place_of-returns-in-None-clause-broken
place_of-returns-in-None-clause-broken t c env serves =
    let v = c.args.variable.now in
    let xs = selectors_of (map selector_view v.selectors.items) in
    let seen : variable_view v ≡ variable v.name xs = search (rules, code_variable.the_lemmas) in
    rw seen (place_lost env v.name xs _ _ (c.in-None.ensures env serves)
    (collects_both _ _ _ _ _ c.add.ensures (rw c.deref-in-None.ensures.value at (c.wrong_subscripts.ensures env serves))))

pub typing_of_read-returns-then-is_empty : goal.typing_of_read-returns-then-is_empty
typing_of_read-returns-then-is_empty t c env serves =
    let v = c.args.variable.now in
    let xs = selectors_of (map selector_view v.selectors.items) in
    let seen : variable_view v ≡ variable v.name xs = search (rules, code_variable.the_lemmas) in
    let none = none_written v.selectors.len v.selectors.items v.selectors.ok.0
    (sym c.is_empty.ensures ∙ c.if-is_empty.true) in
    alone_types env v.name (variable_view v) _ _ _ (seen ∙ ap (variable v.name) none)
    (c.typing_of_alone.ensures.typing env serves) (c.typing_of_alone.ensures.broken env serves)

pub typing_of_read-returns : goal.typing_of_read-returns
typing_of_read-returns t c env serves =
    let v = c.args.variable.now in
    let xs = selectors_of (map selector_view v.selectors.items) in
    let seen : variable_view v ≡ variable v.name xs = search (rules, code_variable.the_lemmas) in
    let some = some_written v.selectors.len v.selectors.items v.selectors.ok.0
    (sym c.is_empty.ensures ∙ c.if-is_empty.false) in
    read_types env v.name some.first some.rest (variable_view v) _ _ _ (seen ∙ ap (variable v.name) some.is)
    (c.typing_of_place.ensures env.text serves.tables
    ∙ ap (typing_of_type env.text) (c.place_of-declared.ensures.selected env serves))
    (c.place_of-declared.ensures.broken env serves)

-- arguments
pub wrong_arguments-loop-number-init : goal.wrong_arguments-loop-number-init
wrong_arguments-loop-number-init t c env serves = search_starts _ _ _ refl

pub wrong_arguments-loop-number-preserved : goal.wrong_arguments-loop-number-preserved
wrong_arguments-loop-number-preserved t c env serves =
    let one = rw c.demand_of_input-demand.ensures at (c.wrong_expression.ensures.broken env serves) in
    argument_goes_on env (demands_of_inputs c.args.place c.args.inputs.now) c.args.arguments.now c.loop-number.number
    c.index-arguments-number.result _ _ _ _ c.loop-number-test.true c.index-arguments-number.is
    (c.loop-number.invariant env serves) one

pub wrong_arguments_of_unknown-loop-argument-init : goal.wrong_arguments_of_unknown-loop-argument-init
wrong_arguments_of_unknown-loop-argument-init t c env serves = search_starts _ _ _ refl

pub wrong_arguments_of_unknown-loop-argument-preserved : goal.wrong_arguments_of_unknown-loop-argument-preserved
wrong_arguments_of_unknown-loop-argument-preserved t c env serves =
    unknown_goes_on env c.args.arguments.now c.loop-argument.argument-index c.argument-item.result _ _ _ _
    c.loop-argument-test.true c.argument-item.is (c.loop-argument.invariant env serves)
    (c.wrong_expression.ensures.broken env serves)

pub wrong_arguments_of_unknown-returns : goal.wrong_arguments_of_unknown-returns
wrong_arguments_of_unknown-returns t c env serves =
    search_ends _ _ _ (search_is _ _ [] _ _
    (none_left env [] c.args.arguments.now c.loop-argument.argument-index c.loop-argument-test.false)
    (c.loop-argument.invariant env serves))

pub wrong_arguments-returns : goal.wrong_arguments-returns
wrong_arguments-returns t c env serves =
    let ds = demands_of_inputs c.args.place c.args.inputs.now in
    let xs = c.args.arguments.now in
    let others = search_ends _ _ _ (search_is _ _ [] _ _ (none_left env ds xs c.loop-number.number c.loop-number-test.false)
    (c.loop-number.invariant env serves)) in
    counted_call env c.args.place ds xs _ _ _ (inputs_counted c.args.place c.args.inputs.now) c.wrong_count.ensures others

pub call_of_standard-loop-number-init : goal.call_of_standard-loop-number-init
call_of_standard-loop-number-init t c env serves = search_starts _ _ _ refl

pub call_of_standard-loop-number-preserved : goal.call_of_standard-loop-number-preserved
call_of_standard-loop-number-preserved t c env serves =
    let ds = demands_view c.demands_of_standard-demands-in-len1-up.result in
    let one = rw c.of_argument-demand.ensures at (c.wrong_expression.ensures.broken env serves) in
    argument_goes_on env ds c.args.arguments.now c.loop-number.number c.index-arguments-number.result _ _ _ _
    c.loop-number-test.true c.index-arguments-number.is (c.loop-number.invariant env serves) one

pub call_of_standard-returns-in-len1-clause-broken : goal.call_of_standard-returns-in-len1-clause-broken
call_of_standard-returns-in-len1-clause-broken t c env serves =
    let xs = c.args.arguments.now in
    let x = c.only-item.result in
    let es = expr_then (expr_view x) no_exprs in
    let s = standard_view c.args.called in
    let seen = one_seen xs x (omega (arith, c.in-len1.len_at_least, c.in-len1.len_below)) c.only-item.is in
    let own = c.typed-only.ensures.typing env serves in
    let is = c.typed-only.ensures.expression in
    rw seen (standard_collects env c.args.place s es _ _ _
    (one_typed env (demands_on env c.args.place s es) (expr_view x) _ _ _ own)
    (rw is at (c.call_of_one.ensures.broken env (rw (← is) at own.typing))))

pub call_of_standard-returns-in-len2-clause-broken : goal.call_of_standard-returns-in-len2-clause-broken
call_of_standard-returns-in-len2-clause-broken t c env serves =
    let xs = c.args.arguments.now in
    let x = c.first-item.result in
    let y = c.second-item.result in
    let s = standard_view c.args.called in
    let es = expr_then (expr_view x) (expr_then (expr_view y) no_exprs) in
    let ds = demands_on env c.args.place s es in
    let seen = two_seen xs x y (omega (arith, c.in-len2.len_at_least, c.in-len2.len_below)) c.first-item.is
    c.second-item.is in
    let one = c.typed-first.ensures.typing env serves in
    let two = c.typed-second.ensures.typing env serves in
    let first = c.typed-first.ensures.expression in
    let second = c.typed-second.ensures.expression in
    rw seen (standard_collects env c.args.place s es _ _ _
    (more_typed env ds (expr_view x) (expr_then (expr_view y) no_exprs) _ _ _ _ one
    (one_typed env (other_demands ds) (expr_view y) _ _ _ two))
    (rw (first, second) at (c.call_of_two.ensures.broken env (rw (← first) at one.typing)
    (rw (← second) at two.typing))))

pub call_of_standard-returns-in-len3-clause-broken : goal.call_of_standard-returns-in-len3-clause-broken
call_of_standard-returns-in-len3-clause-broken t c env serves =
    let xs = c.args.arguments.now in
    let x = c.first-item-then-arguments-lt4.result in
    let y = c.second-item-then-arguments-lt4.result in
    let z = c.third-item.result in
    let s = standard_view c.args.called in
    let es = expr_then (expr_view x) (expr_then (expr_view y) (expr_then (expr_view z) no_exprs)) in
    let ds = demands_on env c.args.place s es in
    let seen = three_seen xs x y z (omega (arith, c.in-len3.len_at_least, c.in-len3.len_below))
    c.first-item-then-arguments-lt4.is c.second-item-then-arguments-lt4.is c.third-item.is in
    let one = c.typed-first-in-len3.ensures.typing env serves in
    let two = c.typed-second-in-len3.ensures.typing env serves in
    let three = c.typed-third.ensures.typing env serves in
    let first = c.typed-first-in-len3.ensures.expression in
    let second = c.typed-second-in-len3.ensures.expression in
    let third = c.typed-third.ensures.expression in
    rw seen (standard_collects env c.args.place s es _ _ _
    (more_typed env ds (expr_view x) (expr_then (expr_view y) (expr_then (expr_view z) no_exprs)) _ _ _ _ one
    (more_typed env (other_demands ds) (expr_view y) (expr_then (expr_view z) no_exprs) _ _ _ _ two
    (one_typed env (other_demands (other_demands ds)) (expr_view z) _ _ _ three)))
    (rw (first, second, third) at (c.call_of_three.ensures.broken env (rw (← first) at one.typing)
    (rw (← second) at two.typing) (rw (← third) at three.typing))))

pub call_of_standard-returns-in-len3-clause-typing : goal.call_of_standard-returns-in-len3-clause-typing
call_of_standard-returns-in-len3-clause-typing t c env serves =
    let xs = c.args.arguments.now in
    let seen = three_seen xs c.first-item-then-arguments-lt4.result c.second-item-then-arguments-lt4.result
    c.third-item.result (omega (arith, c.in-len3.len_at_least, c.in-len3.len_below))
    c.first-item-then-arguments-lt4.is c.second-item-then-arguments-lt4.is c.third-item.is in
    let one = c.typed-first-in-len3.ensures.typing env serves in
    let two = c.typed-second-in-len3.ensures.typing env serves in
    let three = c.typed-third.ensures.typing env serves in
    rw seen (rw (one.typing, two.typing, three.typing) at c.call_of_three.ensures.typing)

-- four and more
first_kind : (t : ℕ) (c : goal.call_of_standard-After-typing_of_kind-in-len1-up t) (env : Environment)
    → Serves c.args.names.now env → c.kind_of-common.result
    ≡ common_kind (standard_view c.args.called) (kinds_of (typings_of env (exprs_of (map expr_view c.args.arguments.now))))
first_kind t c env serves =
    let own = c.typed-first-in-len1-up.ensures.typing env serves in
    many_common env (standard_view c.args.called) c.args.arguments.now c.first-item-2.result c.kind_of-common.result
    c.in-len1-up.len_at_least c.first-item-2.is (c.kind_of-common.ensures ∙ ap kind_of own.typing)

pub call_of_standard-returns-after-loop-number-clause-typing : goal.call_of_standard-returns-after-loop-number-clause-typing
call_of_standard-returns-after-loop-number-clause-typing t c env serves =
    c.typing_of_kind-in-len1-up.ensures
    ∙ ap typing_of_kind (c.standard_kind-in-len1-up.ensures _ (first_kind t c env serves))

pub call_of_standard-returns-after-loop-number-clause-broken : goal.call_of_standard-returns-after-loop-number-clause-broken
call_of_standard-returns-after-loop-number-clause-broken t c env serves =
    let xs = c.args.arguments.now in
    let x = c.first-item-2.result in
    let s = standard_view c.args.called in
    let ds = demands_view c.demands_of_standard-demands-in-len1-up.result in
    let es = exprs_of (map expr_view (drop 1 xs)) in
    let own = c.typed-first-in-len1-up.ensures.typing env serves in
    let is = c.typed-first-in-len1-up.ensures.expression in
    let seen = left_seen xs 0 x (omega (arith, c.in-len1-up.len_at_least)) c.first-item-2.is in
    let first = placed env (first_demand ds) (expr_view x) _ _ _ _ own
    (rw (c.of_argument.ensures, is) at (c.wrong_at.ensures env (rw (← is) at own.typing))) in
    let others = search_ends _ _ _ (search_is _ _ [] _ _ (none_left env ds xs c.loop-number.number c.loop-number-test.false)
    (c.loop-number.invariant env serves)) in
    let demanded = c.demands_of_standard-demands-in-len1-up.ensures
    ∙ ap (demands_of_standard c.args.place s) (first_kind t c env serves) in
    rw seen (many_standard env c.args.place s (expr_view x) es ds _ _ _ _ _ (rw seen at demanded)
    (sym (ap count_of seen) ∙ count_seen xs) first others
    (rw c.count-in-len1-up.ensures at c.wrong_count-in-len1-up.ensures))

pub typing_of_call-returns-in-None : goal.typing_of_call-returns-in-None
typing_of_call-returns-in-None t c env serves =
    let f = c.args.function.now in
    let es = exprs_of (map expr_view c.args.arguments.now) in
    call_types env f es None Nothing _ _ (sym (c.in-None.ensures env serves.tables)) refl
    (collects_both _ _ _ _ _ c.add.ensures (c.wrong_arguments_of_unknown.ensures env serves))
