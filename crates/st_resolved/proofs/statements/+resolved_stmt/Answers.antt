use Rattle.std.proofs.Common.{rules, ◌≡◌, ◌∙◌, sym, ap, map, option_map}
use Rattle.st_types.specs.declared.statement.Stmt as code_stmt
use Rattle.st_types.specs.declared.statement.Arm as code_arm
use Rattle.st_types.specs.declared.statement.CaseArm as code_case_arm
use Rattle.st_types.specs.Statements.{IF, CASE, FOR, WHILE, REPEAT, stmts_of, arms_of, case_arms_of}
use Rattle.st_types.specs.ExpressionViews.{expr_view}
use Rattle.st_types.specs.StatementViews.{stmt_view, arm_view, case_arm_view}
use Rattle.st_types.proofs.Bridge.{choose_view, select_view}
use Rattle.st_meaning.specs.ResolvedUnits.{resolved_stmt}
use Rattle.st_resolved.specs.Arms.{resolved_arm, resolved_case_arm}
use Rattle.st_resolved.proofs.ListLemmas.{resolved_turn, all_resolved}
use Rattle.st_resolved.proofs.StatementLemmas.{arm_resolved, case_arm_resolved, if_resolved, case_resolved}
use Rattle.st_resolved.proofs.StatementLemmas.{for_resolved, while_resolved, repeat_resolved}
use Rattle.st_resolved.proofs.statements.+resolved_stmt.Goals as goal

pub resolved_arms-loop-arm-preserved : goal.resolved_arms-loop-arm-preserved
resolved_arms-loop-arm-preserved t c env serves =
    let at = c.loop-arm in
    let x = c.arm-item.result in
    let new : code_arm.Arm = record { condition = c.in_ok-condition.condition; body = c.in_ok-body.body } in
    let body = rw c.deref.ensures.value at (c.in_ok-body.ensures env serves) in
    resolved_turn arm_view (resolved_arm env.text env.unit) c.args.arms.now at.arm-index x _ at.resolved.items
    c.push.new.self.items new c.loop-arm-test.true c.arm-item.is (at.invariant env serves) (search rules)
    (arm_resolved env.text env.unit (map stmt_view x.body.items) (map stmt_view c.in_ok-body.body.items) body
    (expr_view x.condition) (expr_view c.in_ok-condition.condition) (c.in_ok-condition.ensures env serves))

pub resolved_case_arms-loop-arm-preserved : goal.resolved_case_arms-loop-arm-preserved
resolved_case_arms-loop-arm-preserved t c env serves =
    let at = c.loop-arm in
    let x = c.arm-item.result in
    let new : code_case_arm.CaseArm = record { labels = c.in_ok-labels.labels; body = c.in_ok-body.body } in
    let labels = rw c.deref.ensures.value at (c.in_ok-labels.ensures env.text serves.tables) in
    let body = rw c.deref-in-loop-arm.ensures.value at (c.in_ok-body.ensures env serves) in
    resolved_turn case_arm_view (resolved_case_arm env.text env.unit c.args.kind) c.args.arms.now at.arm-index x _
    at.resolved.items c.push.new.self.items new c.loop-arm-test.true c.arm-item.is (at.invariant env serves)
    (search rules)
    (case_arm_resolved env.text env.unit (map stmt_view x.body.items) (map stmt_view c.in_ok-body.body.items) body
    c.args.kind x.labels.items c.in_ok-labels.labels.items labels)

pub resolved_stmt-returns-in_ok-otherwise-in-If : goal.resolved_stmt-returns-in_ok-otherwise-in-If
resolved_stmt-returns-in_ok-otherwise-in-If t c env serves =
    let is = c.in-If.is in
    let arms = map arm_view c.in-If.arms.items in
    let xs = map stmt_view c.in-If.otherwise.items in
    let seen : stmt_view c.args.statement.now ≡ IF (arms_of arms) (stmts_of xs) =
    rw is (choose_view c.in-If.arms c.in-If.otherwise) in
    c.choose.ensures
    ∙ if_resolved env.text env.unit xs _ (rw c.deref-in-If-2.ensures.value at (c.in_ok-otherwise-in-If.ensures env serves))
    arms _ (rw c.deref-in-If.ensures.value at (c.in_ok-arms-in-If.ensures env serves))
    ∙ sym (ap (resolved_stmt env.text env.unit) seen)

pub resolved_stmt-returns-in_ok-otherwise-in-Case : goal.resolved_stmt-returns-in_ok-otherwise-in-Case
resolved_stmt-returns-in_ok-otherwise-in-Case t c env serves =
    let is = c.in-Case.is in
    let e = expr_view c.in-Case.selector in
    let arms = map case_arm_view c.in-Case.arms.items in
    let xs = map stmt_view c.in-Case.otherwise.items in
    let seen : stmt_view c.args.statement.now ≡ CASE e (case_arms_of arms) (stmts_of xs) =
    rw is (select_view c.in-Case.selector c.in-Case.arms c.in-Case.otherwise) in
    let resolves = c.in_ok-selector-in-Case.ensures env serves in
    c.select.ensures
    ∙ case_resolved env.text env.unit xs _
    (rw c.deref-in-Case-2.ensures.value at (c.in_ok-otherwise-in-Case.ensures env serves)) e _ c.resolved_kind-kind.result arms _
    (c.resolved_kind-kind.ensures ∙ resolves.kind) (c.at_place-selector.ensures env e resolves)
    (rw c.deref-in-Case.ensures.value at (c.in_ok-arms-in-Case.ensures env serves))
    ∙ sym (ap (resolved_stmt env.text env.unit) seen)

pub resolved_stmt-returns-in_ok-body-in-For : goal.resolved_stmt-returns-in_ok-body-in-For
resolved_stmt-returns-in_ok-body-in-For t c env serves =
    let is = c.in-For.is in
    let s = expr_view c.in-For.start in
    let l = expr_view c.in-For.limit in
    let by = option_map expr_view c.in-For.step in
    let xs = map stmt_view c.in-For.body.items in
    let seen : stmt_view c.args.statement.now ≡ FOR c.in-For.control s l by (stmts_of xs) =
    rw is (search (rules, code_stmt.the_lemmas)) in
    c.count.ensures
    ∙ for_resolved env.text env.unit xs _ (rw c.deref-in-For.ensures.value at (c.in_ok-body-in-For.ensures env serves))
    c.in-For.control _ c.kind_of_name-kind.result s _ l _ by _ c.in_ok-control-in-For.ensures
    (c.kind_of_name-kind.ensures env serves) (c.in_ok-start-in-For.ensures env serves)
    (c.in_ok-limit-in-For.ensures env serves) (c.in_ok-step-in-For.ensures env serves)
    ∙ sym (ap (resolved_stmt env.text env.unit) seen)

pub resolved_stmt-returns-in_ok-body-in-While : goal.resolved_stmt-returns-in_ok-body-in-While
resolved_stmt-returns-in_ok-body-in-While t c env serves =
    let is = c.in-While.is in
    let e = expr_view c.in-While.condition in
    let xs = map stmt_view c.in-While.body.items in
    let seen : stmt_view c.args.statement.now ≡ WHILE e (stmts_of xs) = rw is (search (rules, code_stmt.the_lemmas)) in
    c.repeat_while.ensures
    ∙ while_resolved env.text env.unit xs _
    (rw c.deref-in-While.ensures.value at (c.in_ok-body-in-While.ensures env serves)) e _
    (c.in_ok-condition-in-While.ensures env serves)
    ∙ sym (ap (resolved_stmt env.text env.unit) seen)

pub resolved_stmt-returns-in_ok-body-in-Repeat : goal.resolved_stmt-returns-in_ok-body-in-Repeat
resolved_stmt-returns-in_ok-body-in-Repeat t c env serves =
    let is = c.in-Repeat.is in
    let e = expr_view c.in-Repeat.condition in
    let xs = map stmt_view c.in-Repeat.body.items in
    let seen : stmt_view c.args.statement.now ≡ REPEAT (stmts_of xs) e =
    rw is (search (rules, code_stmt.the_lemmas)) in
    c.repeat_until.ensures
    ∙ repeat_resolved env.text env.unit xs _
    (rw c.deref-in-Repeat.ensures.value at (c.in_ok-body-in-Repeat.ensures env serves)) e _
    (c.in_ok-condition-in-Repeat.ensures env serves)
    ∙ sym (ap (resolved_stmt env.text env.unit) seen)

pub resolved_stmts-loop-statement-preserved : goal.resolved_stmts-loop-statement-preserved
resolved_stmts-loop-statement-preserved t c env serves =
    resolved_turn _ _ _ _ _ _ _ _ _ c.loop-statement-test.true c.statement-item.is
    (c.loop-statement.invariant env serves) c.in_ok-push.ensures.items (c.in_ok-resolved_stmt.ensures env serves)

pub resolved_stmts-returns : goal.resolved_stmts-returns
resolved_stmts-returns t c env serves =
    all_resolved _ _ _ _ _ _ c.loop-statement-test.false (c.loop-statement.invariant env serves)

pub resolved_arms-returns : goal.resolved_arms-returns
resolved_arms-returns t c env serves =
    all_resolved _ _ _ _ _ _ c.loop-arm-test.false (c.loop-arm.invariant env serves)

pub resolved_case_arms-returns : goal.resolved_case_arms-returns
resolved_case_arms-returns t c env serves =
    all_resolved _ _ _ _ _ _ c.loop-arm-test.false (c.loop-arm.invariant env serves)
