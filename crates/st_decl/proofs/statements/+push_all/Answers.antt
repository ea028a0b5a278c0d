use Rattle.std.proofs.Common.{rules, refl, ap, ◌∙◌, ◌∷◌, ◌++◌, map}
use Rattle.st_types.specs.Statements.{stmts_of, arms_of, case_arms_of}
use Rattle.st_types.specs.StatementViews.{stmt_view, stmts_view, arm_view, case_arm_view}
use Rattle.st_decl.specs.Flattened.{all_below, all_in, all_in_arms, all_in_case_arms}
use Rattle.st_decl.proofs.FlatLemmas.{if_below, case_below, joined}
use Rattle.st_decl.proofs.PushLemmas.{tree_turn, tree_all, after_one}
use Rattle.st_decl.proofs.statements.+push_all.Goals as goal

pub push_below-returns-in_ok-push_arms-in-If : goal.push_below-returns-in_ok-push_arms-in-If
push_below-returns-in_ok-push_arms-in-If t c =
    let seen = map (λ s. stmt_view s.now) in
    let arms = c.in-If.arms in
    let otherwise = c.in-If.otherwise in
    joined c.push_all.result (seen c.args.statements.now.items) (seen c.push_arms.new.statements.items)
    (seen c.push_all.new.statements.items) (all_in_arms (arms_of (map arm_view arms.items)))
    (all_in (stmts_view otherwise.items)) (all_below (stmt_view c.args.statement.now)) (search rules)
    (if_below c.args.statement.now arms otherwise c.in-If.is) (search rules)

pub push_below-returns-in_ok-push_case_arms-in-Case : goal.push_below-returns-in_ok-push_case_arms-in-Case
push_below-returns-in_ok-push_case_arms-in-Case t c =
    let seen = map (λ s. stmt_view s.now) in
    let arms = c.in-Case.arms in
    let otherwise = c.in-Case.otherwise in
    joined c.push_all-in-Case.result (seen c.args.statements.now.items) (seen c.push_case_arms.new.statements.items)
    (seen c.push_all-in-Case.new.statements.items) (all_in_case_arms (case_arms_of (map case_arm_view arms.items)))
    (all_in (stmts_view otherwise.items)) (all_below (stmt_view c.args.statement.now)) (search rules)
    (case_below c.args.statement.now c.in-Case.field-0 arms otherwise c.in-Case.is) (search rules)

pub push_all-loop-statement-preserved : goal.push_all-loop-statement-preserved
push_all-loop-statement-preserved t c =
    let seen = map (λ s. stmt_view s.now) in
    let all = seen c.args.statements.now.items ++ all_in (stmts_view c.args.body.now) in
    tree_turn all_in stmts_of (λ x. x ∷ all_below x) stmt_view (λ x xs. refl) c.args.body.now
    c.loop-statement.statement-index c.statement-item.result all (seen c.loop-statement.statements.items)
    (seen c.push_below.new.statements.items) c.loop-statement-test.true c.statement-item.is c.loop-statement.invariant
    (after_one (λ s. stmt_view s.now) _ c.loop-statement.statements.items c.push.new.self.items
    (all_below (stmt_view c.statement-item.result)) (seen c.push_below.new.statements.items) c.in_ok-push.ensures.items
    c.in_ok-push_below.ensures)

pub push_arms-loop-arm-preserved : goal.push_arms-loop-arm-preserved
push_arms-loop-arm-preserved t c =
    let seen = map (λ s. stmt_view s.now) in
    let now = seen c.loop-arm.statements.items in
    tree_turn all_in_arms arms_of (λ a. all_in a.1) arm_view (λ a arms. refl) c.args.arms.now c.loop-arm.arm-index
    c.arm-item.result (seen c.args.statements.now.items ++ all_in_arms (arms_of (map arm_view c.args.arms.now)))
    now (seen c.push_all.new.statements.items) c.loop-arm-test.true c.arm-item.is c.loop-arm.invariant
    (c.in_ok-push_all.ensures ∙ ap (λ xs. now ++ all_in (stmts_view xs)) c.deref.ensures.value)

pub push_case_arms-loop-arm-preserved : goal.push_case_arms-loop-arm-preserved
push_case_arms-loop-arm-preserved t c =
    let seen = map (λ s. stmt_view s.now) in
    let now = seen c.loop-arm.statements.items in
    let all = seen c.args.statements.now.items ++ all_in_case_arms (case_arms_of (map case_arm_view c.args.arms.now)) in
    tree_turn all_in_case_arms case_arms_of (λ a. all_in a.1) case_arm_view (λ a arms. refl) c.args.arms.now
    c.loop-arm.arm-index c.arm-item.result all now (seen c.push_all.new.statements.items) c.loop-arm-test.true
    c.arm-item.is c.loop-arm.invariant
    (c.in_ok-push_all.ensures ∙ ap (λ xs. now ++ all_in (stmts_view xs)) c.deref.ensures.value)

pub push_all-returns : goal.push_all-returns
push_all-returns t c = tree_all all_in stmts_of _ _ _ _ _ refl c.loop-statement-test.false c.loop-statement.invariant

pub push_arms-returns : goal.push_arms-returns
push_arms-returns t c = tree_all all_in_arms arms_of _ _ _ _ _ refl c.loop-arm-test.false c.loop-arm.invariant

pub push_case_arms-returns : goal.push_case_arms-returns
push_case_arms-returns t c =
    tree_all all_in_case_arms case_arms_of _ _ _ _ _ refl c.loop-arm-test.false c.loop-arm.invariant
