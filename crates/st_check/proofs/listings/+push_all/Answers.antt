use Rattle.std.proofs.Common.{rules, map}
use Rattle.st_types.specs.Statements.{arms_of, case_arms_of}
use Rattle.st_types.specs.StatementViews.{stmt_view, stmts_view, arm_view, case_arm_view}
use Rattle.st_check.specs.Listings.{listed_view, listed_below, listed_in, listed_in_arms, listed_in_case_arms}
use Rattle.st_check.proofs.FlatLemmas.{chosen, selected}
use Rattle.st_check.proofs.listings.+push_all.Goals as goal
use Rattle.st_decl.proofs.FlatLemmas.{joined}

pub push_below-returns-in_ok-push_arms-in-If : goal.push_below-returns-in_ok-push_arms-in-If
push_below-returns-in_ok-push_arms-in-If t c =
    let seen = map listed_view in
    let arms = c.in-If.arms in
    let otherwise = c.in-If.otherwise in
    let at = c.args.in_loop in
    joined c.push_all.result (seen c.args.listed.now.items) (seen c.push_arms.new.listed.items)
    (seen c.push_all.new.listed.items) (listed_in_arms at (arms_of (map arm_view arms.items)))
    (listed_in at (stmts_view otherwise.items)) (listed_below at (stmt_view c.args.statement.now)) (search rules)
    (chosen (listed_below at) c.args.statement.now arms otherwise c.in-If.is) (search rules)

pub push_below-returns-in_ok-push_case_arms-in-Case : goal.push_below-returns-in_ok-push_case_arms-in-Case
push_below-returns-in_ok-push_case_arms-in-Case t c =
    let seen = map listed_view in
    let arms = c.in-Case.arms in
    let otherwise = c.in-Case.otherwise in
    let at = c.args.in_loop in
    joined c.push_all-in-Case.result (seen c.args.listed.now.items) (seen c.push_case_arms.new.listed.items)
    (seen c.push_all-in-Case.new.listed.items) (listed_in_case_arms at (case_arms_of (map case_arm_view arms.items)))
    (listed_in at (stmts_view otherwise.items)) (listed_below at (stmt_view c.args.statement.now)) (search rules)
    (selected (listed_below at) c.args.statement.now c.in-Case.field-0 arms otherwise c.in-Case.is) (search rules)
