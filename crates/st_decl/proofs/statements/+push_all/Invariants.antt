use Rattle.std.proofs.Common.{◌≡◌, ◌++◌, map, drop}
use Rattle.st_types.specs.StatementViews.{stmt_view, stmts_view, arm_view, case_arm_view}
use Rattle.st_types.specs.Statements.{arms_of, case_arms_of}
use Rattle.st_decl.specs.Flattened.{all_in, all_in_arms, all_in_case_arms}
use Rattle.st_decl.proofs.statements.+push_all.Given as goal

abbrev pub invariant-push_all-loop-statement : goal.invariant-push_all-loop-statement
invariant-push_all-loop-statement l = map (λ s. stmt_view s.now) l.statements.items
    ++ all_in (stmts_view (drop l.statement-index l.body))
    ≡ map (λ s. stmt_view s.now) l.initial.statements.items ++ all_in (stmts_view l.body)

abbrev pub invariant-push_arms-loop-arm : goal.invariant-push_arms-loop-arm
invariant-push_arms-loop-arm l = map (λ s. stmt_view s.now) l.statements.items
    ++ all_in_arms (arms_of (map arm_view (drop l.arm-index l.arms)))
    ≡ map (λ s. stmt_view s.now) l.initial.statements.items ++ all_in_arms (arms_of (map arm_view l.arms))

abbrev pub invariant-push_case_arms-loop-arm : goal.invariant-push_case_arms-loop-arm
invariant-push_case_arms-loop-arm l = map (λ s. stmt_view s.now) l.statements.items
    ++ all_in_case_arms (case_arms_of (map case_arm_view (drop l.arm-index l.arms)))
    ≡ map (λ s. stmt_view s.now) l.initial.statements.items
    ++ all_in_case_arms (case_arms_of (map case_arm_view l.arms))
