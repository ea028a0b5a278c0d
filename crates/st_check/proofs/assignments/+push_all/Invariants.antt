use Rattle.std.proofs.Common.{◌≡◌, ◌++◌, map, drop}
use Rattle.st_types.specs.StatementViews.{stmts_view, arm_view, case_arm_view}
use Rattle.st_types.specs.Statements.{arms_of, case_arms_of}
use Rattle.st_check.specs.Assignments.{assigned_view, assigned_in, assigned_in_arms, assigned_in_case_arms}
use Rattle.st_check.proofs.assignments.+push_all.Given as goal

abbrev pub invariant-push_all-loop-statement : goal.invariant-push_all-loop-statement
invariant-push_all-loop-statement l = map assigned_view l.assigned.items
    ++ assigned_in (map (λ x. x.now.name) l.running) (stmts_view (drop l.statement-index l.body))
    ≡ map assigned_view l.initial.assigned.items ++ assigned_in (map (λ x. x.now.name) l.running) (stmts_view l.body)

abbrev pub invariant-push_arms-loop-arm : goal.invariant-push_arms-loop-arm
invariant-push_arms-loop-arm l = map assigned_view l.assigned.items
    ++ assigned_in_arms (map (λ x. x.now.name) l.running) (arms_of (map arm_view (drop l.arm-index l.arms)))
    ≡ map assigned_view l.initial.assigned.items
    ++ assigned_in_arms (map (λ x. x.now.name) l.running) (arms_of (map arm_view l.arms))

abbrev pub invariant-push_case_arms-loop-arm : goal.invariant-push_case_arms-loop-arm
invariant-push_case_arms-loop-arm l = map assigned_view l.assigned.items
    ++ assigned_in_case_arms (map (λ x. x.now.name) l.running)
    (case_arms_of (map case_arm_view (drop l.arm-index l.arms)))
    ≡ map assigned_view l.initial.assigned.items
    ++ assigned_in_case_arms (map (λ x. x.now.name) l.running) (case_arms_of (map case_arm_view l.arms))
