use Rattle.std.proofs.Common.{◌≡◌, ◌≤◌, map, drop, max, min, ◌-◌, ◌^◌}
use Rattle.st_types.specs.Statements.{stmts_of, arms_of, case_arms_of}
use Rattle.st_types.specs.StatementViews.{stmt_view, arm_view, case_arm_view}
use Rattle.st_types.specs.Depths.{deepest_stmt, deepest_arm, deepest_case_arm}
use Rattle.st_types.proofs.depth.+statement_depth.Given as goal

-- the greatest depth of all is the greater one of the parts seen and the parts left
abbrev pub invariant-list_depth-loop-statement : goal.invariant-list_depth-loop-statement
invariant-list_depth-loop-statement l =
    (l.depth ≤ 2 ^ 64 - 1) × (min (deepest_stmt (stmts_of (map stmt_view l.statements))) (2 ^ 64 - 1) ≡ min
    (max l.depth (deepest_stmt (stmts_of (map stmt_view (drop l.statement-index l.statements))))) (2 ^ 64 - 1))

abbrev pub invariant-arm_depth-loop-arm : goal.invariant-arm_depth-loop-arm
invariant-arm_depth-loop-arm l =
    (l.depth ≤ 2 ^ 64 - 1) × (min (deepest_arm (arms_of (map arm_view l.arms))) (2 ^ 64 - 1)
    ≡ min (max l.depth (deepest_arm (arms_of (map arm_view (drop l.arm-index l.arms))))) (2 ^ 64 - 1))

abbrev pub invariant-case_arm_depth-loop-arm : goal.invariant-case_arm_depth-loop-arm
invariant-case_arm_depth-loop-arm l =
    (l.depth ≤ 2 ^ 64 - 1) × (min (deepest_case_arm (case_arms_of (map case_arm_view l.arms))) (2 ^ 64 - 1) ≡ min
    (max l.depth (deepest_case_arm (case_arms_of (map case_arm_view (drop l.arm-index l.arms))))) (2 ^ 64 - 1))
