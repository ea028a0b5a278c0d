use Rattle.std.proofs.Common.{◌≡◌, ◌++◌, map, drop}
use Rattle.st_types.specs.StatementViews.{stmt_view, arm_view, case_arm_view}
use Rattle.st_meaning.specs.ResolvedUnits.{resolved_stmt}
use Rattle.st_rules.specs.Environments.{Environment}
use Rattle.symbols.specs.Serving.{Serves}
use Rattle.st_resolved.specs.Arms.{resolved_arm, resolved_case_arm}
use Rattle.st_resolved.proofs.statements.+resolved_stmt.Given as goal

abbrev pub invariant-resolved_stmts-loop-statement : goal.invariant-resolved_stmts-loop-statement
invariant-resolved_stmts-loop-statement l = (env : Environment) → Serves l.names env
    → map stmt_view l.resolved.items ++ map (resolved_stmt env.text env.unit) (map stmt_view (drop l.statement-index l.statements))
    ≡ map (resolved_stmt env.text env.unit) (map stmt_view l.statements)

abbrev pub invariant-resolved_arms-loop-arm : goal.invariant-resolved_arms-loop-arm
invariant-resolved_arms-loop-arm l = (env : Environment) → Serves l.names env
    → map arm_view l.resolved.items ++ map (resolved_arm env.text env.unit) (map arm_view (drop l.arm-index l.arms))
    ≡ map (resolved_arm env.text env.unit) (map arm_view l.arms)

abbrev pub invariant-resolved_case_arms-loop-arm : goal.invariant-resolved_case_arms-loop-arm
invariant-resolved_case_arms-loop-arm l = (env : Environment) → Serves l.names env
    → map case_arm_view l.resolved.items ++ map (resolved_case_arm env.text env.unit l.kind) (map case_arm_view (drop l.arm-index l.arms))
    ≡ map (resolved_case_arm env.text env.unit l.kind) (map case_arm_view l.arms)
