use Rattle.std.proofs.Common.{◌<◌}
use Rattle.quick_compiler.proofs.windows.+name.Given as goal

abbrev pub decreases-name_stmts : goal.decreases-name_stmts
decreases-name_stmts l = l.levels

abbrev pub decreases-name_stmt : goal.decreases-name_stmt
decreases-name_stmt l = l.levels

abbrev pub decreases-name_arms : goal.decreases-name_arms
decreases-name_arms l = l.levels

abbrev pub decreases-name_case_arms : goal.decreases-name_case_arms
decreases-name_case_arms l = l.levels

abbrev pub decreases-name_invocation : goal.decreases-name_invocation
decreases-name_invocation l = l.levels

abbrev pub invariant-name_stmts-loop-statement : goal.invariant-name_stmts-loop-statement
invariant-name_stmts-loop-statement l = l.inner < l.fn.levels

abbrev pub invariant-name_arms-loop-arm : goal.invariant-name_arms-loop-arm
invariant-name_arms-loop-arm l = l.inner < l.fn.levels

abbrev pub invariant-name_case_arms-loop-arm : goal.invariant-name_case_arms-loop-arm
invariant-name_case_arms-loop-arm l = l.inner < l.fn.levels
