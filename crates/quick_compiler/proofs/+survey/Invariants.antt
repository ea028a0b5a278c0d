use Rattle.std.proofs.Common.{◌<◌}
use Rattle.quick_compiler.proofs.+survey.Given as goal

abbrev pub decreases-block_surveys::survey_block : goal.decreases-block_surveys::survey_block
decreases-block_surveys::survey_block l = l.levels

abbrev pub decreases-block_surveys::survey_invocation : goal.decreases-block_surveys::survey_invocation
decreases-block_surveys::survey_invocation l = l.levels

abbrev pub decreases-survey::survey_loop : goal.decreases-survey::survey_loop
decreases-survey::survey_loop l = l.levels

abbrev pub decreases-survey::survey_stmts : goal.decreases-survey::survey_stmts
decreases-survey::survey_stmts l = l.levels

abbrev pub decreases-survey::survey_stmt : goal.decreases-survey::survey_stmt
decreases-survey::survey_stmt l = l.levels

abbrev pub decreases-survey::survey_if : goal.decreases-survey::survey_if
decreases-survey::survey_if l = l.levels

abbrev pub decreases-survey::survey_case : goal.decreases-survey::survey_case
decreases-survey::survey_case l = l.levels

abbrev pub decreases-survey::survey_arm : goal.decreases-survey::survey_arm
decreases-survey::survey_arm l = l.levels

abbrev pub invariant-survey::survey_case-loop-arm : goal.invariant-survey::survey_case-loop-arm
invariant-survey::survey_case-loop-arm l = l.inner < l.fn.levels

abbrev pub invariant-survey::survey_if-loop-arm : goal.invariant-survey::survey_if-loop-arm
invariant-survey::survey_if-loop-arm l = l.inner < l.fn.levels

abbrev pub invariant-survey::survey_stmts-loop-statement : goal.invariant-survey::survey_stmts-loop-statement
invariant-survey::survey_stmts-loop-statement l = l.inner < l.fn.levels
