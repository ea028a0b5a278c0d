use Rattle.std.proofs.Common.{◌≤◌}
use Rattle.quick_compiler.proofs.+draft.Given as goal

abbrev pub decreases-blocks::put_block : goal.decreases-blocks::put_block
decreases-blocks::put_block l = l.spot.levels

abbrev pub decreases-blocks::put_inputs : goal.decreases-blocks::put_inputs
decreases-blocks::put_inputs l = l.spot.levels

abbrev pub decreases-blocks::put_invocation : goal.decreases-blocks::put_invocation
decreases-blocks::put_invocation l = l.spot.levels

abbrev pub decreases-calls::put_call : goal.decreases-calls::put_call
decreases-calls::put_call l = l.spot.levels

abbrev pub decreases-calls::put_function : goal.decreases-calls::put_function
decreases-calls::put_function l = l.spot.levels

abbrev pub decreases-conditions::put_compared : goal.decreases-conditions::put_compared
decreases-conditions::put_compared l = l.spot.levels

abbrev pub decreases-conditions::put_test : goal.decreases-conditions::put_test
decreases-conditions::put_test l = l.spot.levels

abbrev pub decreases-functions::put_evaluated : goal.decreases-functions::put_evaluated
decreases-functions::put_evaluated l = l.spot.levels

abbrev pub decreases-loops::put_for : goal.decreases-loops::put_for
decreases-loops::put_for l = l.spot.levels

abbrev pub decreases-loops::put_pace : goal.decreases-loops::put_pace
decreases-loops::put_pace l = l.spot.levels

abbrev pub decreases-loops::put_repeat : goal.decreases-loops::put_repeat
decreases-loops::put_repeat l = l.spot.levels

abbrev pub decreases-loops::put_while : goal.decreases-loops::put_while
decreases-loops::put_while l = l.spot.levels

abbrev pub decreases-reading::put_binary : goal.decreases-reading::put_binary
decreases-reading::put_binary l = l.spot.levels

abbrev pub decreases-reading::put_fetched : goal.decreases-reading::put_fetched
decreases-reading::put_fetched l = l.spot.levels

abbrev pub decreases-reading::put_made : goal.decreases-reading::put_made
decreases-reading::put_made l = l.spot.levels

abbrev pub decreases-reading::put_read : goal.decreases-reading::put_read
decreases-reading::put_read l = l.spot.levels

abbrev pub decreases-signs::put_unary : goal.decreases-signs::put_unary
decreases-signs::put_unary l = l.spot.levels

abbrev pub decreases-statements::put_arm : goal.decreases-statements::put_arm
decreases-statements::put_arm l = l.spot.levels

abbrev pub decreases-statements::put_assignment : goal.decreases-statements::put_assignment
decreases-statements::put_assignment l = l.spot.levels

abbrev pub decreases-statements::put_case : goal.decreases-statements::put_case
decreases-statements::put_case l = l.spot.levels

abbrev pub decreases-statements::put_if : goal.decreases-statements::put_if
decreases-statements::put_if l = l.spot.levels

abbrev pub decreases-statements::put_stmt : goal.decreases-statements::put_stmt
decreases-statements::put_stmt l = l.spot.levels

abbrev pub decreases-statements::put_stmts : goal.decreases-statements::put_stmts
decreases-statements::put_stmts l = l.spot.levels

abbrev pub invariant-blocks::put_inputs-loop-argument : goal.invariant-blocks::put_inputs-loop-argument
invariant-blocks::put_inputs-loop-argument l = l.spot.levels ≤ l.fn.spot.levels

abbrev pub decreases-within::put_within : goal.decreases-within::put_within
decreases-within::put_within l = l.spot.levels

abbrev pub invariant-calls::put_call-loop-place : goal.invariant-calls::put_call-loop-place
invariant-calls::put_call-loop-place l = l.spot.levels ≤ l.fn.spot.levels

abbrev pub invariant-functions::put_evaluated-loop-place : goal.invariant-functions::put_evaluated-loop-place
invariant-functions::put_evaluated-loop-place l = l.spot.levels ≤ l.fn.spot.levels

abbrev pub invariant-statements::put_case-loop-number : goal.invariant-statements::put_case-loop-number
invariant-statements::put_case-loop-number l = l.spot.levels ≤ l.fn.spot.levels

abbrev pub invariant-statements::put_if-loop-number : goal.invariant-statements::put_if-loop-number
invariant-statements::put_if-loop-number l = l.spot.levels ≤ l.fn.spot.levels

abbrev pub invariant-statements::put_stmts-loop-statement : goal.invariant-statements::put_stmts-loop-statement
invariant-statements::put_stmts-loop-statement l = l.spot.levels ≤ l.fn.spot.levels

abbrev pub invariant-within::put_within-loop-number : goal.invariant-within::put_within-loop-number
invariant-within::put_within-loop-number l = l.spot.levels ≤ l.fn.spot.levels

abbrev pub decreases-subscripts::put_subscript : goal.decreases-subscripts::put_subscript
decreases-subscripts::put_subscript l = l.spot.levels

abbrev pub decreases-choosing::put_choice : goal.decreases-choosing::put_choice
decreases-choosing::put_choice l = l.spot.levels

abbrev pub decreases-choosing::put_asked : goal.decreases-choosing::put_asked
decreases-choosing::put_asked l = l.spot.levels
