use Rattle.std.proofs.Common.{◌≡◌, ◌≤◌, ◌+◌, suc, length, map, drop}
use Rattle.std.specs.Prelude.{option_map}
use Rattle.slot_trees.specs.Chains.{exprs_of, subscripts_of, stmts_of, arms_of, case_arms_of}
use Rattle.slot_trees.specs.ExpressionViews.{slot_expr_view, place_view, subscript_view}
use Rattle.slot_trees.specs.LibraryViews.{slot_library_view}
use Rattle.slot_trees.specs.StatementViews.{slot_argument_view, slot_stmt_view, slot_arm_view, slot_case_arm_view}
use Rattle.machine_code.specs.Codes.{exprs_code, subscripts_code, inputs_code, outputs_code, stmts_code, arms_code}
use Rattle.machine_code.specs.Codes.{case_code}
use Rattle.machine_code.specs.Fitting.{ExprsFit, SubscriptsFit, StmtsFit, ArmsFit, CaseArmsFit}
use Rattle.st_compile.specs.Emitting.{filled, frame_of, units_in, lengths_in, FitsIn, InputsFit, OutputsFit}
use Rattle.st_compile.specs.Lengths.{exprs_length, subscripts_length, inputs_length, outputs_length, stmts_length}
use Rattle.st_compile.specs.Lengths.{arms_length, case_length}
use Rattle.st_compile.proofs.Sizes.{weight, expr_size, exprs_size, place_size, subscripts_size, step_size}
use Rattle.st_compile.proofs.Sizes.{arguments_size, stmt_size, stmts_size, arms_size, case_size}
use Rattle.st_compile.proofs.+unit.Given as goal

-- Calls go down in depth, and else into parts of trees.
abbrev pub decreases-calls::put_block : goal.decreases-calls::put_block
decreases-calls::put_block l =
    weight (filled (slot_library_view l.library.now)) l.scope.depth

abbrev pub decreases-calls::put_function : goal.decreases-calls::put_function
decreases-calls::put_function l =
    weight (filled (slot_library_view l.library.now)) l.scope.depth

abbrev pub decreases-calls::put_inputs : goal.decreases-calls::put_inputs
decreases-calls::put_inputs l =
    weight (filled (slot_library_view l.library.now)) l.scope.depth + arguments_size (map slot_argument_view
    l.arguments.now)

abbrev pub decreases-calls::put_outputs : goal.decreases-calls::put_outputs
decreases-calls::put_outputs l =
    weight (filled (slot_library_view l.library.now)) l.scope.depth + arguments_size (map slot_argument_view
    l.arguments.now)

abbrev pub decreases-calls::put_invocation : goal.decreases-calls::put_invocation
decreases-calls::put_invocation l =
    weight (filled (slot_library_view l.library.now)) l.scope.depth + suc (arguments_size (map slot_argument_view
    l.arguments.now))

abbrev pub decreases-expressions::put_expr : goal.decreases-expressions::put_expr
decreases-expressions::put_expr l =
    weight (filled (slot_library_view l.library.now)) l.scope.depth + expr_size (slot_expr_view l.expression.now)

abbrev pub decreases-expressions::put_exprs : goal.decreases-expressions::put_exprs
decreases-expressions::put_exprs l =
    weight (filled (slot_library_view l.library.now)) l.scope.depth + exprs_size (exprs_of (map slot_expr_view
    l.expressions.now))

abbrev pub decreases-expressions::put_place : goal.decreases-expressions::put_place
decreases-expressions::put_place l =
    weight (filled (slot_library_view l.library.now)) l.scope.depth + place_size (place_view l.place.now)

abbrev pub decreases-expressions::put_subscripts : goal.decreases-expressions::put_subscripts
decreases-expressions::put_subscripts l =
    weight (filled (slot_library_view l.library.now)) l.scope.depth + subscripts_size (subscripts_of (map
    subscript_view l.subscripts.now))

abbrev pub decreases-statements::put_arms : goal.decreases-statements::put_arms
decreases-statements::put_arms l =
    weight (filled (slot_library_view l.library.now)) l.scope.depth + arms_size (arms_of (map slot_arm_view
    l.arms.now))

abbrev pub decreases-statements::put_case_arms : goal.decreases-statements::put_case_arms
decreases-statements::put_case_arms l =
    weight (filled (slot_library_view l.library.now)) l.scope.depth + case_size (case_arms_of (map slot_case_arm_view
    l.arms.now))

abbrev pub decreases-statements::put_case : goal.decreases-statements::put_case
decreases-statements::put_case l =
    weight (filled (slot_library_view l.library.now)) l.scope.depth + suc (expr_size (slot_expr_view l.selector.now)
    + case_size (case_arms_of (map slot_case_arm_view l.arms.now)) + stmts_size (stmts_of (map slot_stmt_view
    l.otherwise.now)))

abbrev pub decreases-statements::put_if : goal.decreases-statements::put_if
decreases-statements::put_if l =
    weight (filled (slot_library_view l.library.now)) l.scope.depth + suc (arms_size (arms_of (map slot_arm_view
    l.arms.now)) + stmts_size (stmts_of (map slot_stmt_view l.otherwise.now)))

abbrev pub decreases-statements::put_repeat : goal.decreases-statements::put_repeat
decreases-statements::put_repeat l =
    weight (filled (slot_library_view l.library.now)) l.scope.depth + suc (expr_size (slot_expr_view l.condition.now)
    + stmts_size (stmts_of (map slot_stmt_view l.body.now)))

abbrev pub decreases-statements::put_while : goal.decreases-statements::put_while
decreases-statements::put_while l =
    weight (filled (slot_library_view l.library.now)) l.scope.depth + suc (expr_size (slot_expr_view l.condition.now)
    + stmts_size (stmts_of (map slot_stmt_view l.body.now)))

abbrev pub decreases-statements::put_statement : goal.decreases-statements::put_statement
decreases-statements::put_statement l =
    weight (filled (slot_library_view l.library.now)) l.scope.depth + stmt_size (slot_stmt_view l.statement.now)

abbrev pub decreases-statements::put_statements : goal.decreases-statements::put_statements
decreases-statements::put_statements l =
    weight (filled (slot_library_view l.library.now)) l.scope.depth + stmts_size (stmts_of (map slot_stmt_view
    l.statements.now))

abbrev pub decreases-statements::put_step : goal.decreases-statements::put_step
decreases-statements::put_step l =
    weight (filled (slot_library_view l.library.now)) l.scope.depth + step_size (option_map slot_expr_view l.step.now)

abbrev pub decreases-statements::put_turns : goal.decreases-statements::put_turns
decreases-statements::put_turns l =
    weight (filled (slot_library_view l.library.now)) l.scope.depth + suc (stmts_size (stmts_of (map slot_stmt_view
    l.body.now)))

-- Loops go from the end: their code is that of the elements from here on.
abbrev pub invariant-calls::put_inputs-loop-left : goal.invariant-calls::put_inputs-loop-left
invariant-calls::put_inputs-loop-left l = record {
  within : l.left ≤ length l.arguments;
  long : length l.code ≡ inputs_length (lengths_in l.library l.scope) (map slot_argument_view (drop l.left
      l.arguments))
      + length l.fn.code;
  code : l.code ≡ inputs_code (units_in l.library l.scope) (frame_of l.scope) (map slot_argument_view (drop l.left
      l.arguments)) l.fn.code;
  fits : InputsFit (FitsIn l.library l.scope) (frame_of l.scope) l.first (map slot_argument_view (drop l.left
      l.arguments));
}

abbrev pub decreases-calls::put_inputs-loop-left : goal.decreases-calls::put_inputs-loop-left
decreases-calls::put_inputs-loop-left l = l.left

abbrev pub invariant-calls::put_outputs-loop-left : goal.invariant-calls::put_outputs-loop-left
invariant-calls::put_outputs-loop-left l = record {
  within : l.left ≤ length l.arguments;
  long : length l.code ≡ outputs_length (lengths_in l.library l.scope) (map slot_argument_view (drop l.left
      l.arguments))
      + length l.fn.code;
  code : l.code ≡ outputs_code (units_in l.library l.scope) (frame_of l.scope) l.first (map slot_argument_view (drop
      l.left l.arguments)) l.fn.code;
  fits : OutputsFit (FitsIn l.library l.scope) (frame_of l.scope) l.first (map slot_argument_view (drop l.left
      l.arguments));
}

abbrev pub decreases-calls::put_outputs-loop-left : goal.decreases-calls::put_outputs-loop-left
decreases-calls::put_outputs-loop-left l = l.left

abbrev pub invariant-expressions::put_exprs-loop-left : goal.invariant-expressions::put_exprs-loop-left
invariant-expressions::put_exprs-loop-left l = record {
  within : l.left ≤ length l.expressions;
  long : length l.code ≡ exprs_length (lengths_in l.library l.scope) (exprs_of (map slot_expr_view (drop l.left
      l.expressions)))
      + length l.fn.code;
  code : l.code ≡ exprs_code (units_in l.library l.scope) (frame_of l.scope) (exprs_of (map slot_expr_view (drop
      l.left l.expressions))) l.fn.code;
  fits : ExprsFit (FitsIn l.library l.scope) (frame_of l.scope) (exprs_of (map slot_expr_view (drop l.left
      l.expressions)));
}

abbrev pub decreases-expressions::put_exprs-loop-left : goal.decreases-expressions::put_exprs-loop-left
decreases-expressions::put_exprs-loop-left l = l.left

abbrev pub invariant-expressions::put_subscripts-loop-left : goal.invariant-expressions::put_subscripts-loop-left
invariant-expressions::put_subscripts-loop-left l = record {
  within : l.left ≤ length l.subscripts;
  long : length l.code ≡ subscripts_length (lengths_in l.library l.scope) (subscripts_of (map subscript_view (drop
      l.left l.subscripts)))
      + length l.fn.code;
  code : l.code ≡ subscripts_code (units_in l.library l.scope) (frame_of l.scope) (subscripts_of (map subscript_view
      (drop l.left l.subscripts))) l.fn.code;
  fits : SubscriptsFit (FitsIn l.library l.scope) (frame_of l.scope) (subscripts_of (map subscript_view (drop l.left
      l.subscripts)));
}

abbrev pub decreases-expressions::put_subscripts-loop-left : goal.decreases-expressions::put_subscripts-loop-left
decreases-expressions::put_subscripts-loop-left l = l.left

abbrev pub invariant-statements::put_arms-loop-left : goal.invariant-statements::put_arms-loop-left
invariant-statements::put_arms-loop-left l = record {
  within : l.left ≤ length l.arms;
  long : length l.code ≡ arms_length (lengths_in l.library l.scope) (arms_of (map slot_arm_view (drop l.left l.arms)))
      + length l.fn.code;
  code : l.code ≡ arms_code (units_in l.library l.scope) (frame_of l.scope) (arms_of (map slot_arm_view (drop l.left
      l.arms))) l.ways l.end l.fn.code;
  fits : ArmsFit (FitsIn l.library l.scope) (frame_of l.scope) (arms_of (map slot_arm_view (drop l.left l.arms)));
}

abbrev pub decreases-statements::put_arms-loop-left : goal.decreases-statements::put_arms-loop-left
decreases-statements::put_arms-loop-left l = l.left

abbrev pub invariant-statements::put_case_arms-loop-left : goal.invariant-statements::put_case_arms-loop-left
invariant-statements::put_case_arms-loop-left l = record {
  within : l.left ≤ length l.arms;
  long : length l.code ≡ case_length (lengths_in l.library l.scope) (case_arms_of (map slot_case_arm_view (drop
      l.left l.arms)))
      + length l.fn.code;
  code : l.code ≡ case_code (units_in l.library l.scope) (frame_of l.scope) (case_arms_of (map slot_case_arm_view
      (drop l.left l.arms))) l.ways l.end l.fn.code;
  fits : CaseArmsFit (FitsIn l.library l.scope) (frame_of l.scope) (case_arms_of (map slot_case_arm_view (drop l.left
      l.arms)));
}

abbrev pub decreases-statements::put_case_arms-loop-left : goal.decreases-statements::put_case_arms-loop-left
decreases-statements::put_case_arms-loop-left l = l.left

abbrev pub invariant-statements::put_statements-loop-left : goal.invariant-statements::put_statements-loop-left
invariant-statements::put_statements-loop-left l = record {
  within : l.left ≤ length l.statements;
  long : length l.code ≡ stmts_length (lengths_in l.library l.scope) (stmts_of (map slot_stmt_view (drop l.left
      l.statements)))
      + length l.fn.code;
  code : l.code ≡ stmts_code (units_in l.library l.scope) (frame_of l.scope) (stmts_of (map slot_stmt_view (drop
      l.left l.statements))) l.ways l.fn.code;
  fits : StmtsFit (FitsIn l.library l.scope) (frame_of l.scope) (stmts_of (map slot_stmt_view (drop l.left
      l.statements)));
}

abbrev pub decreases-statements::put_statements-loop-left : goal.decreases-statements::put_statements-loop-left
decreases-statements::put_statements-loop-left l = l.left
