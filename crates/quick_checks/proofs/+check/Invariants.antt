use Rattle.std.proofs.Common.{◌≡◌, ℕ, List, ◌++◌, map, drop, length, ◌+◌, ◌-◌, ◌*◌}
use Rattle.slot_trees.specs.Chains.{arms_of, exprs_of, stmts_of}
use Rattle.slot_trees.specs.ExpressionViews.{slot_expr_view}
use Rattle.slot_trees.specs.LibraryViews.{slot_library_view}
use Rattle.slot_trees.specs.StatementViews.{slot_arm_view, slot_stmt_view, slot_stmts_view}
use Rattle.st_compile.specs.Emitting.{filled}
use Rattle.st_compile.proofs.Sizes.{weight, arms_size, expr_size, exprs_size, step_size, stmt_size, stmts_size}
use Rattle.st_types.specs.declared.kind.Kind.{Kind}
use Rattle.quick_trees.specs.Points.{Point}
use Rattle.quick_trees.specs.TreeCode.{AreArguments, AreArmsCode, AreStmtsCode}
use Rattle.quick_checks.specs.Checking.{Always, exits_of, kinds_read, landing_of, point_of, words_read}
use Rattle.std.proofs.Common.{◌<◌}
use Rattle.std.specs.Prelude.{Some, option_map, slice_get}
use Rattle.slot_trees.specs.Chains.{case_arms_of}
use Rattle.slot_trees.specs.StatementViews.{slot_case_arm_view}
use Rattle.st_compile.proofs.Sizes.{case_size}
use Rattle.quick_code.specs.declared.quick_code.Way.{Way}
use Rattle.quick_trees.specs.Pieces.{InSequence}
use Rattle.quick_trees.specs.Points.{Joins, along}
use Rattle.quick_checks.specs.Choices.{body_at}
use Rattle.slot_trees.specs.StatementViews.{slot_argument_view}
use Rattle.st_compile.proofs.Sizes.{argument_size, arguments_size}
use Rattle.quick_trees.specs.Pieces.{Input}
use Rattle.quick_trees.specs.TreeCode.{InputsRead}
use Rattle.quick_checks.specs.Checking.{inputs_taken}
use Rattle.slot_trees.specs.declared.expression.Place as code_place
use Rattle.slot_trees.specs.Chains.{subscripts_of}
use Rattle.slot_trees.specs.ExpressionViews.{subscript_view}
use Rattle.st_compile.proofs.Sizes.{subscripts_size}
use Rattle.quick_checks.proofs.+check.Given as goal

-- Calls go down in depth, and else into parts of trees.
abbrev pub decreases-reading::check_read : goal.decreases-reading::check_read
decreases-reading::check_read l = 4 * (weight (filled (slot_library_view l.library.now)) l.scope.now.calls
    + (expr_size (slot_expr_view l.expression.now))) + 0

abbrev pub decreases-reading::check_made : goal.decreases-reading::check_made
decreases-reading::check_made l = 4 * (weight (filled (slot_library_view l.library.now)) l.scope.now.calls
    + (expr_size (slot_expr_view l.expression.now))) + 2

abbrev pub decreases-reading::check_binary : goal.decreases-reading::check_binary
decreases-reading::check_binary l = 4 * (weight (filled (slot_library_view l.library.now)) l.scope.now.calls
    + (expr_size (slot_expr_view l.operands.now.left) + expr_size (slot_expr_view l.operands.now.right))) + 1

abbrev pub decreases-reading::check_fetched : goal.decreases-reading::check_fetched
decreases-reading::check_fetched l = 4 * (weight (filled (slot_library_view l.library.now)) l.scope.now.calls
    + (expr_size (slot_expr_view l.subscript.now.index))) + 2

abbrev pub decreases-reading::check_converted : goal.decreases-reading::check_converted
decreases-reading::check_converted l = 4 * (weight (filled (slot_library_view l.library.now)) l.scope.now.calls
    + (exprs_size (exprs_of (map slot_expr_view l.arguments.now)))) + 1

abbrev pub decreases-signs::check_unary : goal.decreases-signs::check_unary
decreases-signs::check_unary l = 4 * (weight (filled (slot_library_view l.library.now)) l.scope.now.calls
    + (expr_size (slot_expr_view l.operand.now))) + 1

abbrev pub decreases-within::check_read_within : goal.decreases-within::check_read_within
decreases-within::check_read_within l = 4 * (weight (filled (slot_library_view l.library.now)) l.scope.now.calls
    + subscripts_size (subscripts_of (map subscript_view (code_place.out-Place l.place.now).subscripts.items))) + 3

abbrev pub decreases-within::check_made_within : goal.decreases-within::check_made_within
decreases-within::check_made_within l = 4 * (weight (filled (slot_library_view l.library.now)) l.scope.now.calls
    + subscripts_size (subscripts_of (map subscript_view (code_place.out-Place l.place.now).subscripts.items))) + 3

abbrev pub decreases-within::check_stored_within : goal.decreases-within::check_stored_within
decreases-within::check_stored_within l = 4 * (weight (filled (slot_library_view l.library.now)) l.scope.now.calls
    + (subscripts_size (subscripts_of (map subscript_view (code_place.out-Place l.place.now).subscripts.items))
    + expr_size (slot_expr_view l.value.now))) + 3

abbrev pub decreases-within::check_within : goal.decreases-within::check_within
decreases-within::check_within l = 4 * (weight (filled (slot_library_view l.library.now)) l.scope.now.calls
    + subscripts_size (subscripts_of (map subscript_view l.subscripts.now))) + 2

abbrev pub decreases-within::check_led : goal.decreases-within::check_led
decreases-within::check_led l = 4 * (weight (filled (slot_library_view l.library.now)) l.scope.now.calls
    + subscripts_size (subscripts_of (map subscript_view l.subscripts.now))) + 1

abbrev pub decreases-within::check_led_on : goal.decreases-within::check_led_on
decreases-within::check_led_on l = 4 * (weight (filled (slot_library_view l.library.now)) l.scope.now.calls
    + subscripts_size (subscripts_of (map subscript_view l.subscripts.now))) + 1

abbrev pub decreases-subscripts::check_subscript : goal.decreases-subscripts::check_subscript
decreases-subscripts::check_subscript l = 4 * (weight (filled (slot_library_view l.library.now)) l.scope.now.calls
    + expr_size (slot_expr_view l.subscript.now.index)) + 1

abbrev pub decreases-conditions::check_test : goal.decreases-conditions::check_test
decreases-conditions::check_test l = 4 * (weight (filled (slot_library_view l.library.now)) l.scope.now.calls
    + (expr_size (slot_expr_view l.condition.now))) + 2

abbrev pub decreases-conditions::check_bool : goal.decreases-conditions::check_bool
decreases-conditions::check_bool l = 4 * (weight (filled (slot_library_view l.library.now)) l.scope.now.calls
    + (expr_size (slot_expr_view l.condition.now))) + 1

abbrev pub decreases-conditions::check_compared : goal.decreases-conditions::check_compared
decreases-conditions::check_compared l = 4 * (weight (filled (slot_library_view l.library.now)) l.scope.now.calls
    + (expr_size (slot_expr_view l.operands.now.left) + expr_size (slot_expr_view l.operands.now.right))) + 2

abbrev pub decreases-calls::check_call : goal.decreases-calls::check_call
decreases-calls::check_call l = 4 * (weight (filled (slot_library_view l.library.now)) l.scope.now.calls
    + (exprs_size (exprs_of (map slot_expr_view l.arguments.now)))) + 3

abbrev pub decreases-functions::check_evaluated : goal.decreases-functions::check_evaluated
decreases-functions::check_evaluated l = 4 * (weight (filled (slot_library_view l.library.now)) l.scope.now.calls
    + (exprs_size (exprs_of (map slot_expr_view l.arguments.now)))) + 3

abbrev pub decreases-calls::check_arguments : goal.decreases-calls::check_arguments
decreases-calls::check_arguments l = 4 * (weight (filled (slot_library_view l.library.now)) l.scope.now.calls
    + (exprs_size (exprs_of (map slot_expr_view l.arguments.now)))) + 2

abbrev pub decreases-statements::check_stmts : goal.decreases-statements::check_stmts
decreases-statements::check_stmts l = 4 * (weight (filled (slot_library_view l.library.now)) l.scope.now.calls
    + (stmts_size (slot_stmts_view l.statements.now))) + 0

abbrev pub decreases-statements::check_stmt : goal.decreases-statements::check_stmt
decreases-statements::check_stmt l = 4 * (weight (filled (slot_library_view l.library.now)) l.scope.now.calls
    + (stmt_size (slot_stmt_view l.statement.now))) + 0

abbrev pub decreases-statements::check_assigned : goal.decreases-statements::check_assigned
decreases-statements::check_assigned l = 4 * (weight (filled (slot_library_view l.library.now)) l.scope.now.calls
    + (expr_size (slot_expr_view l.value.now))) + 3

abbrev pub decreases-statements::check_stored : goal.decreases-statements::check_stored
decreases-statements::check_stored l = 4 * (weight (filled (slot_library_view l.library.now)) l.scope.now.calls
    + (expr_size (slot_expr_view l.subscript.now.index) + expr_size (slot_expr_view l.value.now))) + 2

abbrev pub decreases-statements::check_if : goal.decreases-statements::check_if
decreases-statements::check_if l = 4 * (weight (filled (slot_library_view l.library.now)) l.scope.now.calls
    + (arms_size (arms_of (map slot_arm_view l.arms.now)) + stmts_size (slot_stmts_view l.otherwise.now))) + 1

abbrev pub decreases-statements::check_loop_body : goal.decreases-statements::check_loop_body
decreases-statements::check_loop_body l = 4 * (weight (filled (slot_library_view l.library.now)) l.scope.now.calls
    + stmts_size (slot_stmts_view l.body.now)) + 1

abbrev pub decreases-statements::check_while : goal.decreases-statements::check_while
decreases-statements::check_while l = 4 * (weight (filled (slot_library_view l.library.now)) l.scope.now.calls
    + (expr_size (slot_expr_view l.condition.now) + stmts_size (slot_stmts_view l.body.now))) + 3

abbrev pub decreases-statements::check_repeat : goal.decreases-statements::check_repeat
decreases-statements::check_repeat l = 4 * (weight (filled (slot_library_view l.library.now)) l.scope.now.calls
    + (expr_size (slot_expr_view l.condition.now) + stmts_size (slot_stmts_view l.body.now))) + 3

abbrev pub decreases-counting::check_kept : goal.decreases-counting::check_kept
decreases-counting::check_kept l = 4 * (weight (filled (slot_library_view l.library.now)) l.scope.now.calls
    + (expr_size (slot_expr_view l.limit.now))) + 1

abbrev pub decreases-counting::check_for : goal.decreases-counting::check_for
decreases-counting::check_for l = 4 * (weight (filled (slot_library_view l.library.now)) l.scope.now.calls
    + (expr_size (slot_expr_view l.start.now) + expr_size (slot_expr_view l.limit.now)
    + step_size (option_map slot_expr_view l.step.now) + stmts_size (slot_stmts_view l.body.now))) + 3

abbrev pub decreases-counting::check_pace : goal.decreases-counting::check_pace
decreases-counting::check_pace l = 4 * (weight (filled (slot_library_view l.library.now)) l.scope.now.calls
    + step_size (option_map slot_expr_view l.step.now)) + 2

abbrev pub decreases-counting::check_step : goal.decreases-counting::check_step
decreases-counting::check_step l = 4 * (weight (filled (slot_library_view l.library.now)) l.scope.now.calls
    + expr_size (slot_expr_view l.step.now)) + 2

abbrev pub decreases-calls::check_function : goal.decreases-calls::check_function
decreases-calls::check_function l = 4 * weight (filled (slot_library_view l.library.now)) l.scope.now.calls + 1

-- A fact that holds of the rest holds of all.
abbrev pub invariant-statements::check_stmts-loop-index : goal.invariant-statements::check_stmts-loop-index
invariant-statements::check_stmts-loop-index l = Always l.draft l.library l.scope (λ f s units. (q : Point)
    → AreStmtsCode f s units (stmts_of (map slot_stmt_view (drop l.index l.statements))) l.depth (exits_of l.exits)
    (point_of l.at) q
    → AreStmtsCode f s units (stmts_of (map slot_stmt_view l.statements)) l.depth (exits_of l.exits)
    (point_of l.fn.at) q)

abbrev pub decreases-statements::check_stmts-loop-index : goal.decreases-statements::check_stmts-loop-index
decreases-statements::check_stmts-loop-index l = length l.statements - l.index

abbrev pub invariant-statements::check_if-loop-index : goal.invariant-statements::check_if-loop-index
invariant-statements::check_if-loop-index l = Always l.draft l.library l.scope (λ f s units.
    AreArmsCode f s units (arms_of (map slot_arm_view (drop l.index l.arms)))
    (AreStmtsCode f s units (slot_stmts_view l.otherwise) l.depth (exits_of l.exits)) l.depth (exits_of l.exits)
    (point_of l.at) (landing_of l.behind)
    → AreArmsCode f s units (arms_of (map slot_arm_view l.arms))
    (AreStmtsCode f s units (slot_stmts_view l.otherwise) l.depth (exits_of l.exits)) l.depth (exits_of l.exits)
    (point_of l.fn.at) (landing_of l.behind))

abbrev pub decreases-statements::check_if-loop-index : goal.decreases-statements::check_if-loop-index
decreases-statements::check_if-loop-index l = length l.arms - l.index

abbrev pub decreases-blocks::check_invoked : goal.decreases-blocks::check_invoked
decreases-blocks::check_invoked l = 4 * (weight (filled (slot_library_view l.library.now)) l.scope.now.calls
    + arguments_size (map slot_argument_view l.arguments.now)) + 3

abbrev pub decreases-blocks::check_inputs : goal.decreases-blocks::check_inputs
decreases-blocks::check_inputs l = 4 * (weight (filled (slot_library_view l.library.now)) l.scope.now.calls
    + arguments_size (map slot_argument_view l.arguments.now)) + 2

abbrev pub decreases-blocks::check_argument : goal.decreases-blocks::check_argument
decreases-blocks::check_argument l = 4 * (weight (filled (slot_library_view l.library.now)) l.scope.now.calls
    + argument_size (slot_argument_view l.argument.now)) + 2

abbrev pub decreases-blocks::check_input : goal.decreases-blocks::check_input
decreases-blocks::check_input l = 4 * (weight (filled (slot_library_view l.library.now)) l.scope.now.calls
    + expr_size (slot_expr_view l.value.now)) + 1

abbrev pub decreases-blocks::check_block : goal.decreases-blocks::check_block
decreases-blocks::check_block l = 4 * weight (filled (slot_library_view l.library.now)) l.scope.now.calls + 2

abbrev pub decreases-blocks::check_own : goal.decreases-blocks::check_own
decreases-blocks::check_own l = 4 * weight (filled (slot_library_view l.library.now)) l.scope.now.calls + 1

abbrev pub decreases-blocks::check_inputs-loop-index : goal.decreases-blocks::check_inputs-loop-index
decreases-blocks::check_inputs-loop-index l = length l.arguments - l.index

abbrev pub invariant-blocks::check_inputs-loop-index : goal.invariant-blocks::check_inputs-loop-index
invariant-blocks::check_inputs-loop-index l = Always l.draft l.library l.scope (λ f s units.
    (js : List Input) (q : Point) → InputsRead f s units (map slot_argument_view (drop l.index l.arguments)) l.below js (point_of l.at) q
    → InputsRead f s units (map slot_argument_view l.arguments) l.depth (inputs_taken l.inputs.items ++ js)
    (point_of l.fn.at) q)

abbrev pub decreases-calls::check_arguments-loop-index : goal.decreases-calls::check_arguments-loop-index
decreases-calls::check_arguments-loop-index l = length l.arguments - l.index

abbrev pub invariant-calls::check_arguments-loop-index : goal.invariant-calls::check_arguments-loop-index
invariant-calls::check_arguments-loop-index l = Always l.draft l.library l.scope (λ f s units.
    (ts : List Kind) (ws : List ℕ) (q : Point)
    → AreArguments f s units (exprs_of (map slot_expr_view (drop l.index l.arguments))) l.below ts ws (point_of l.at) q
    → AreArguments f s units (exprs_of (map slot_expr_view l.arguments)) l.depth (kinds_read l.read.items ++ ts)
    (words_read l.read.items ++ ws) (point_of l.fn.at) q)

abbrev pub decreases-cases::check_case : goal.decreases-cases::check_case
decreases-cases::check_case l = 4 * (weight (filled (slot_library_view l.library.now)) l.scope.now.calls
    + (expr_size (slot_expr_view l.selector.now) + case_size (case_arms_of (map slot_case_arm_view l.arms.now))
    + stmts_size (slot_stmts_view l.otherwise.now))) + 3

abbrev pub decreases-cases::check_case_arms : goal.decreases-cases::check_case_arms
decreases-cases::check_case_arms l = 4 * (weight (filled (slot_library_view l.library.now)) l.scope.now.calls
    + case_size (case_arms_of (map slot_case_arm_view l.arms.now))) + 2

abbrev pub decreases-cases::check_arm : goal.decreases-cases::check_arm
decreases-cases::check_arm l = 4 * (weight (filled (slot_library_view l.library.now)) l.scope.now.calls
    + stmts_size (slot_stmts_view l.body.now)) + 1

abbrev pub invariant-cases::check_case_arms-loop-index : goal.invariant-cases::check_case_arms-loop-index
invariant-cases::check_case_arms-loop-index l = Always l.draft l.library l.scope (λ f s units. (k : ℕ) → k < l.index
    → (j : ℕ) (w : Way) → slice_get l.choices j ≡ Some k → slice_get f.ways (l.table.first + j) ≡ Some w
    → InSequence (AreStmtsCode f s units (body_at k (map slot_case_arm_view l.arms)) l.depth (exits_of l.exits)) (Joins f)
    (along (landing_of l.start) w) (landing_of l.behind))

abbrev pub decreases-cases::check_case_arms-loop-index : goal.decreases-cases::check_case_arms-loop-index
decreases-cases::check_case_arms-loop-index l = length l.arms - l.index

abbrev pub decreases-choosing::check_choice : goal.decreases-choosing::check_choice
decreases-choosing::check_choice l = 4 * (weight (filled (slot_library_view l.library.now)) l.scope.now.calls
    + (expr_size (slot_expr_view l.choice.now.condition.now) + expr_size (slot_expr_view l.choice.now.yes.now)
    + expr_size (slot_expr_view l.choice.now.no.now))) + 3

abbrev pub decreases-choosing::check_asked : goal.decreases-choosing::check_asked
decreases-choosing::check_asked l = 4 * (weight (filled (slot_library_view l.library.now)) l.scope.now.calls
    + expr_size (slot_expr_view l.condition.now)) + 1
