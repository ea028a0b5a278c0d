use Rattle.std.proofs.Common.{rules, ◌≡◌, ◌+◌, ◌-◌, ◌<◌, length, map, ℕ, suc, List, [], ◌∷◌, sym, subst, ap, ◌∙◌}
use Rattle.std.proofs.Common.{arith}
use Rattle.std.proofs.Common.{refl}
use Rattle.slot_trees.specs.declared.expression.Subscript as code_subscript
use Rattle.slot_trees.specs.declared.expression.Place as code_place
use Rattle.slot_trees.specs.declared.expression.SlotExpr as code_expr
use Rattle.slot_trees.specs.declared.statement.SlotStmt as code_stmt
use Rattle.slot_trees.specs.declared.statement.SlotArgument.TheVariants.{Given, Copied}
use Rattle.slot_trees.specs.declared.statement.SlotArm as code_arm
use Rattle.slot_trees.specs.declared.statement.SlotCaseArm as code_case_arm
use Rattle.slot_trees.specs.Chains.{exprs_of, subscripts_of, stmts_of}
use Rattle.slot_trees.specs.ExpressionViews.{anchor_view, slot_expr_view, place_view, subscript_view}
use Rattle.slot_trees.specs.StatementViews.{block_code_view, slot_argument_view, slot_stmt_view, slot_stmts_view}
use Rattle.slot_trees.specs.SlotTrees.{call, compute, place}
use Rattle.slot_trees.specs.SlotEvaluation.{slot_at}
use Rattle.std.proofs.lemmas.Bool.{false≢true}
use Rattle.st_types.specs.Values.{Datum}
use Rattle.machine_code.specs.Calls.{resets_code}
use Rattle.machine_code.specs.Codes.{count_of, stmts_code, stores_code, body_targets}
use Rattle.machine_code.specs.Fitting.{of_function, of_block, AllBelow, ArgumentsFit, ExprFits, ExprsFit, StmtsFit}
use Rattle.machine_code.specs.Growing.{◌◂◌}
use Rattle.machine_code.specs.UnitFrames.{instance_frame, end_of}
use Rattle.symbols.specs.Standard.{standard_view}
use Rattle.slot_trees.specs.LibraryViews.{slot_library_view, slot_function_view}
use Rattle.std.proofs.lemmas.Bool.Decides.{nat_tests}
use Rattle.st_compile.specs.declared.compile_error.CompileError.TheVariants.{NotLinked, TooManyPlaces}
use Rattle.st_compile.specs.Accesses.{known_instr, led_instr}
use Rattle.st_compile.proofs.Filled.{filled_body, filled_function}
use Rattle.st_compile.specs.Emitting.{filled, frame_of, units_in, lengths_in, FitsIn, LinkedIn}
use Rattle.st_compile.specs.Lengths.{units_length, inputs_length, outputs_length, place_length, stmts_length}
use Rattle.st_compile.specs.Lengths.{subscripts_length}
use Rattle.st_compile.specs.Linked.{ExprLinked, StmtsLinked, AreLabels}
use Rattle.st_compile.proofs.Depths.{no_call, block_lighter, function_lighter}
use Rattle.st_compile.proofs.Sizes.{weight, stmts_size}
use Rattle.st_compile.proofs.Elements.{expr_at, subscript_at, input_at, output_at, stmt_at, arm_at, case_at}
use Rattle.st_compile.proofs.Joints.{not_linked, not_there, passed_on, on_ok, standard_put, standard_fits}
use Rattle.st_compile.proofs.Joints.{standard_linked, own_put}
use Rattle.st_compile.proofs.Joints.{own_fits, own_linked, function_put, function_fits_so, function_linked_so}
use Rattle.st_compile.proofs.Joints.{body_linked, body_fits_so, too_long, too_long_on}
use Rattle.st_compile.proofs.Behind.{subscripts_behind, inputs_behind, outputs_behind, case_behind, arms_left}
use Rattle.st_compile.proofs.Behind.{case_left, led_more}
use Rattle.st_compile.proofs.Elements.{below_more}
use Rattle.st_compile.proofs.FitElements.{function_fits_below, body_fits_below, no_function_fits, no_body_fits}
use Rattle.st_compile.proofs.FitElements.{functions_length, standard_length, own_length, inputs_fit, outputs_fit}
use Rattle.st_compile.proofs.FitElements.{members_fit, expr_fits, subscript_fits, input_fits, output_fits, stmt_fits}
use Rattle.st_compile.proofs.FitElements.{arm_fits, case_fits}
use Rattle.st_compile.proofs.Joints.{arguments_fit, inputs_linked, outputs_linked, count_is, compute_put, place_put}
use Rattle.st_compile.proofs.Joints.{invoke_put}
use Rattle.st_compile.proofs.+unit.Goals as goal

pub expressions::put_exprs-returns-in_err-put_expr-clause-wrong :
    goal.expressions::put_exprs-returns-in_err-put_expr-clause-wrong
expressions::put_exprs-returns-in_err-put_expr-clause-wrong t c =
    not_linked _ c.in_err-put_expr.field-0.0 _ _ c.in_err-put_expr.ensures.wrong
    (λ h. expr_at (LinkedIn c.args.library.now c.args.scope) (frame_of c.args.scope)
    c.args.expressions.now (c.loop-left.left - 1) c.index-expressions-left.result (omega arith)
    c.index-expressions-left.is h) (search rules)

pub expressions::put_subscripts-returns-in_err-put_subscript-clause-wrong :
    goal.expressions::put_subscripts-returns-in_err-put_subscript-clause-wrong
expressions::put_subscripts-returns-in_err-put_subscript-clause-wrong t c =
    not_linked _ c.in_err-put_subscript.field-0.0 _ _ c.in_err-put_subscript.ensures.wrong
    (λ h. (subscript_at (LinkedIn c.args.library.now c.args.scope) (frame_of c.args.scope)
    c.args.subscripts.now (c.loop-left.left - 1) c.index-subscripts-left.result (omega arith)
    c.index-subscripts-left.is h).0) (search rules)

pub expressions::put_subscripts-returns-in_err-put_expr-clause-wrong :
    goal.expressions::put_subscripts-returns-in_err-put_expr-clause-wrong
expressions::put_subscripts-returns-in_err-put_expr-clause-wrong t c =
    not_linked _ c.in_err-put_expr.field-0.0 _ _ c.in_err-put_expr.ensures.wrong
    (λ h. subst (λ (y : code_subscript.Subscript). ExprLinked (LinkedIn c.args.library.now c.args.scope)
    (frame_of c.args.scope) (slot_expr_view y.index)) c.index-subscripts-left-in-loop-left.is
    (subscript_at (LinkedIn c.args.library.now c.args.scope) (frame_of c.args.scope)
    c.args.subscripts.now (c.loop-left.left - 1) c.index-subscripts-left-in-loop-left.result
    (omega arith) c.index-subscripts-left-in-loop-left.is h).1) (search rules)

pub calls::put_inputs-returns-then-saturating_add-scope-clause-wrong :
    goal.calls::put_inputs-returns-then-saturating_add-scope-clause-wrong
calls::put_inputs-returns-then-saturating_add-scope-clause-wrong t c = λ _ h.
    let w = input_at (LinkedIn c.args.library.now c.args.scope) (frame_of c.args.scope)
    c.args.arguments.now (c.loop-left.left - 1) c.args.first c.index-arguments-left.result
    (Given c.in-Given.member c.in-Given.value) (omega arith) c.index-arguments-left.is c.in-Given.is h in
    omega (arith, w.0)

pub calls::put_inputs-returns-in_err-put_expr-clause-wrong :
    goal.calls::put_inputs-returns-in_err-put_expr-clause-wrong
calls::put_inputs-returns-in_err-put_expr-clause-wrong t c =
    not_linked _ c.in_err-put_expr.field-0.0 _ _ c.in_err-put_expr.ensures.wrong
    (λ h. (input_at (LinkedIn c.args.library.now c.args.scope) (frame_of c.args.scope)
    c.args.arguments.now (c.loop-left.left - 1) c.args.first c.index-arguments-left.result
    (Given c.in-Given.member c.in-Given.value) (omega arith) c.index-arguments-left.is c.in-Given.is h).1) (search
    rules)

pub calls::put_outputs-returns-then-slot-scope-clause-wrong :
    goal.calls::put_outputs-returns-then-slot-scope-clause-wrong
calls::put_outputs-returns-then-slot-scope-clause-wrong t c = λ _ h.
    let w = output_at (LinkedIn c.args.library.now c.args.scope) (frame_of c.args.scope)
    c.args.arguments.now (c.loop-left.left - 1) c.args.first c.index-arguments-left.result
    (Copied c.in-Copied.member c.in-Copied.target) (omega arith) c.index-arguments-left.is c.in-Copied.is h in
    omega (arith, w.0)

pub calls::put_outputs-returns-in_err-put_place-clause-wrong :
    goal.calls::put_outputs-returns-in_err-put_place-clause-wrong
calls::put_outputs-returns-in_err-put_place-clause-wrong t c =
    not_linked _ c.in_err-put_place.field-0.0 _ _ c.in_err-put_place.ensures.wrong
    (λ h. (output_at (LinkedIn c.args.library.now c.args.scope) (frame_of c.args.scope)
    c.args.arguments.now (c.loop-left.left - 1) c.args.first c.index-arguments-left.result
    (Copied c.in-Copied.member c.in-Copied.target) (omega arith) c.index-arguments-left.is c.in-Copied.is h).1)
    (search rules)

pub statements::put_statements-returns-in_err-put_statement-clause-wrong :
    goal.statements::put_statements-returns-in_err-put_statement-clause-wrong
statements::put_statements-returns-in_err-put_statement-clause-wrong t c =
    not_linked _ c.in_err-put_statement.field-0.0 _ _ c.in_err-put_statement.ensures.wrong
    (λ h. stmt_at (LinkedIn c.args.library.now c.args.scope) (frame_of c.args.scope)
    c.args.statements.now (c.loop-left.left - 1) c.index-statements-left.result (omega arith)
    c.index-statements-left.is h) (search rules)

pub statements::put_arms-returns-in_err-put_statements-clause-wrong :
    goal.statements::put_arms-returns-in_err-put_statements-clause-wrong
statements::put_arms-returns-in_err-put_statements-clause-wrong t c =
    not_linked _ c.in_err-put_statements.field-0.0 _ _ c.in_err-put_statements.ensures.wrong
    (λ h. subst (λ (ys : List code_stmt.SlotStmt). StmtsLinked (LinkedIn c.args.library.now c.args.scope) (frame_of
    c.args.scope)
    (stmts_of (map slot_stmt_view ys))) (sym c.deref.ensures.value)
    (subst (λ (y : code_arm.SlotArm). StmtsLinked (LinkedIn c.args.library.now c.args.scope) (frame_of c.args.scope)
    (stmts_of (map slot_stmt_view y.body.items))) c.index-arms-left.is
    (arm_at (LinkedIn c.args.library.now c.args.scope) (frame_of c.args.scope) c.args.arms.now (c.loop-left.left - 1)
    c.index-arms-left.result (omega arith)
    c.index-arms-left.is h).1)) (search rules)

pub statements::put_arms-returns-in_err-put_expr-clause-wrong :
    goal.statements::put_arms-returns-in_err-put_expr-clause-wrong
statements::put_arms-returns-in_err-put_expr-clause-wrong t c =
    not_linked _ c.in_err-put_expr.field-0.0 _ _ c.in_err-put_expr.ensures.wrong
    (λ h. subst (λ (y : code_arm.SlotArm). ExprLinked (LinkedIn c.args.library.now c.args.scope)
    (frame_of c.args.scope) (slot_expr_view y.condition)) c.index-arms-left-in-loop-left.is
    (arm_at (LinkedIn c.args.library.now c.args.scope) (frame_of c.args.scope)
    c.args.arms.now (c.loop-left.left - 1) c.index-arms-left-in-loop-left.result
    (omega arith) c.index-arms-left-in-loop-left.is h).0) (search rules)

pub statements::put_case_arms-returns-in_err-put_statements-clause-wrong :
    goal.statements::put_case_arms-returns-in_err-put_statements-clause-wrong
statements::put_case_arms-returns-in_err-put_statements-clause-wrong t c =
    not_linked _ c.in_err-put_statements.field-0.0 _ _ c.in_err-put_statements.ensures.wrong
    (λ h. subst (λ (ys : List code_stmt.SlotStmt). StmtsLinked (LinkedIn c.args.library.now c.args.scope) (frame_of
    c.args.scope)
    (stmts_of (map slot_stmt_view ys))) (sym c.deref.ensures.value)
    (subst (λ (y : code_case_arm.SlotCaseArm). StmtsLinked (LinkedIn c.args.library.now c.args.scope) (frame_of
    c.args.scope)
    (stmts_of (map slot_stmt_view y.body.items))) c.index-arms-left.is
    (case_at (LinkedIn c.args.library.now c.args.scope) (frame_of c.args.scope) c.args.arms.now (c.loop-left.left - 1)
    c.index-arms-left.result (omega arith)
    c.index-arms-left.is h).1)) (search rules)

pub statements::put_case_arms-returns-in_err-put_labels-clause-wrong :
    goal.statements::put_case_arms-returns-in_err-put_labels-clause-wrong
statements::put_case_arms-returns-in_err-put_labels-clause-wrong t c =
    not_linked _ c.in_err-put_labels.field-0.0 _ _ (rw c.deref-in-loop-left.ensures.value at
    c.in_err-put_labels.ensures.wrong)
    (λ h. subst (λ (y : code_case_arm.SlotCaseArm). AreLabels y.labels.items) c.index-arms-left-in-loop-left.is
    (case_at (LinkedIn c.args.library.now c.args.scope) (frame_of c.args.scope)
    c.args.arms.now (c.loop-left.left - 1) c.index-arms-left-in-loop-left.result (omega arith)
    c.index-arms-left-in-loop-left.is h).0) (search rules)

pub calls::put_block-returns-in_default-clause-wrong : goal.calls::put_block-returns-in_default-clause-wrong
calls::put_block-returns-in_default-clause-wrong t c =
    λ _ h. no_call (slot_library_view c.args.library.now) _ _ (omega (arith, c.in_default.ensures)) h

pub calls::put_block-returns-then-scope-clause-wrong : goal.calls::put_block-returns-then-scope-clause-wrong
calls::put_block-returns-then-scope-clause-wrong t c =
    λ _ h. let w = standard_linked (slot_library_view c.args.library.now) c.args.scope.depth c.in-Some.depth _ _ _
    (omega (arith, c.in-Some.ensures))
    (ap block_code_view c.in-Standard.is) h in grind (arith, w)

pub calls::put_block-put_statements-requires : goal.calls::put_block-put_statements-requires
calls::put_block-put_statements-requires t c =
    let w : weight (filled (slot_library_view c.args.library.now)) c.in-Some.depth + stmts_size (slot_stmts_view
    c.in_ok-body-in-Own.body.now)
    < weight (filled (slot_library_view c.args.library.now)) c.args.scope.depth
    = block_lighter (filled (slot_library_view c.args.library.now)) c.args.scope.depth c.in-Some.depth
    c.in-Own.number _ (omega (arith, c.in-Some.ensures))
    (filled_body (slot_library_view c.args.library.now) c.in-Own.number _ c.in_ok-body-in-Own.ensures.known) in
    grind (arith, w)

pub calls::put_block-returns-else-member_count-scope-clause-code :
    goal.calls::put_block-returns-else-member_count-scope-clause-code
calls::put_block-returns-else-member_count-scope-clause-code t c =
    on_ok c.put.result _ _ (λ e. e ∙ standard_put (filled (slot_library_view c.args.library.now)) c.args.scope.depth
    c.in-Some.depth _ _ _ _ _ (omega (arith, c.in-Some.ensures))
    (ap block_code_view c.in-Standard.is) c.slot_after.ensures) c.put.ensures.put

pub calls::put_block-returns-else-member_count-scope-clause-fits :
    goal.calls::put_block-returns-else-member_count-scope-clause-fits
calls::put_block-returns-else-member_count-scope-clause-fits t c =
    on_ok c.put.result _ _ (λ _. standard_fits _ (filled (slot_library_view c.args.library.now)) c.args.scope.depth
    c.in-Some.depth _ c.in-Standard.block _ (omega (arith, c.in-Some.ensures))
    (ap block_code_view c.in-Standard.is) (omega (arith, c.member_count.ensures.count))) c.put.ensures.put

pub calls::put_block-returns-in_ok-body-in-Own-clause-code :
    goal.calls::put_block-returns-in_ok-body-in-Own-clause-code
calls::put_block-returns-in_ok-body-in-Own-clause-code t c =
    on_ok c.put_statements.result _ _ (λ e. e ∙ own_put (filled (slot_library_view c.args.library.now))
    c.args.scope.depth c.in-Some.depth _ _ _ _ _ _ (omega (arith, c.in-Some.ensures))
    (ap block_code_view c.in-Own.is)
    (filled_body (slot_library_view c.args.library.now) c.in-Own.number _ c.in_ok-body-in-Own.ensures.known)
    c.len-end.ensures.count) c.put_statements.ensures.code

pub calls::put_block-returns-in_ok-body-in-Own-clause-fits :
    goal.calls::put_block-returns-in_ok-body-in-Own-clause-fits
calls::put_block-returns-in_ok-body-in-Own-clause-fits t c =
    on_ok c.put_statements.result _ _ (λ h. own_fits _ (filled (slot_library_view c.args.library.now))
    c.args.scope.depth c.in-Some.depth _ _ _ _ (omega (arith, c.in-Some.ensures))
    (ap block_code_view c.in-Own.is)
    (filled_body (slot_library_view c.args.library.now) c.in-Own.number _ c.in_ok-body-in-Own.ensures.known) h)
    c.put_statements.ensures.fits

pub calls::put_block-returns-in_ok-body-in-Own-clause-wrong :
    goal.calls::put_block-returns-in_ok-body-in-Own-clause-wrong
calls::put_block-returns-in_ok-body-in-Own-clause-wrong t c =
    passed_on NotLinked c.put_statements.result _ _ c.put_statements.ensures.wrong (λ h. own_linked (slot_library_view
    c.args.library.now) c.args.scope.depth c.in-Some.depth _ _ _ _
    (omega (arith, c.in-Some.ensures)) (ap block_code_view c.in-Own.is) c.in_ok-body-in-Own.ensures.known h)

pub calls::put_function-returns-in_default-clause-wrong : goal.calls::put_function-returns-in_default-clause-wrong
calls::put_function-returns-in_default-clause-wrong t c =
    λ _ h. no_call (slot_library_view c.args.library.now) _ _ (omega (arith, c.in_default.ensures)) h

pub calls::put_function-put_statements-requires : goal.calls::put_function-put_statements-requires
calls::put_function-put_statements-requires t c =
    let w : weight (filled (slot_library_view c.args.library.now)) c.in-Some.depth + stmts_size (slot_stmts_view
    c.in_ok-function.function.now.body.items)
    < weight (filled (slot_library_view c.args.library.now)) c.args.scope.depth
    = function_lighter (filled (slot_library_view c.args.library.now)) c.args.scope.depth c.in-Some.depth
    c.args.number _ (omega (arith, c.in-Some.ensures))
    (filled_function (slot_library_view c.args.library.now) c.args.number _ c.in_ok-function.ensures.known) in
    grind (arith, w)

pub expressions::put_expr-returns-in_ok-put-in-Compute-clause-code :
    goal.expressions::put_expr-returns-in_ok-put-in-Compute-clause-code
expressions::put_expr-returns-in_ok-put-in-Compute-clause-code t c =
    let f = c.in-Compute.function in
    let es = c.in-Compute.arguments.items in
    let seen : slot_expr_view c.args.expression.now ≡ compute (standard_view f) (exprs_of (map slot_expr_view es)) =
    rw c.in-Compute.is (search (rules, code_expr.the_lemmas)) in
    on_ok c.put_exprs.result _ _ (λ e. compute_put (units_in c.args.library.now c.args.scope) (frame_of c.args.scope)
    f es _ _ _ _ _ _ seen c.deref-in-Compute.ensures.value
    c.in_ok-put-in-Compute.ensures.put (omega (arith, c.in-Ok.ensures, c.len.ensures)) e) c.put_exprs.ensures.code

pub calls::put_function-returns-then-not-has_signature-clause-wrong :
    goal.calls::put_function-returns-then-not-has_signature-clause-wrong
calls::put_function-returns-then-not-has_signature-clause-wrong t c =
    λ _ h. let w = function_linked_so (slot_library_view c.args.library.now) c.args.scope.depth c.in-Some.depth _ _ _
    _
    (omega (arith, c.in-Some.ensures)) c.in_ok-function.ensures.known h in
    false≢true (c.if-not-has_signature.ensures.1 w.0)

pub calls::put_function-returns-in_err-put_statements-clause-wrong :
    goal.calls::put_function-returns-in_err-put_statements-clause-wrong
calls::put_function-returns-in_err-put_statements-clause-wrong t c =
    let e : suc c.in_ok-inner.inner.depth ≡ c.args.scope.depth = (omega (
      arith,
      c.in-Some.ensures,
      c.in_ok-inner.ensures.depth,
    )) in
    not_linked _ c.in_err-put_statements.field-0.0 _ _ c.in_err-put_statements.ensures.wrong
    (λ h. subst (λ (ys : List code_stmt.SlotStmt). StmtsLinked (LinkedIn c.args.library.now c.in_ok-inner.inner)
    (frame_of c.in_ok-inner.inner) (stmts_of (map slot_stmt_view ys))) (sym c.deref.ensures.value)
    (body_linked (slot_library_view c.args.library.now) c.args.scope.depth _ _ _ _ c.in_ok-inner.inner e
    c.in_ok-function.ensures.known c.in_ok-inner.ensures.start c.in_ok-inner.ensures.base c.in_ok-inner.ensures.size
    h)) (search rules)

pub calls::put_invocation-returns-in_err-put_outputs-clause-wrong :
    goal.calls::put_invocation-returns-in_err-put_outputs-clause-wrong
calls::put_invocation-returns-in_err-put_outputs-clause-wrong t c =
    let e : (slot_at c.args.scope.base (anchor_view c.args.instance)) ≡ c.value_at-first.result =
    omega (arith, c.value_at-first.ensures, c.if-first-scope.false, c.requires.room, c.requires.numbered) in
    not_linked _ c.in_err-put_outputs.field-0.0 _ _ c.in_err-put_outputs.ensures.wrong
    (λ h. outputs_linked (LinkedIn c.args.library.now c.args.scope) (frame_of c.args.scope) _ _ (rw e at h.2)) (search
    rules)

pub calls::put_invocation-returns-clause-wrong : goal.calls::put_invocation-returns-clause-wrong
calls::put_invocation-returns-clause-wrong t c =
    let e : (slot_at c.args.scope.base (anchor_view c.args.instance)) ≡ c.value_at-first.result =
    omega (arith, c.value_at-first.ensures, c.if-first-scope.false, c.requires.room, c.requires.numbered) in
    passed_on NotLinked c.put_inputs.result _ _ c.put_inputs.ensures.wrong
    (λ h. inputs_linked (LinkedIn c.args.library.now c.args.scope) (frame_of c.args.scope) _ _ (rw e at h.2))

pub calls::put_invocation-returns-clause-code : goal.calls::put_invocation-returns-clause-code
calls::put_invocation-returns-clause-code t c =
    let e : c.value_at-first.result ≡ (slot_at c.args.scope.base (anchor_view c.args.instance)) =
    omega (arith, c.value_at-first.ensures, c.if-first-scope.false, c.requires.room, c.requires.numbered) in
    on_ok c.put_inputs.result _ _ (λ put5. invoke_put (units_in c.args.library.now c.args.scope) (frame_of
    c.args.scope) c.value_at-first.result (slot_at c.args.scope.base (anchor_view c.args.instance))
    (c.args.scope.start + c.value_at-first.result) c.in-Ok.count (block_code_view c.args.block) (map
    slot_argument_view c.args.arguments.now) _ _ _ _
    _ _ e
    refl
    (omega (arith, c.in-Ok.ensures, c.given_count.ensures)) c.in_ok-put_outputs.ensures.code
    c.in_ok-put_block.ensures.code
    c.in_ok-put_members.ensures.code c.in_ok-put.ensures.put put5) c.put_inputs.ensures.code

pub calls::put_invocation-returns-clause-block : goal.calls::put_invocation-returns-clause-block
calls::put_invocation-returns-clause-block t c =
    let e : c.value_at-first.result ≡ (slot_at c.args.scope.base (anchor_view c.args.instance)) =
    omega (arith, c.value_at-first.ensures, c.if-first-scope.false, c.requires.room, c.requires.numbered) in
    on_ok c.put_inputs.result _ _ (λ _. subst (λ at. FitsIn c.args.library.now c.args.scope
    (of_block (block_code_view c.args.block) (instance_frame (frame_of c.args.scope) at))) e c.in_ok-put_block.ensures.fits)
    c.put_inputs.ensures.fits

pub calls::put_invocation-returns-clause-fits : goal.calls::put_invocation-returns-clause-fits
calls::put_invocation-returns-clause-fits t c =
    let e : c.value_at-first.result ≡ (slot_at c.args.scope.base (anchor_view c.args.instance)) =
    omega (arith, c.value_at-first.ensures, c.if-first-scope.false, c.requires.room, c.requires.numbered) in
    on_ok c.put_inputs.result _ _ (λ h. subst (λ at. ArgumentsFit (FitsIn c.args.library.now c.args.scope)
    (frame_of c.args.scope) at (map slot_argument_view c.args.arguments.now)) e (arguments_fit (FitsIn
    c.args.library.now c.args.scope) (frame_of c.args.scope)
    c.value_at-first.result (map slot_argument_view c.args.arguments.now) h c.in_ok-put_outputs.ensures.fits))
    c.put_inputs.ensures.fits

pub expressions::put_expr-returns-in_err-put_function-in-Call-clause-wrong :
    goal.expressions::put_expr-returns-in_err-put_function-in-Call-clause-wrong
expressions::put_expr-returns-in_err-put_function-in-Call-clause-wrong t c =
    let f = c.in-Call.function in
    let es = c.in-Call.arguments.items in
    let seen : slot_expr_view c.args.expression.now ≡ call f (exprs_of (map slot_expr_view es)) =
    rw c.in-Call.is (search (rules, code_expr.the_lemmas)) in
    let n : count_of (exprs_of (map slot_expr_view es)) ≡ c.len-in-Call.result =
    count_is es ∙ (omega (arith, c.len-in-Call.ensures, c.in-Call.arguments.ok.0)) in
    not_linked _ c.in_err-put_function-in-Call.field-0.0 _ _ c.in_err-put_function-in-Call.ensures.wrong
    (λ h. rw n at (subst (λ x. ExprLinked (LinkedIn c.args.library.now c.args.scope) (frame_of c.args.scope) x) seen
    h).1) (search rules)

pub calls::put_function-returns-clause-code : goal.calls::put_function-returns-clause-code
calls::put_function-returns-clause-code t c =
    let z = c.in_ok-inner.inner in
    let f = c.in_ok-function.function.now in
    let e : suc c.in_ok-inner.inner.depth ≡ c.args.scope.depth = omega (
      arith,
      c.in-Some.ensures,
      c.in_ok-inner.ensures.depth,
    ) in
    let has = c.if-not-has_signature.ensures.0 refl in
    let body : c.put_statements.new.code ≡ stmts_code (units_in c.args.library.now z) (frame_of z)
    (slot_stmts_view f.body.items) (body_targets c.len-end.result) c.put.new.self
    = subst (λ (ys : List code_stmt.SlotStmt). c.put_statements.new.code ≡ stmts_code (units_in c.args.library.now z)
    (frame_of z) (slot_stmts_view ys) (body_targets c.len-end.result) c.put.new.self) c.deref.ensures.value
    c.in_ok-put_statements.ensures.code in
    let stores : c.put_stores.new.code ≡ stores_code z.start f.inputs.items c.put_statements.new.code
    = subst (λ (ys : List ℕ). c.put_stores.new.code ≡ stores_code z.start ys c.put_statements.new.code)
    c.deref-2.ensures.value c.in_ok-put_stores.ensures.code in
    let resets : c.put_resets.new.code ≡ resets_code z.start f.fresh.items c.put_stores.new.code
    = subst (λ (ys : List Datum). c.put_resets.new.code ≡ resets_code z.start ys c.put_stores.new.code)
    c.deref-3.ensures.value c.in_ok-put_resets.ensures.code in
    on_ok c.put-2.result _ _ (λ put5. function_put (filled (slot_library_view c.args.library.now)) c.args.scope.depth
    c.args.number
    (end_of (frame_of c.args.scope)) (slot_function_view f) z c.args.code.now c.put.new.self c.put_statements.new.code
    c.put_stores.new.code c.put_resets.new.code c.put-2.new.self c.slot_after.result c.len-end.result
    c.in-Ok.taken e
    (filled_function (slot_library_view c.args.library.now) c.args.number _ c.in_ok-function.ensures.known)
    c.in_ok-inner.ensures.start c.in_ok-inner.ensures.base c.in_ok-inner.ensures.size
    c.slot_after.ensures c.in_ok-put.ensures.put c.len-end.ensures.count body stores resets
    (omega (arith, c.in-Ok.ensures, has.0)) put5) c.put-2.ensures.put

pub calls::put_function-returns-clause-fits : goal.calls::put_function-returns-clause-fits
calls::put_function-returns-clause-fits t c =
    let z = c.in_ok-inner.inner in
    let f = c.in_ok-function.function.now in
    let e : suc c.in_ok-inner.inner.depth ≡ c.args.scope.depth = omega (
      arith,
      c.in-Some.ensures,
      c.in_ok-inner.ensures.depth,
    ) in
    let body : StmtsFit (FitsIn c.args.library.now z) (frame_of z) (slot_stmts_view f.body.items)
    = subst (λ (ys : List code_stmt.SlotStmt). StmtsFit (FitsIn c.args.library.now z) (frame_of z) (slot_stmts_view
    ys))
    c.deref.ensures.value c.in_ok-put_statements.ensures.fits in
    on_ok c.put-2.result _ _ (λ _. function_fits_so c.args.scope.memory (filled (slot_library_view
    c.args.library.now)) c.args.scope.depth c.args.number
    (end_of (frame_of c.args.scope)) c.args.count (slot_function_view f) z e
    (filled_function (slot_library_view c.args.library.now) c.args.number _ c.in_ok-function.ensures.known)
    c.in_ok-inner.ensures.memory
    c.in_ok-inner.ensures.start c.in_ok-inner.ensures.base c.in_ok-inner.ensures.size c.in_ok-inner.ensures.room
    (c.if-not-has_signature.ensures.0 refl) body) c.put-2.ensures.put

pub expressions::put_expr-returns-in_ok-put_function-in-Call-clause-fits :
    goal.expressions::put_expr-returns-in_ok-put_function-in-Call-clause-fits
expressions::put_expr-returns-in_ok-put_function-in-Call-clause-fits t c =
    let f = c.in-Call.function in
    let es = c.in-Call.arguments.items in
    let seen : slot_expr_view c.args.expression.now ≡ call f (exprs_of (map slot_expr_view es)) =
    rw c.in-Call.is (search (rules, code_expr.the_lemmas)) in
    let n : c.len-in-Call.result ≡ count_of (exprs_of (map slot_expr_view es)) =
    (omega (arith, c.len-in-Call.ensures, c.in-Call.arguments.ok.0)) ∙ sym (count_is es) in
    on_ok c.put_exprs-in-Call.result _ _ (λ h. subst (λ x. ExprFits (FitsIn c.args.library.now c.args.scope) (frame_of
    c.args.scope) x) (sym seen) (
      subst (λ (ys : List code_expr.SlotExpr). ExprsFit (FitsIn c.args.library.now c.args.scope) (frame_of
          c.args.scope) (exprs_of (map slot_expr_view ys))) c.deref-in-Call.ensures.value h,
      subst (λ m. FitsIn c.args.library.now c.args.scope (of_function f (end_of (frame_of c.args.scope)) m)) n
          c.in_ok-put_function-in-Call.ensures.fits,
    )) c.put_exprs-in-Call.ensures.fits

pub expressions::put_place-returns-clause-code : goal.expressions::put_place-returns-clause-code
expressions::put_place-returns-clause-code t c =
    let p = code_place.out-Place c.args.place.now in
    let seen : place_view c.args.place.now ≡ place (anchor_view p.anchor) (subscripts_of (map subscript_view
    p.subscripts.items)) = search (rules, code_place.the_lemmas) in
    let lt : 0 < length p.subscripts.items
    = grind (arith, nat_tests, p.subscripts.ok.0, c.is_empty.ensures, c.if-is_empty.false) in
    on_ok c.put-3.result _ _ (λ put3. place_put (units_in c.args.library.now c.args.scope) (frame_of c.args.scope)
    (anchor_view p.anchor) p.subscripts.items c.deref-2.result.now
    (place_view c.args.place.now) (known_instr c.args.access) (led_instr c.args.access) c.in_ok-slot.slot
    c.slot_value.result c.args.code.now c.put-2.new.self c.put_subscripts.new.code c.put-3.new.self seen
    c.deref-2.ensures.value lt c.in_ok-slot.ensures.slot c.slot_value.ensures
    (c.in_ok-put.ensures.put ∙ ap (λ i. c.args.code.now ◂ i) c.led.ensures) c.in_ok-put_subscripts.ensures.code put3)
    c.put-3.ensures.put

pub calls::put_block-returns-in_err-body-in-Own-clause-wrong :
    goal.calls::put_block-returns-in_err-body-in-Own-clause-wrong
calls::put_block-returns-in_err-body-in-Own-clause-wrong t c =
    not_there _ c.in_err-body-in-Own.field-0.0 _ _ c.in_err-body-in-Own.ensures.wrong
    (λ none h. own_linked (slot_library_view c.args.library.now) c.args.scope.depth c.in-Some.depth _ _ _ _ (omega
    (arith, c.in-Some.ensures))
    (ap block_code_view c.in-Own.is) none h) (search rules)

pub calls::put_function-returns-in_err-function-clause-wrong :
    goal.calls::put_function-returns-in_err-function-clause-wrong
calls::put_function-returns-in_err-function-clause-wrong t c =
    not_there _ c.in_err-function.field-0.0 _ _ c.in_err-function.ensures.wrong
    (λ none h. function_linked_so (slot_library_view c.args.library.now) c.args.scope.depth c.in-Some.depth _ _ _ _
    (omega (arith, c.in-Some.ensures)) none h)
    (search rules)

pub calls::put_block-returns-in_err-body-in-Own-clause-crowded :
    goal.calls::put_block-returns-in_err-body-in-Own-clause-crowded
calls::put_block-returns-in_err-body-in-Own-clause-crowded t c =
    not_there _ c.in_err-body-in-Own.field-0.0 _ _ c.in_err-body-in-Own.ensures.room
    (λ none h. no_body_fits c.args.scope.memory (slot_library_view c.args.library.now) c.args.scope.depth
    c.in-Some.depth _ _ _ (omega (arith, c.in-Some.ensures))
    (ap block_code_view c.in-Own.is) none h) (search rules)

pub calls::put_block-returns-else-member_count-scope-clause-long :
    goal.calls::put_block-returns-else-member_count-scope-clause-long
calls::put_block-returns-else-member_count-scope-clause-long t c =
    let one = standard_length (slot_library_view c.args.library.now) c.args.scope.depth c.in-Some.depth _ _
    (omega (arith, c.in-Some.ensures)) (ap block_code_view c.in-Standard.is) in
    on_ok c.put.result _ _ (λ e. omega (arith, e, one)) c.put.ensures.long

pub calls::put_block-returns-else-member_count-scope-clause-full :
    goal.calls::put_block-returns-else-member_count-scope-clause-full
calls::put_block-returns-else-member_count-scope-clause-full t c =
    let one = standard_length (slot_library_view c.args.library.now) c.args.scope.depth c.in-Some.depth _ _
    (omega (arith, c.in-Some.ensures)) (ap block_code_view c.in-Standard.is) in
    too_long_on c.put.result _ _ c.put.ensures.full (omega (arith, one))

pub calls::put_block-returns-in_ok-body-in-Own-clause-long :
    goal.calls::put_block-returns-in_ok-body-in-Own-clause-long
calls::put_block-returns-in_ok-body-in-Own-clause-long t c =
    let own = own_length (slot_library_view c.args.library.now) c.args.scope.depth c.in-Some.depth c.in-Own.number _ _
    (omega (arith, c.in-Some.ensures)) (ap block_code_view c.in-Own.is) c.in_ok-body-in-Own.ensures.known in
    on_ok c.put_statements.result _ _ (λ e. omega (arith, e, own)) c.put_statements.ensures.long

pub calls::put_block-returns-in_ok-body-in-Own-clause-full :
    goal.calls::put_block-returns-in_ok-body-in-Own-clause-full
calls::put_block-returns-in_ok-body-in-Own-clause-full t c =
    let own = own_length (slot_library_view c.args.library.now) c.args.scope.depth c.in-Some.depth c.in-Own.number _ _
    (omega (arith, c.in-Some.ensures)) (ap block_code_view c.in-Own.is) c.in_ok-body-in-Own.ensures.known in
    too_long_on c.put_statements.result _ _ c.put_statements.ensures.full (omega (arith, own))

pub calls::put_block-returns-in_ok-body-in-Own-clause-crowded :
    goal.calls::put_block-returns-in_ok-body-in-Own-clause-crowded
calls::put_block-returns-in_ok-body-in-Own-clause-crowded t c =
    passed_on TooManyPlaces c.put_statements.result _ _ c.put_statements.ensures.crowded
    (λ h. body_fits_below c.args.scope.memory (filled (slot_library_view c.args.library.now)) c.args.scope.depth
    c.in-Some.depth c.in-Own.number _ _ _
    (omega (arith, c.in-Some.ensures)) (ap block_code_view c.in-Own.is)
    (filled_body (slot_library_view c.args.library.now) c.in-Own.number _ c.in_ok-body-in-Own.ensures.known) h)

pub calls::put_function-returns-in_err-function-clause-crowded :
    goal.calls::put_function-returns-in_err-function-clause-crowded
calls::put_function-returns-in_err-function-clause-crowded t c =
    not_there _ c.in_err-function.field-0.0 _ _ c.in_err-function.ensures.room
    (λ none h. no_function_fits c.args.scope.memory (slot_library_view c.args.library.now) c.args.scope.depth
    c.in-Some.depth _ _ _ (omega (arith, c.in-Some.ensures)) none h)
    (search rules)

pub calls::put_function-returns-in_default-try_from-clause-full :
    goal.calls::put_function-returns-in_default-try_from-clause-full
calls::put_function-returns-in_default-try_from-clause-full t c = λ _.
    let f = c.in_ok-function.function.now in
    let own = functions_length (slot_library_view c.args.library.now) c.args.scope.depth c.in-Some.depth
    c.args.number _
    (omega (arith, c.in-Some.ensures)) c.in_ok-function.ensures.known in
    let has = c.if-not-has_signature.ensures.0 refl in
    omega (arith, own, has.0, c.in_default-try_from.ensures)

pub calls::put_function-returns-in_err-inner-clause-crowded :
    goal.calls::put_function-returns-in_err-inner-clause-crowded
calls::put_function-returns-in_err-inner-clause-crowded t c =
    not_linked _ c.in_err-inner.field-0.0 _ _ (λ _ le. let lt = c.in_err-inner.ensures.crowded in omega (
      arith,
      lt,
      le,
    ))
    (λ h. (function_fits_below c.args.scope.memory (filled (slot_library_view c.args.library.now)) c.args.scope.depth
    c.in-Some.depth c.args.number _ _ _
    (omega (arith, c.in-Some.ensures)) (filled_function (slot_library_view c.args.library.now) c.args.number _
    c.in_ok-function.ensures.known) h).room) (search rules)

pub calls::put_function-returns-in_err-put-clause-full : goal.calls::put_function-returns-in_err-put-clause-full
calls::put_function-returns-in_err-put-clause-full t c =
    let f = c.in_ok-function.function.now in
    let own = functions_length (slot_library_view c.args.library.now) c.args.scope.depth c.in-Some.depth
    c.args.number _
    (omega (arith, c.in-Some.ensures)) c.in_ok-function.ensures.known in
    let has = c.if-not-has_signature.ensures.0 refl in
    too_long _ c.in_err-put.field-0.0 _ _ c.in_err-put.ensures.full (omega (arith, own)) (search rules)

pub calls::put_function-returns-in_err-put_statements-clause-full :
    goal.calls::put_function-returns-in_err-put_statements-clause-full
calls::put_function-returns-in_err-put_statements-clause-full t c =
    let f = c.in_ok-function.function.now in
    let own = functions_length (slot_library_view c.args.library.now) c.args.scope.depth c.in-Some.depth
    c.args.number _
    (omega (arith, c.in-Some.ensures)) c.in_ok-function.ensures.known in
    let has = c.if-not-has_signature.ensures.0 refl in
    let z = c.in_ok-inner.inner in
    let e : z.depth ≡ c.in-Some.depth = c.in_ok-inner.ensures.depth in
    let body : stmts_length (lengths_in c.args.library.now z) (slot_stmts_view c.deref.result.now)
    ≡ stmts_length (units_length (slot_library_view c.args.library.now) c.in-Some.depth) (slot_stmts_view
    f.body.items) =
    ap (λ d. stmts_length (units_length (slot_library_view c.args.library.now) d) (slot_stmts_view
    c.deref.result.now)) e
    ∙ ap (λ (ys : List code_stmt.SlotStmt). stmts_length (units_length (slot_library_view c.args.library.now)
    c.in-Some.depth) (slot_stmts_view ys))
    c.deref.ensures.value in
    too_long _ c.in_err-put_statements.field-0.0 _ _ c.in_err-put_statements.ensures.full
    (omega (arith, own, body, c.in_ok-put.ensures.long)) (search rules)

pub calls::put_function-returns-in_err-put_statements-clause-crowded :
    goal.calls::put_function-returns-in_err-put_statements-clause-crowded
calls::put_function-returns-in_err-put_statements-clause-crowded t c =
    let z = c.in_ok-inner.inner in
    let f = c.in_ok-function.function.now in
    not_linked _ c.in_err-put_statements.field-0.0 _ _ c.in_err-put_statements.ensures.crowded
    (λ h. subst (λ (ys : List code_stmt.SlotStmt). StmtsFit (FitsIn c.args.library.now z) (frame_of z)
    (slot_stmts_view ys)) (sym c.deref.ensures.value)
    (body_fits_so (filled (slot_library_view c.args.library.now)) z c.args.scope.memory c.in-Some.depth (end_of
    (frame_of c.args.scope)) (slot_function_view f)
    c.in_ok-inner.ensures.memory c.in_ok-inner.ensures.depth c.in_ok-inner.ensures.start c.in_ok-inner.ensures.base
    c.in_ok-inner.ensures.size (function_fits_below c.args.scope.memory (filled (slot_library_view
    c.args.library.now)) c.args.scope.depth c.in-Some.depth c.args.number _ _ _
    (omega (arith, c.in-Some.ensures)) (filled_function (slot_library_view c.args.library.now) c.args.number _
    c.in_ok-function.ensures.known) h).body)) (search rules)

pub calls::put_function-put_stores-requires : goal.calls::put_function-put_stores-requires
calls::put_function-put_stores-requires t c =
    let f = c.in_ok-function.function.now in
    let has = c.if-not-has_signature.ensures.0 refl in
    subst (λ (ys : List ℕ). AllBelow (65536 - c.in_ok-inner.inner.start) ys) (sym c.deref-2.ensures.value)
    (below_more (length f.fresh.items) (65536 - c.in_ok-inner.inner.start) f.inputs.items
    (omega (arith, c.in_ok-inner.ensures.room, c.in_ok-inner.ensures.size, c.requires.numbered)) has.1)

pub calls::put_function-returns-in_err-put_stores-clause-full :
    goal.calls::put_function-returns-in_err-put_stores-clause-full
calls::put_function-returns-in_err-put_stores-clause-full t c =
    let f = c.in_ok-function.function.now in
    let own = functions_length (slot_library_view c.args.library.now) c.args.scope.depth c.in-Some.depth
    c.args.number _
    (omega (arith, c.in-Some.ensures)) c.in_ok-function.ensures.known in
    let has = c.if-not-has_signature.ensures.0 refl in
    let z = c.in_ok-inner.inner in
    let e : z.depth ≡ c.in-Some.depth = c.in_ok-inner.ensures.depth in
    let body : stmts_length (lengths_in c.args.library.now z) (slot_stmts_view c.deref.result.now)
    ≡ stmts_length (units_length (slot_library_view c.args.library.now) c.in-Some.depth) (slot_stmts_view
    f.body.items) =
    ap (λ d. stmts_length (units_length (slot_library_view c.args.library.now) d) (slot_stmts_view
    c.deref.result.now)) e
    ∙ ap (λ (ys : List code_stmt.SlotStmt). stmts_length (units_length (slot_library_view c.args.library.now)
    c.in-Some.depth) (slot_stmts_view ys))
    c.deref.ensures.value in
    too_long _ c.in_err-put_stores.field-0.0 _ _ c.in_err-put_stores.ensures.full
    (omega (
      arith,
      own,
      body,
      c.in_ok-put.ensures.long,
      c.in_ok-put_statements.ensures.long,
      ap length c.deref-2.ensures.value,
    )) (search rules)

pub calls::put_function-returns-in_err-put_resets-clause-full :
    goal.calls::put_function-returns-in_err-put_resets-clause-full
calls::put_function-returns-in_err-put_resets-clause-full t c =
    let f = c.in_ok-function.function.now in
    let own = functions_length (slot_library_view c.args.library.now) c.args.scope.depth c.in-Some.depth
    c.args.number _
    (omega (arith, c.in-Some.ensures)) c.in_ok-function.ensures.known in
    let has = c.if-not-has_signature.ensures.0 refl in
    let z = c.in_ok-inner.inner in
    let e : z.depth ≡ c.in-Some.depth = c.in_ok-inner.ensures.depth in
    let body : stmts_length (lengths_in c.args.library.now z) (slot_stmts_view c.deref.result.now)
    ≡ stmts_length (units_length (slot_library_view c.args.library.now) c.in-Some.depth) (slot_stmts_view
    f.body.items) =
    ap (λ d. stmts_length (units_length (slot_library_view c.args.library.now) d) (slot_stmts_view
    c.deref.result.now)) e
    ∙ ap (λ (ys : List code_stmt.SlotStmt). stmts_length (units_length (slot_library_view c.args.library.now)
    c.in-Some.depth) (slot_stmts_view ys))
    c.deref.ensures.value in
    too_long _ c.in_err-put_resets.field-0.0 _ _ c.in_err-put_resets.ensures.full
    (omega (
      arith,
      own,
      body,
      c.in_ok-put.ensures.long,
      c.in_ok-put_statements.ensures.long,
      c.in_ok-put_stores.ensures.long,
      ap length c.deref-2.ensures.value,
      ap length c.deref-3.ensures.value,
    ))
    (search rules)

pub calls::put_function-returns-clause-long : goal.calls::put_function-returns-clause-long
calls::put_function-returns-clause-long t c =
    let f = c.in_ok-function.function.now in
    let own = functions_length (slot_library_view c.args.library.now) c.args.scope.depth c.in-Some.depth
    c.args.number _
    (omega (arith, c.in-Some.ensures)) c.in_ok-function.ensures.known in
    let has = c.if-not-has_signature.ensures.0 refl in
    let z = c.in_ok-inner.inner in
    let e : z.depth ≡ c.in-Some.depth = c.in_ok-inner.ensures.depth in
    let body : stmts_length (lengths_in c.args.library.now z) (slot_stmts_view c.deref.result.now)
    ≡ stmts_length (units_length (slot_library_view c.args.library.now) c.in-Some.depth) (slot_stmts_view
    f.body.items) =
    ap (λ d. stmts_length (units_length (slot_library_view c.args.library.now) d) (slot_stmts_view
    c.deref.result.now)) e
    ∙ ap (λ (ys : List code_stmt.SlotStmt). stmts_length (units_length (slot_library_view c.args.library.now)
    c.in-Some.depth) (slot_stmts_view ys))
    c.deref.ensures.value in
    on_ok c.put-2.result _ _ (λ e. omega (
      arith,
      own,
      body,
      c.in_ok-put.ensures.long,
      c.in_ok-put_statements.ensures.long,
      c.in_ok-put_stores.ensures.long,
      c.in_ok-put_resets.ensures.long,
      ap length c.deref-2.ensures.value,
      ap length c.deref-3.ensures.value,
      e,
    )) c.put-2.ensures.long

pub calls::put_function-returns-clause-full : goal.calls::put_function-returns-clause-full
calls::put_function-returns-clause-full t c =
    let f = c.in_ok-function.function.now in
    let own = functions_length (slot_library_view c.args.library.now) c.args.scope.depth c.in-Some.depth
    c.args.number _
    (omega (arith, c.in-Some.ensures)) c.in_ok-function.ensures.known in
    let has = c.if-not-has_signature.ensures.0 refl in
    let z = c.in_ok-inner.inner in
    let e : z.depth ≡ c.in-Some.depth = c.in_ok-inner.ensures.depth in
    let body : stmts_length (lengths_in c.args.library.now z) (slot_stmts_view c.deref.result.now)
    ≡ stmts_length (units_length (slot_library_view c.args.library.now) c.in-Some.depth) (slot_stmts_view
    f.body.items) =
    ap (λ d. stmts_length (units_length (slot_library_view c.args.library.now) d) (slot_stmts_view
    c.deref.result.now)) e
    ∙ ap (λ (ys : List code_stmt.SlotStmt). stmts_length (units_length (slot_library_view c.args.library.now)
    c.in-Some.depth) (slot_stmts_view ys))
    c.deref.ensures.value in
    too_long_on c.put-2.result _ _ c.put-2.ensures.full (omega (
      arith,
      own,
      body,
      c.in_ok-put.ensures.long,
      c.in_ok-put_statements.ensures.long,
      c.in_ok-put_stores.ensures.long,
      c.in_ok-put_resets.ensures.long,
      ap length c.deref-2.ensures.value,
      ap length c.deref-3.ensures.value,
    ))

pub calls::put_inputs-returns-in_err-put_expr-clause-full : goal.calls::put_inputs-returns-in_err-put_expr-clause-full
calls::put_inputs-returns-in_err-put_expr-clause-full t c =
    let b = inputs_behind (lengths_in c.args.library.now c.args.scope) c.args.arguments.now (c.loop-left.left - 1)
    c.loop-left.left
    c.index-arguments-left.result (omega arith) (omega arith) c.index-arguments-left.is in
    let one : inputs_length (lengths_in c.args.library.now c.args.scope) (slot_argument_view
    c.index-arguments-left.result ∷ [])
    ≡ inputs_length (lengths_in c.args.library.now c.args.scope) (slot_argument_view (Given c.in-Given.member
    c.in-Given.value) ∷ []) =
    ap (λ a. inputs_length (lengths_in c.args.library.now c.args.scope) (slot_argument_view a ∷ [])) c.in-Given.is in
    too_long _ c.in_err-put_expr.field-0.0 _ _ c.in_err-put_expr.ensures.full
    (omega (arith, b, one, c.loop-left.invariant.long)) (search rules)

pub calls::put_inputs-returns-in_err-put_expr-clause-crowded :
    goal.calls::put_inputs-returns-in_err-put_expr-clause-crowded
calls::put_inputs-returns-in_err-put_expr-clause-crowded t c =
    not_linked _ c.in_err-put_expr.field-0.0 _ _ c.in_err-put_expr.ensures.crowded
    (λ h. (input_fits (FitsIn c.args.library.now c.args.scope) (frame_of c.args.scope) c.args.arguments.now
    (c.loop-left.left - 1) c.args.first c.index-arguments-left.result
    (Given c.in-Given.member c.in-Given.value) (omega arith) c.index-arguments-left.is c.in-Given.is h).1)
    (search rules)

pub calls::put_invocation-returns-in_err-put_outputs-clause-crowded :
    goal.calls::put_invocation-returns-in_err-put_outputs-clause-crowded
calls::put_invocation-returns-in_err-put_outputs-clause-crowded t c =
    let e : (slot_at c.args.scope.base (anchor_view c.args.instance)) ≡ c.value_at-first.result =
    omega (arith, c.value_at-first.ensures, c.if-first-scope.false, c.requires.room, c.requires.numbered) in
    not_linked _ c.in_err-put_outputs.field-0.0 _ _ c.in_err-put_outputs.ensures.crowded
    (λ h. outputs_fit (FitsIn c.args.library.now c.args.scope) (frame_of c.args.scope) _ _ (rw e at h.1)) (search
    rules)

pub calls::put_invocation-returns-in_err-put_members-clause-crowded :
    goal.calls::put_invocation-returns-in_err-put_members-clause-crowded
calls::put_invocation-returns-in_err-put_members-clause-crowded t c =
    let e : (slot_at c.args.scope.base (anchor_view c.args.instance)) ≡ c.value_at-first.result =
    omega (arith, c.value_at-first.ensures, c.if-first-scope.false, c.requires.room, c.requires.numbered) in
    not_linked _ c.in_err-put_members.field-0.0 _ _ c.in_err-put_members.ensures.room
    (λ h. members_fit (FitsIn c.args.library.now c.args.scope) (frame_of c.args.scope) c.value_at-first.result _ _
    (omega (arith, c.requires.room, c.requires.numbered)) (rw e at h.1)) (search rules)

pub calls::put_invocation-returns-clause-crowded : goal.calls::put_invocation-returns-clause-crowded
calls::put_invocation-returns-clause-crowded t c =
    let e : (slot_at c.args.scope.base (anchor_view c.args.instance)) ≡ c.value_at-first.result =
    omega (arith, c.value_at-first.ensures, c.if-first-scope.false, c.requires.room, c.requires.numbered) in
    passed_on TooManyPlaces c.put_inputs.result _ _ c.put_inputs.ensures.crowded
    (λ h. inputs_fit (FitsIn c.args.library.now c.args.scope) (frame_of c.args.scope) _ _ (rw e at h.1))

pub calls::put_outputs-returns-in_err-put_place-clause-full :
    goal.calls::put_outputs-returns-in_err-put_place-clause-full
calls::put_outputs-returns-in_err-put_place-clause-full t c =
    let b = outputs_behind (lengths_in c.args.library.now c.args.scope) c.args.arguments.now (c.loop-left.left - 1)
    c.loop-left.left
    c.index-arguments-left.result (omega arith) (omega arith) c.index-arguments-left.is in
    let one : outputs_length (lengths_in c.args.library.now c.args.scope) (slot_argument_view
    c.index-arguments-left.result ∷ [])
    ≡ outputs_length (lengths_in c.args.library.now c.args.scope) (slot_argument_view (Copied c.in-Copied.member
    c.in-Copied.target) ∷ []) =
    ap (λ a. outputs_length (lengths_in c.args.library.now c.args.scope) (slot_argument_view a ∷ [])) c.in-Copied.is
    in
    too_long _ c.in_err-put_place.field-0.0 _ _ c.in_err-put_place.ensures.full
    (omega (arith, b, one, c.loop-left.invariant.long)) (search rules)

pub calls::put_outputs-returns-in_err-put_place-clause-crowded :
    goal.calls::put_outputs-returns-in_err-put_place-clause-crowded
calls::put_outputs-returns-in_err-put_place-clause-crowded t c =
    not_linked _ c.in_err-put_place.field-0.0 _ _ c.in_err-put_place.ensures.crowded
    (λ h. (output_fits (FitsIn c.args.library.now c.args.scope) (frame_of c.args.scope) c.args.arguments.now
    (c.loop-left.left - 1) c.args.first c.index-arguments-left.result
    (Copied c.in-Copied.member c.in-Copied.target) (omega arith) c.index-arguments-left.is c.in-Copied.is h).1)
    (search rules)

pub calls::put_outputs-returns-in_err-put-clause-full : goal.calls::put_outputs-returns-in_err-put-clause-full
calls::put_outputs-returns-in_err-put-clause-full t c =
    let b = outputs_behind (lengths_in c.args.library.now c.args.scope) c.args.arguments.now (c.loop-left.left - 1)
    c.loop-left.left
    c.index-arguments-left.result (omega arith) (omega arith) c.index-arguments-left.is in
    let one : outputs_length (lengths_in c.args.library.now c.args.scope) (slot_argument_view
    c.index-arguments-left.result ∷ [])
    ≡ outputs_length (lengths_in c.args.library.now c.args.scope) (slot_argument_view (Copied c.in-Copied.member
    c.in-Copied.target) ∷ []) =
    ap (λ a. outputs_length (lengths_in c.args.library.now c.args.scope) (slot_argument_view a ∷ [])) c.in-Copied.is
    in
    too_long _ c.in_err-put.field-0.0 _ _ c.in_err-put.ensures.full
    (omega (arith, b, one, c.loop-left.invariant.long, c.in_ok-put_place.ensures.long)) (search rules)

pub expressions::put_expr-returns-in_default-clause-wrong : goal.expressions::put_expr-returns-in_default-clause-wrong
expressions::put_expr-returns-in_default-clause-wrong t c = λ _ h.
    let f = c.in-Compute.function in
    let es = c.in-Compute.arguments.items in
    let seen : slot_expr_view c.args.expression.now ≡ compute (standard_view f) (exprs_of (map slot_expr_view es)) =
    rw c.in-Compute.is (search (rules, code_expr.the_lemmas)) in
    let few = (subst (λ x. ExprLinked (LinkedIn c.args.library.now c.args.scope) (frame_of c.args.scope) x) seen h).0
    in
    omega (arith, few, count_is es, c.in_default.ensures, c.len.ensures, c.in-Compute.arguments.ok.0)

pub expressions::put_expr-returns-in_err-put_function-in-Call-clause-crowded :
    goal.expressions::put_expr-returns-in_err-put_function-in-Call-clause-crowded
expressions::put_expr-returns-in_err-put_function-in-Call-clause-crowded t c =
    let f = c.in-Call.function in
    let es = c.in-Call.arguments.items in
    let seen : slot_expr_view c.args.expression.now ≡ call f (exprs_of (map slot_expr_view es)) =
    rw c.in-Call.is (search (rules, code_expr.the_lemmas)) in
    let n : count_of (exprs_of (map slot_expr_view es)) ≡ c.len-in-Call.result =
    count_is es ∙ (omega (arith, c.len-in-Call.ensures, c.in-Call.arguments.ok.0)) in
    not_linked _ c.in_err-put_function-in-Call.field-0.0 _ _ c.in_err-put_function-in-Call.ensures.crowded
    (λ h. rw n at (subst (λ x. ExprFits (FitsIn c.args.library.now c.args.scope) (frame_of c.args.scope) x) seen h).1)
    (search rules)

pub expressions::put_exprs-returns-in_err-put_expr-clause-crowded :
    goal.expressions::put_exprs-returns-in_err-put_expr-clause-crowded
expressions::put_exprs-returns-in_err-put_expr-clause-crowded t c =
    not_linked _ c.in_err-put_expr.field-0.0 _ _ c.in_err-put_expr.ensures.crowded
    (λ h. expr_fits (FitsIn c.args.library.now c.args.scope) (frame_of c.args.scope) c.args.expressions.now
    (c.loop-left.left - 1) c.index-expressions-left.result (omega arith)
    c.index-expressions-left.is h) (search rules)

pub expressions::put_place-returns-in_err-put-clause-full : goal.expressions::put_place-returns-in_err-put-clause-full
expressions::put_place-returns-in_err-put-clause-full t c =
    let p = code_place.out-Place c.args.place.now in
    let seen : place_view c.args.place.now ≡ place (anchor_view p.anchor) (subscripts_of (map subscript_view
    p.subscripts.items)) = search (rules, code_place.the_lemmas) in
    let lt : 0 < length p.subscripts.items
    = grind (arith, nat_tests, p.subscripts.ok.0, c.is_empty.ensures, c.if-is_empty.false) in
    let led = led_more (lengths_in c.args.library.now c.args.scope) p.subscripts.items lt in
    let whole : place_length (lengths_in c.args.library.now c.args.scope) (place_view c.args.place.now)
    ≡ 2 + subscripts_length (lengths_in c.args.library.now c.args.scope) (subscripts_of (map subscript_view
    p.subscripts.items)) =
    ap (place_length (lengths_in c.args.library.now c.args.scope)) seen ∙ led in
    too_long _ c.in_err-put.field-0.0 _ _ c.in_err-put.ensures.full (omega (arith, whole)) (search rules)

pub expressions::put_place-returns-in_err-put_subscripts-clause-full :
    goal.expressions::put_place-returns-in_err-put_subscripts-clause-full
expressions::put_place-returns-in_err-put_subscripts-clause-full t c =
    let p = code_place.out-Place c.args.place.now in
    let seen : place_view c.args.place.now ≡ place (anchor_view p.anchor) (subscripts_of (map subscript_view
    p.subscripts.items)) = search (rules, code_place.the_lemmas) in
    let lt : 0 < length p.subscripts.items
    = grind (arith, nat_tests, p.subscripts.ok.0, c.is_empty.ensures, c.if-is_empty.false) in
    let led = led_more (lengths_in c.args.library.now c.args.scope) p.subscripts.items lt in
    let whole : place_length (lengths_in c.args.library.now c.args.scope) (place_view c.args.place.now)
    ≡ 2 + subscripts_length (lengths_in c.args.library.now c.args.scope) (subscripts_of (map subscript_view
    p.subscripts.items)) =
    ap (place_length (lengths_in c.args.library.now c.args.scope)) seen ∙ led in
    let same : subscripts_length (lengths_in c.args.library.now c.args.scope) (subscripts_of (map subscript_view
    c.deref-2.result.now))
    ≡ subscripts_length (lengths_in c.args.library.now c.args.scope) (subscripts_of (map subscript_view
    p.subscripts.items)) =
    ap (λ (ss : List code_subscript.Subscript). subscripts_length (lengths_in c.args.library.now c.args.scope)
    (subscripts_of (map subscript_view ss)))
    c.deref-2.ensures.value in
    too_long _ c.in_err-put_subscripts.field-0.0 _ _ c.in_err-put_subscripts.ensures.full
    (omega (arith, whole, same, c.in_ok-put.ensures.long)) (search rules)

pub expressions::put_place-returns-clause-long : goal.expressions::put_place-returns-clause-long
expressions::put_place-returns-clause-long t c =
    let p = code_place.out-Place c.args.place.now in
    let seen : place_view c.args.place.now ≡ place (anchor_view p.anchor) (subscripts_of (map subscript_view
    p.subscripts.items)) = search (rules, code_place.the_lemmas) in
    let lt : 0 < length p.subscripts.items
    = grind (arith, nat_tests, p.subscripts.ok.0, c.is_empty.ensures, c.if-is_empty.false) in
    let led = led_more (lengths_in c.args.library.now c.args.scope) p.subscripts.items lt in
    let whole : place_length (lengths_in c.args.library.now c.args.scope) (place_view c.args.place.now)
    ≡ 2 + subscripts_length (lengths_in c.args.library.now c.args.scope) (subscripts_of (map subscript_view
    p.subscripts.items)) =
    ap (place_length (lengths_in c.args.library.now c.args.scope)) seen ∙ led in
    let same : subscripts_length (lengths_in c.args.library.now c.args.scope) (subscripts_of (map subscript_view
    c.deref-2.result.now))
    ≡ subscripts_length (lengths_in c.args.library.now c.args.scope) (subscripts_of (map subscript_view
    p.subscripts.items)) =
    ap (λ (ss : List code_subscript.Subscript). subscripts_length (lengths_in c.args.library.now c.args.scope)
    (subscripts_of (map subscript_view ss)))
    c.deref-2.ensures.value in
    on_ok c.put-3.result _ _ (λ e. omega (
      arith,
      whole,
      same,
      c.in_ok-put.ensures.long,
      c.in_ok-put_subscripts.ensures.long,
      e,
    )) c.put-3.ensures.long

pub expressions::put_place-returns-clause-full : goal.expressions::put_place-returns-clause-full
expressions::put_place-returns-clause-full t c =
    let p = code_place.out-Place c.args.place.now in
    let seen : place_view c.args.place.now ≡ place (anchor_view p.anchor) (subscripts_of (map subscript_view
    p.subscripts.items)) = search (rules, code_place.the_lemmas) in
    let lt : 0 < length p.subscripts.items
    = grind (arith, nat_tests, p.subscripts.ok.0, c.is_empty.ensures, c.if-is_empty.false) in
    let led = led_more (lengths_in c.args.library.now c.args.scope) p.subscripts.items lt in
    let whole : place_length (lengths_in c.args.library.now c.args.scope) (place_view c.args.place.now)
    ≡ 2 + subscripts_length (lengths_in c.args.library.now c.args.scope) (subscripts_of (map subscript_view
    p.subscripts.items)) =
    ap (place_length (lengths_in c.args.library.now c.args.scope)) seen ∙ led in
    let same : subscripts_length (lengths_in c.args.library.now c.args.scope) (subscripts_of (map subscript_view
    c.deref-2.result.now))
    ≡ subscripts_length (lengths_in c.args.library.now c.args.scope) (subscripts_of (map subscript_view
    p.subscripts.items)) =
    ap (λ (ss : List code_subscript.Subscript). subscripts_length (lengths_in c.args.library.now c.args.scope)
    (subscripts_of (map subscript_view ss)))
    c.deref-2.ensures.value in
    too_long_on c.put-3.result _ _ c.put-3.ensures.full
    (omega (arith, whole, same, c.in_ok-put.ensures.long, c.in_ok-put_subscripts.ensures.long))

pub expressions::put_subscripts-returns-in_err-put_subscript-clause-full :
    goal.expressions::put_subscripts-returns-in_err-put_subscript-clause-full
expressions::put_subscripts-returns-in_err-put_subscript-clause-full t c =
    let b = subscripts_behind (lengths_in c.args.library.now c.args.scope) c.args.subscripts.now (c.loop-left.left -
    1) c.loop-left.left
    c.index-subscripts-left.result (omega arith) (omega arith) c.index-subscripts-left.is in
    too_long _ c.in_err-put_subscript.field-0.0 _ _ c.in_err-put_subscript.ensures.full
    (omega (arith, b, c.loop-left.invariant.long)) (search rules)

pub expressions::put_subscripts-returns-in_err-put_expr-clause-crowded :
    goal.expressions::put_subscripts-returns-in_err-put_expr-clause-crowded
expressions::put_subscripts-returns-in_err-put_expr-clause-crowded t c =
    not_linked _ c.in_err-put_expr.field-0.0 _ _ c.in_err-put_expr.ensures.crowded
    (λ h. subst (λ (y : code_subscript.Subscript). ExprFits (FitsIn c.args.library.now c.args.scope) (frame_of
    c.args.scope)
    (slot_expr_view y.index)) c.index-subscripts-left-in-loop-left.is
    (subscript_fits (FitsIn c.args.library.now c.args.scope) (frame_of c.args.scope) c.args.subscripts.now
    (c.loop-left.left - 1) c.index-subscripts-left-in-loop-left.result
    (omega arith) c.index-subscripts-left-in-loop-left.is h)) (search rules)

pub statements::put_arms-returns-in_err-put-clause-full : goal.statements::put_arms-returns-in_err-put-clause-full
statements::put_arms-returns-in_err-put-clause-full t c =
    let b = arms_left (lengths_in c.args.library.now c.args.scope) c.args.arms.now (c.loop-left.left - 1)
    c.loop-left.left (omega arith) (omega arith) in
    too_long _ c.in_err-put.field-0.0 _ _ c.in_err-put.ensures.full
    (omega (arith, b, c.loop-left.invariant.long)) (search rules)

pub statements::put_arms-returns-in_err-put_statements-clause-crowded :
    goal.statements::put_arms-returns-in_err-put_statements-clause-crowded
statements::put_arms-returns-in_err-put_statements-clause-crowded t c =
    not_linked _ c.in_err-put_statements.field-0.0 _ _ c.in_err-put_statements.ensures.crowded
    (λ h. subst (λ (ys : List code_stmt.SlotStmt). StmtsFit (FitsIn c.args.library.now c.args.scope) (frame_of
    c.args.scope)
    (stmts_of (map slot_stmt_view ys))) (sym c.deref.ensures.value)
    (subst (λ (y : code_arm.SlotArm). StmtsFit (FitsIn c.args.library.now c.args.scope) (frame_of c.args.scope)
    (stmts_of (map slot_stmt_view y.body.items))) c.index-arms-left.is
    (arm_fits (FitsIn c.args.library.now c.args.scope) (frame_of c.args.scope) c.args.arms.now (c.loop-left.left - 1)
    c.index-arms-left.result (omega arith) c.index-arms-left.is h).1)) (search rules)

pub statements::put_arms-returns-in_err-put_expr-clause-crowded :
    goal.statements::put_arms-returns-in_err-put_expr-clause-crowded
statements::put_arms-returns-in_err-put_expr-clause-crowded t c =
    not_linked _ c.in_err-put_expr.field-0.0 _ _ c.in_err-put_expr.ensures.crowded
    (λ h. subst (λ (y : code_arm.SlotArm). ExprFits (FitsIn c.args.library.now c.args.scope) (frame_of c.args.scope)
    (slot_expr_view y.condition)) c.index-arms-left-in-loop-left.is
    (arm_fits (FitsIn c.args.library.now c.args.scope) (frame_of c.args.scope) c.args.arms.now (c.loop-left.left - 1)
    c.index-arms-left-in-loop-left.result
    (omega arith) c.index-arms-left-in-loop-left.is h).0) (search rules)

pub statements::put_case_arms-returns-in_err-put-clause-full :
    goal.statements::put_case_arms-returns-in_err-put-clause-full
statements::put_case_arms-returns-in_err-put-clause-full t c =
    let b = case_left (lengths_in c.args.library.now c.args.scope) c.args.arms.now (c.loop-left.left - 1)
    c.loop-left.left (omega arith) (omega arith) in
    too_long _ c.in_err-put.field-0.0 _ _ c.in_err-put.ensures.full
    (omega (arith, b, c.loop-left.invariant.long)) (search rules)

pub statements::put_case_arms-returns-in_err-put_statements-clause-full :
    goal.statements::put_case_arms-returns-in_err-put_statements-clause-full
statements::put_case_arms-returns-in_err-put_statements-clause-full t c =
    let b = case_behind (lengths_in c.args.library.now c.args.scope) c.args.arms.now (c.loop-left.left - 1)
    c.loop-left.left
    c.index-arms-left.result (omega arith) (omega arith) c.index-arms-left.is in
    let body : stmts_length (lengths_in c.args.library.now c.args.scope) (slot_stmts_view c.deref.result.now)
    ≡ stmts_length (lengths_in c.args.library.now c.args.scope) (slot_stmts_view c.index-arms-left.result.body.items)
    =
    ap (λ (ys : List code_stmt.SlotStmt). stmts_length (lengths_in c.args.library.now c.args.scope) (slot_stmts_view
    ys)) c.deref.ensures.value
    ∙ ap (λ (y : code_case_arm.SlotCaseArm). stmts_length (lengths_in c.args.library.now c.args.scope)
    (slot_stmts_view y.body.items)) (sym c.index-arms-left.is) in
    too_long _ c.in_err-put_statements.field-0.0 _ _ c.in_err-put_statements.ensures.full
    (omega (arith, b, body, c.loop-left.invariant.long, c.in_ok-put.ensures.long)) (search rules)

pub statements::put_case_arms-returns-in_err-put_statements-clause-crowded :
    goal.statements::put_case_arms-returns-in_err-put_statements-clause-crowded
statements::put_case_arms-returns-in_err-put_statements-clause-crowded t c =
    not_linked _ c.in_err-put_statements.field-0.0 _ _ c.in_err-put_statements.ensures.crowded
    (λ h. subst (λ (ys : List code_stmt.SlotStmt). StmtsFit (FitsIn c.args.library.now c.args.scope) (frame_of
    c.args.scope)
    (stmts_of (map slot_stmt_view ys))) (sym c.deref.ensures.value)
    (subst (λ (y : code_case_arm.SlotCaseArm). StmtsFit (FitsIn c.args.library.now c.args.scope) (frame_of
    c.args.scope)
    (stmts_of (map slot_stmt_view y.body.items))) c.index-arms-left.is
    (case_fits (FitsIn c.args.library.now c.args.scope) (frame_of c.args.scope) c.args.arms.now (c.loop-left.left - 1)
    c.index-arms-left.result (omega arith) c.index-arms-left.is h))) (search rules)

pub statements::put_case_arms-returns-in_err-put-2-clause-full :
    goal.statements::put_case_arms-returns-in_err-put-2-clause-full
statements::put_case_arms-returns-in_err-put-2-clause-full t c =
    let b = case_behind (lengths_in c.args.library.now c.args.scope) c.args.arms.now (c.loop-left.left - 1)
    c.loop-left.left
    c.index-arms-left.result (omega arith) (omega arith) c.index-arms-left.is in
    let body : stmts_length (lengths_in c.args.library.now c.args.scope) (slot_stmts_view c.deref.result.now)
    ≡ stmts_length (lengths_in c.args.library.now c.args.scope) (slot_stmts_view c.index-arms-left.result.body.items)
    =
    ap (λ (ys : List code_stmt.SlotStmt). stmts_length (lengths_in c.args.library.now c.args.scope) (slot_stmts_view
    ys)) c.deref.ensures.value
    ∙ ap (λ (y : code_case_arm.SlotCaseArm). stmts_length (lengths_in c.args.library.now c.args.scope)
    (slot_stmts_view y.body.items)) (sym c.index-arms-left.is) in
    too_long _ c.in_err-put-2.field-0.0 _ _ c.in_err-put-2.ensures.full
    (omega (
      arith,
      b,
      body,
      c.loop-left.invariant.long,
      c.in_ok-put.ensures.long,
      c.in_ok-put_statements.ensures.long,
    ))
    (search rules)

pub statements::put_case_arms-returns-in_err-put-3-clause-full :
    goal.statements::put_case_arms-returns-in_err-put-3-clause-full
statements::put_case_arms-returns-in_err-put-3-clause-full t c =
    let b = case_behind (lengths_in c.args.library.now c.args.scope) c.args.arms.now (c.loop-left.left - 1)
    c.loop-left.left
    c.index-arms-left.result (omega arith) (omega arith) c.index-arms-left.is in
    let body : stmts_length (lengths_in c.args.library.now c.args.scope) (slot_stmts_view c.deref.result.now)
    ≡ stmts_length (lengths_in c.args.library.now c.args.scope) (slot_stmts_view c.index-arms-left.result.body.items)
    =
    ap (λ (ys : List code_stmt.SlotStmt). stmts_length (lengths_in c.args.library.now c.args.scope) (slot_stmts_view
    ys)) c.deref.ensures.value
    ∙ ap (λ (y : code_case_arm.SlotCaseArm). stmts_length (lengths_in c.args.library.now c.args.scope)
    (slot_stmts_view y.body.items)) (sym c.index-arms-left.is) in
    too_long _ c.in_err-put-3.field-0.0 _ _ c.in_err-put-3.ensures.full
    (omega (
      arith,
      b,
      body,
      c.loop-left.invariant.long,
      c.in_ok-put.ensures.long,
      c.in_ok-put_statements.ensures.long,
      c.in_ok-put-2.ensures.long,
    )) (search rules)

pub statements::put_statements-returns-in_err-put_statement-clause-crowded :
    goal.statements::put_statements-returns-in_err-put_statement-clause-crowded
statements::put_statements-returns-in_err-put_statement-clause-crowded t c =
    not_linked _ c.in_err-put_statement.field-0.0 _ _ c.in_err-put_statement.ensures.crowded
    (λ h. stmt_fits (FitsIn c.args.library.now c.args.scope) (frame_of c.args.scope) c.args.statements.now
    (c.loop-left.left - 1) c.index-statements-left.result (omega arith)
    c.index-statements-left.is h) (search rules)
