-- The views of IF and CASE by their parts.
use Rattle.std.proofs.Common.{◌≡◌, List, [], ◌∷◌, map, refl, rules, ap, ◌∙◌}
use Rattle.std.specs.Prelude.{Vec}
use Rattle.std.specs.declared.alloc.Global.{Global}
use Rattle.slot_trees.specs.declared.expression.SlotExpr as code_expr
use Rattle.slot_trees.specs.declared.statement.SlotStmt as code_stmt
use Rattle.slot_trees.specs.declared.statement.SlotArm as code_arm
use Rattle.slot_trees.specs.declared.statement.SlotCaseArm as code_case_arm
use Rattle.slot_trees.specs.SlotTrees.{SlotStmt, IF, CASE}
use Rattle.slot_trees.specs.Chains.{Arm, CaseArm, arms_of, case_arms_of}
use Rattle.slot_trees.specs.ExpressionViews.{slot_expr_view}
use Rattle.slot_trees.specs.StatementViews.{slot_stmt_view, slot_stmts_view, stmt_step, arm_step, case_arm_step}
use Rattle.slot_trees.specs.StatementViews.{slot_arm_view, slot_case_arm_view}

arm_view_is : (a : code_arm.SlotArm)
    → code_arm.fold-SlotArm SlotStmt Arm CaseArm stmt_step arm_step case_arm_step a ≡ slot_arm_view a
arm_view_is a = search code_arm.the_lemmas

arm_views_are : (arms : List code_arm.SlotArm)
    → map (code_arm.fold-SlotArm SlotStmt Arm CaseArm stmt_step arm_step case_arm_step) arms ≡ map slot_arm_view arms
arm_views_are [] = refl
arm_views_are (a ∷ arms) = rw (arm_view_is a, arm_views_are arms) refl

case_arm_view_is : (a : code_case_arm.SlotCaseArm)
    → code_case_arm.fold-SlotCaseArm SlotStmt Arm CaseArm stmt_step arm_step case_arm_step a ≡ slot_case_arm_view a
case_arm_view_is a = search code_case_arm.the_lemmas

case_arm_views_are : (arms : List code_case_arm.SlotCaseArm)
    → map (code_case_arm.fold-SlotCaseArm SlotStmt Arm CaseArm stmt_step arm_step case_arm_step) arms
    ≡ map slot_case_arm_view arms
case_arm_views_are [] = refl
case_arm_views_are (a ∷ arms) = rw (case_arm_view_is a, case_arm_views_are arms) refl

pub choose_view : (arms : Vec code_arm.SlotArm Global) (otherwise : Vec code_stmt.SlotStmt Global)
    → slot_stmt_view (code_stmt.If arms otherwise)
    ≡ IF (arms_of (map slot_arm_view arms.items)) (slot_stmts_view otherwise.items)
choose_view arms otherwise =
    let e : slot_stmt_view (code_stmt.If arms otherwise)
    ≡ IF (arms_of (map (code_arm.fold-SlotArm SlotStmt Arm CaseArm stmt_step arm_step case_arm_step) arms.items))
    (slot_stmts_view otherwise.items) = search (rules, code_stmt.the_lemmas) in
    e ∙ ap (λ a. IF (arms_of a) (slot_stmts_view otherwise.items)) (arm_views_are arms.items)

pub select_view : (selector : code_expr.SlotExpr) (arms : Vec code_case_arm.SlotCaseArm Global)
    (otherwise : Vec code_stmt.SlotStmt Global) → slot_stmt_view (code_stmt.Case selector arms otherwise)
    ≡ CASE (slot_expr_view selector) (case_arms_of (map slot_case_arm_view arms.items))
    (slot_stmts_view otherwise.items)
select_view selector arms otherwise =
    let e : slot_stmt_view (code_stmt.Case selector arms otherwise) ≡ CASE (slot_expr_view selector) (case_arms_of
    (map (code_case_arm.fold-SlotCaseArm SlotStmt Arm CaseArm stmt_step arm_step case_arm_step) arms.items))
    (slot_stmts_view otherwise.items) = search (rules, code_stmt.the_lemmas) in
    e ∙ ap (λ a. CASE (slot_expr_view selector) (case_arms_of a) (slot_stmts_view otherwise.items))
    (case_arm_views_are arms.items)
