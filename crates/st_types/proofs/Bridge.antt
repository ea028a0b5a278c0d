-- The views of IF, CASE and a structure's initial value, by their parts.
use Rattle.std.proofs.Common.{◌≡◌, ℕ, List, [], ◌∷◌, map, refl, rules, ap, ◌∙◌}
use Rattle.std.specs.Prelude.{Vec}
use Rattle.std.specs.declared.alloc.Global.{Global}
use Rattle.st_types.specs.declared.expression.Expr as code_expr
use Rattle.st_types.specs.declared.statement.Stmt as code_stmt
use Rattle.st_types.specs.declared.statement.Arm as code_arm
use Rattle.st_types.specs.declared.statement.CaseArm as code_case_arm
use Rattle.st_types.specs.ExpressionViews.{expr_view}
use Rattle.st_types.specs.Statements.{Stmt, Arm, CaseArm, IF, CASE, arms_of, case_arms_of}
use Rattle.st_types.specs.declared.initial.Initial as code_initial
use Rattle.st_types.specs.declared.initial.InitialMember as code_member
use Rattle.st_types.specs.Initials.{Initial, Element, Member, structure, members_of}
use Rattle.st_types.specs.InitialViews.{initial_view, initial_step, element_step, member_step, member_view}
use Rattle.st_types.specs.StatementViews.{stmt_view, stmts_view, stmt_step, arm_step, case_arm_step, arm_view}
use Rattle.st_types.specs.StatementViews.{case_arm_view}

arm_view_is : (a : code_arm.Arm) → code_arm.fold-Arm Stmt Arm CaseArm stmt_step arm_step case_arm_step a ≡ arm_view a
arm_view_is a = search code_arm.the_lemmas

arm_views_are : (arms : List code_arm.Arm)
    → map (code_arm.fold-Arm Stmt Arm CaseArm stmt_step arm_step case_arm_step) arms ≡ map arm_view arms
arm_views_are [] = refl
arm_views_are (a ∷ arms) = rw (arm_view_is a, arm_views_are arms) refl

case_arm_view_is : (a : code_case_arm.CaseArm)
    → code_case_arm.fold-CaseArm Stmt Arm CaseArm stmt_step arm_step case_arm_step a ≡ case_arm_view a
case_arm_view_is a = search code_case_arm.the_lemmas

case_arm_views_are : (arms : List code_case_arm.CaseArm)
    → map (code_case_arm.fold-CaseArm Stmt Arm CaseArm stmt_step arm_step case_arm_step) arms ≡ map case_arm_view arms
case_arm_views_are [] = refl
case_arm_views_are (a ∷ arms) = rw (case_arm_view_is a, case_arm_views_are arms) refl

pub choose_view : (arms : Vec code_arm.Arm Global) (otherwise : Vec code_stmt.Stmt Global)
    → stmt_view (code_stmt.If arms otherwise) ≡ IF (arms_of (map arm_view arms.items)) (stmts_view otherwise.items)
choose_view arms otherwise =
    let e : stmt_view (code_stmt.If arms otherwise)
    ≡ IF (arms_of (map (code_arm.fold-Arm Stmt Arm CaseArm stmt_step arm_step case_arm_step) arms.items))
    (stmts_view otherwise.items) = search (rules, code_stmt.the_lemmas) in
    e ∙ ap (λ a. IF (arms_of a) (stmts_view otherwise.items)) (arm_views_are arms.items)

pub select_view : (selector : code_expr.Expr) (arms : Vec code_case_arm.CaseArm Global)
    (otherwise : Vec code_stmt.Stmt Global) → stmt_view (code_stmt.Case selector arms otherwise)
    ≡ CASE (expr_view selector) (case_arms_of (map case_arm_view arms.items)) (stmts_view otherwise.items)
select_view selector arms otherwise =
    let e : stmt_view (code_stmt.Case selector arms otherwise) ≡ CASE (expr_view selector)
    (case_arms_of (map (code_case_arm.fold-CaseArm Stmt Arm CaseArm stmt_step arm_step case_arm_step) arms.items))
    (stmts_view otherwise.items) = search (rules, code_stmt.the_lemmas) in
    e ∙ ap (λ a. CASE (expr_view selector) (case_arms_of a) (stmts_view otherwise.items))
    (case_arm_views_are arms.items)

member_view_is : (m : code_member.InitialMember)
    → code_member.fold-InitialMember Initial Element Member initial_step element_step member_step m ≡ member_view m
member_view_is m = search code_member.the_lemmas

member_views_are : (ms : List code_member.InitialMember)
    → map (code_member.fold-InitialMember Initial Element Member initial_step element_step member_step) ms
    ≡ map member_view ms
member_views_are [] = refl
member_views_are (m ∷ ms) = rw (member_view_is m, member_views_are ms) refl

pub structure_view : (at : ℕ) (members : Vec code_member.InitialMember Global)
    → initial_view (code_initial.Structure at members) ≡ structure at (members_of (map member_view members.items))
structure_view at members =
    let e : initial_view (code_initial.Structure at members) ≡ structure at (members_of (map
    (code_member.fold-InitialMember Initial Element Member initial_step element_step member_step) members.items)) =
    search (rules, code_initial.the_lemmas) in
    e ∙ ap (λ m. structure at (members_of m)) (member_views_are members.items)
