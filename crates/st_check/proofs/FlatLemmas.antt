-- Lists of the parts of statements, part by part.
use Rattle.std.proofs.Common.{◌≡◌, ap, ◌∙◌, map}
use Rattle.std.specs.Prelude.{Vec}
use Rattle.std.specs.declared.alloc.Global.{Global}
use Rattle.st_types.specs.declared.expression.Expr as code_expr
use Rattle.st_types.specs.declared.statement.Stmt as code_stmt
use Rattle.st_types.specs.declared.statement.Arm as code_arm
use Rattle.st_types.specs.declared.statement.CaseArm as code_case_arm
use Rattle.st_types.specs.ExpressionViews.{expr_view}
use Rattle.st_types.specs.StatementViews.{stmt_view, stmts_view, arm_view, case_arm_view}
use Rattle.st_types.specs.Statements.{Stmt, IF, CASE, arms_of, case_arms_of}
use Rattle.st_types.proofs.Bridge.{choose_view, select_view}

-- an IF and a CASE as their mirrors have them
pub chosen : {X : Type 0} (f : Stmt → X) (x : code_stmt.Stmt) (arms : Vec code_arm.Arm Global)
    (otherwise : Vec code_stmt.Stmt Global) → x ≡ code_stmt.If arms otherwise
    → f (stmt_view x) ≡ f (IF (arms_of (map arm_view arms.items)) (stmts_view otherwise.items))
chosen f x arms otherwise is = ap (λ y. f (stmt_view y)) is ∙ ap f (choose_view arms otherwise)

pub selected : {X : Type 0} (f : Stmt → X) (x : code_stmt.Stmt) (selector : code_expr.Expr)
    (arms : Vec code_case_arm.CaseArm Global) (otherwise : Vec code_stmt.Stmt Global)
    → x ≡ code_stmt.Case selector arms otherwise → f (stmt_view x)
    ≡ f (CASE (expr_view selector) (case_arms_of (map case_arm_view arms.items)) (stmts_view otherwise.items))
selected f x selector arms otherwise is =
    ap (λ y. f (stmt_view y)) is ∙ ap f (select_view selector arms otherwise)
