-- The mirrors of the code's statements.
use Rattle.std.specs.Prelude.{List, map, option_map}
use Rattle.st_types.specs.declared.statement.Argument as code_argument
use Rattle.st_types.specs.declared.statement.Argument.TheVariants.{Input, Output}
use Rattle.st_types.specs.declared.statement.Stmt as code_stmt
use Rattle.st_types.specs.declared.statement.Arm as code_arm
use Rattle.st_types.specs.declared.statement.CaseArm as code_case_arm
use Rattle.st_types.specs.declared.statement.Stmt.TheOpen.{Stmt-F, Arm-F, CaseArm-F}
use Rattle.st_types.specs.ExpressionViews.{expr_view, variable_view}
use Rattle.st_types.specs.Statements.{Argument, given, copied, Stmt, empty, assign, invoke, IF, CASE, FOR, WHILE}
use Rattle.st_types.specs.Statements.{REPEAT, EXIT, RETURN, Stmts, Arm, CaseArm, stmts_of, arms_of, case_arms_of}

abbrev pub argument_view : code_argument.Argument → Argument
argument_view (Input x e) = given x (expr_view e)
argument_view (Output x v) = copied x (variable_view v)

-- one level, with each part already seen as its mirror
abbrev pub stmt_step : Stmt-F Stmt Arm CaseArm → Stmt
stmt_step Stmt-F.Empty = empty
stmt_step (Stmt-F.Assign v e) = assign (variable_view v) (expr_view e)
stmt_step (Stmt-F.Invoke x arguments) = invoke x (map argument_view arguments.items)
stmt_step (Stmt-F.If arms xs) = IF (arms_of arms.items) (stmts_of xs.items)
stmt_step (Stmt-F.Case e arms xs) = CASE (expr_view e) (case_arms_of arms.items) (stmts_of xs.items)
stmt_step (Stmt-F.For x start limit step xs) =
    FOR x (expr_view start) (expr_view limit) (option_map expr_view step) (stmts_of xs.items)
stmt_step (Stmt-F.While e xs) = WHILE (expr_view e) (stmts_of xs.items)
stmt_step (Stmt-F.Repeat xs e) = REPEAT (stmts_of xs.items) (expr_view e)
stmt_step (Stmt-F.Exit at) = EXIT at
stmt_step Stmt-F.Return = RETURN

abbrev pub arm_step : Arm-F Stmt Arm CaseArm → Arm
arm_step a = (expr_view a.condition, stmts_of a.body.items)

abbrev pub case_arm_step : CaseArm-F Stmt Arm CaseArm → CaseArm
case_arm_step a = (a.labels.items, stmts_of a.body.items)

abbrev pub stmt_view : code_stmt.Stmt → Stmt
stmt_view = code_stmt.fold-Stmt Stmt Arm CaseArm stmt_step arm_step case_arm_step

abbrev pub stmts_view : List code_stmt.Stmt → Stmts
stmts_view xs = stmts_of (map stmt_view xs)

-- arms by their fields
abbrev pub arm_view : code_arm.Arm → Arm
arm_view a = (expr_view a.condition, stmts_view a.body.items)

abbrev pub case_arm_view : code_case_arm.CaseArm → CaseArm
case_arm_view a = (a.labels.items, stmts_view a.body.items)
