-- Statements, as the definitions see them.
use Rattle.std.specs.Prelude.{ℕ, List, [], ◌∷◌, Option}
use Rattle.st_types.specs.declared.identifier.Identifier.{Identifier}
use Rattle.st_types.specs.declared.statement.Label.{Label}
use Rattle.st_types.specs.Expressions.{Expr, Variable}

pub data Argument : Type 0 where
  -- an input with its value
  given : Identifier → Expr → Argument
  -- an output with the variable that it is copied to
  copied : Identifier → Variable → Argument

mutual
  pub data Stmt : Type 0 where
    empty : Stmt
    assign : Variable → Expr → Stmt
    invoke : Identifier → List Argument → Stmt
    IF : Arms → Stmts → Stmt
    CASE : Expr → CaseArms → Stmts → Stmt
    -- control variable, start, limit, step, body
    FOR : Identifier → Expr → Expr → Option Expr → Stmts → Stmt
    WHILE : Expr → Stmts → Stmt
    REPEAT : Stmts → Expr → Stmt
    EXIT : ℕ → Stmt
    RETURN : Stmt

  pub data Stmts : Type 0 where
    no_stmts : Stmts
    stmt_then : Stmt → Stmts → Stmts

  pub data Arms : Type 0 where
    no_arms : Arms
    arm_then : Expr → Stmts → Arms → Arms

  pub data CaseArms : Type 0 where
    no_case_arms : CaseArms
    case_arm_then : List Label → Stmts → CaseArms → CaseArms

-- a condition with the statements that it guards
abbrev pub Arm : Type 0
Arm = Expr × Stmts

-- labels with their statements
abbrev pub CaseArm : Type 0
CaseArm = List Label × Stmts

abbrev pub stmts_of : List Stmt → Stmts
stmts_of [] = no_stmts
stmts_of (x ∷ xs) = stmt_then x (stmts_of xs)

abbrev pub arms_of : List Arm → Arms
arms_of [] = no_arms
arms_of (a ∷ arms) = arm_then a.0 a.1 (arms_of arms)

abbrev pub case_arms_of : List CaseArm → CaseArms
case_arms_of [] = no_case_arms
case_arms_of (a ∷ arms) = case_arm_then a.0 a.1 (case_arms_of arms)
