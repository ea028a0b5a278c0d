-- The grammar of statements.
use Rattle.std.specs.Prelude.{◌≡◌, ℕ, List, [], ◌∷◌, Option, Some, None}
use Rattle.st_types.specs.declared.identifier.Identifier.{Identifier}
use Rattle.st_types.specs.declared.literal.EnumeratedValue.{EnumeratedValue}
use Rattle.st_types.specs.declared.literal.Number.{Number}
use Rattle.st_lex.specs.declared.mark.Mark.TheVariants as m
use Rattle.st_lex.specs.declared.keyword.Keyword.TheVariants as w
use Rattle.st_types.specs.declared.statement.Label.{Label}
use Rattle.st_types.specs.declared.statement.Label.TheVariants as label_forms
use Rattle.st_types.specs.Expressions.{Expr, Variable}
use Rattle.st_types.specs.Statements.{Argument, Stmt, Arm, CaseArm, stmts_of, arms_of, case_arms_of}
use Rattle.st_types.specs.Statements as s
use Rattle.st_parse.specs.Tokens.{Tokens, mark, keyword, name, value, Is, Passes, IsNumber}
use Rattle.st_parse.specs.Expressions.{IsExpr, IsVariable}

pub data IsArgument : Tokens → Argument → Tokens → Type 0 where
  given : {ts us vs ws : Tokens} {a : Argument} (x : Identifier) (v : Expr) → Is name ts x us
      → Passes (mark m.Assign) us vs → IsExpr 1 vs v ws → a ≡ s.given x v → IsArgument ts a ws
  copied : {ts us vs ws : Tokens} {a : Argument} (x : Identifier) (v : Variable) → Is name ts x us
      → Passes (mark m.Arrow) us vs → IsVariable vs v ws → a ≡ s.copied x v → IsArgument ts a ws

pub data IsMoreArguments : Tokens → List Argument → Tokens → Type 0 where
  no_more_arguments : {ts : Tokens} → IsMoreArguments ts [] ts
  next_argument : {ts us vs ws : Tokens} {x : Argument} {xs : List Argument} → Passes (mark m.Comma) ts us
      → IsArgument us x vs → IsMoreArguments vs xs ws → IsMoreArguments ts (x ∷ xs) ws

pub data IsArguments : Tokens → List Argument → Tokens → Type 0 where
  no_argument : {ts : Tokens} → IsArguments ts [] ts
  argument : {ts us vs : Tokens} {x : Argument} {xs : List Argument} → IsArgument ts x us → IsMoreArguments us xs vs
      → IsArguments ts (x ∷ xs) vs

pub data IsLabel : Tokens → Label → Tokens → Type 0 where
  single : {ts us : Tokens} {l : Label} (n : Number) → IsNumber ts n us → l ≡ label_forms.Single n → IsLabel ts l us
  range : {ts us vs ws : Tokens} {l : Label} (least greatest : Number) → IsNumber ts least us
      → Passes (mark m.Range) us vs → IsNumber vs greatest ws → l ≡ label_forms.Range least greatest → IsLabel ts l ws
  named : {ts us : Tokens} {l : Label} (v : EnumeratedValue) → Is value ts v us → l ≡ label_forms.Enumerated v
      → IsLabel ts l us

pub data IsMoreLabels : Tokens → List Label → Tokens → Type 0 where
  no_more_labels : {ts : Tokens} → IsMoreLabels ts [] ts
  next_label : {ts us vs ws : Tokens} {x : Label} {xs : List Label} → Passes (mark m.Comma) ts us → IsLabel us x vs
      → IsMoreLabels vs xs ws → IsMoreLabels ts (x ∷ xs) ws

pub data IsLabels : Tokens → List Label → Tokens → Type 0 where
  labels : {ts us vs : Tokens} {x : Label} {xs : List Label} → IsLabel ts x us → IsMoreLabels us xs vs
      → IsLabels ts (x ∷ xs) vs

-- the expression after BY, or nothing
pub data IsStep : Tokens → Option Expr → Tokens → Type 0 where
  no_step : {ts : Tokens} → IsStep ts None ts
  step : {ts us vs : Tokens} {o : Option Expr} (x : Expr) → Passes (keyword w.By) ts us → IsExpr 1 us x vs → o ≡ Some x
      → IsStep ts o vs

-- IsStmt ts x us: the tokens ts are those of the statement x, without its semicolon, and then us.
mutual
  pub data IsStmt : Tokens → Stmt → Tokens → Type 0 where
    empty : {ts : Tokens} {x : Stmt} → x ≡ s.empty → IsStmt ts x ts
    assign : {ts us vs ws : Tokens} {x : Stmt} (v : Variable) (value : Expr) → IsVariable ts v us
        → Passes (mark m.Assign) us vs → IsExpr 1 vs value ws → x ≡ s.assign v value → IsStmt ts x ws
    invoke : {ts us vs ws zs : Tokens} {x : Stmt} (f : Identifier) (xs : List Argument) → Is name ts f us
        → Passes (mark m.Open) us vs → IsArguments vs xs ws → Passes (mark m.Close) ws zs
        → x ≡ s.invoke f xs → IsStmt ts x zs
    choose : {ts us vs ws zs qs : Tokens} {x : Stmt} (arm : Arm) (arms : List Arm) (other : List Stmt)
        → Passes (keyword w.If) ts us → IsArm us arm vs → IsMoreArms vs arms ws → IsElse ws other zs
        → Passes (keyword w.EndIf) zs qs → x ≡ s.IF (arms_of (arm ∷ arms)) (stmts_of other) → IsStmt ts x qs
    select : {ts us vs ws zs qs rs : Tokens} {x : Stmt} (selector : Expr) (arms : List CaseArm) (other : List Stmt)
        → Passes (keyword w.Case) ts us → IsExpr 1 us selector vs → Passes (keyword w.Of) vs ws
        → IsCaseArms ws arms zs → IsElse zs other qs → Passes (keyword w.EndCase) qs rs
        → x ≡ s.CASE selector (case_arms_of arms) (stmts_of other) → IsStmt ts x rs
    count : {ts us vs ws zs qs rs ns os ps ms : Tokens} {x : Stmt} (control : Identifier) (start limit : Expr)
        (by : Option Expr) (body : List Stmt) → Passes (keyword w.For) ts us → Is name us control vs
        → Passes (mark m.Assign) vs ws → IsExpr 1 ws start zs → Passes (keyword w.To) zs qs → IsExpr 1 qs limit rs
        → IsStep rs by ns → Passes (keyword w.Do) ns os → IsStmts os body ps
        → Passes (keyword w.EndFor) ps ms → x ≡ s.FOR control start limit by (stmts_of body) → IsStmt ts x ms
    repeat_while : {ts us vs ws zs qs : Tokens} {x : Stmt} (condition : Expr) (body : List Stmt)
        → Passes (keyword w.While) ts us → IsExpr 1 us condition vs → Passes (keyword w.Do) vs ws → IsStmts ws body zs
        → Passes (keyword w.EndWhile) zs qs → x ≡ s.WHILE condition (stmts_of body) → IsStmt ts x qs
    repeat_until : {ts us vs ws zs qs : Tokens} {x : Stmt} (body : List Stmt) (condition : Expr)
        → Passes (keyword w.Repeat) ts us → IsStmts us body vs → Passes (keyword w.Until) vs ws
        → IsExpr 1 ws condition zs
        → Passes (keyword w.EndRepeat) zs qs → x ≡ s.REPEAT (stmts_of body) condition → IsStmt ts x qs
    exit : {ts us : Tokens} {x : Stmt} (at : ℕ) → Is (keyword w.Exit) ts at us → x ≡ s.EXIT at → IsStmt ts x us
    leave : {ts us : Tokens} {x : Stmt} → Passes (keyword w.Return) ts us → x ≡ s.RETURN → IsStmt ts x us

  -- statements, each with its semicolon
  pub data IsStmts : Tokens → List Stmt → Tokens → Type 0 where
    no_stmt : {ts : Tokens} → IsStmts ts [] ts
    stmt : {ts us vs ws : Tokens} {x : Stmt} {xs : List Stmt} → IsStmt ts x us → Passes (mark m.Semicolon) us vs
        → IsStmts vs xs ws → IsStmts ts (x ∷ xs) ws

  pub data IsElse : Tokens → List Stmt → Tokens → Type 0 where
    no_else : {ts : Tokens} → IsElse ts [] ts
    otherwise : {ts us vs : Tokens} {xs : List Stmt} → Passes (keyword w.Else) ts us → IsStmts us xs vs
        → IsElse ts xs vs

  pub data IsArm : Tokens → Arm → Tokens → Type 0 where
    arm : {ts us vs ws : Tokens} {a : Arm} (condition : Expr) (body : List Stmt) → IsExpr 1 ts condition us
        → Passes (keyword w.Then) us vs → IsStmts vs body ws → a ≡ (condition, stmts_of body) → IsArm ts a ws

  pub data IsMoreArms : Tokens → List Arm → Tokens → Type 0 where
    no_more_arms : {ts : Tokens} → IsMoreArms ts [] ts
    elsif : {ts us vs ws : Tokens} {x : Arm} {xs : List Arm} → Passes (keyword w.Elsif) ts us → IsArm us x vs
        → IsMoreArms vs xs ws → IsMoreArms ts (x ∷ xs) ws

  pub data IsCaseArm : Tokens → CaseArm → Tokens → Type 0 where
    case_arm : {ts us vs ws : Tokens} {a : CaseArm} (ls : List Label) (body : List Stmt) → IsLabels ts ls us
        → Passes (mark m.Colon) us vs → IsStmts vs body ws → a ≡ (ls, stmts_of body) → IsCaseArm ts a ws

  pub data IsCaseArms : Tokens → List CaseArm → Tokens → Type 0 where
    no_case_arm : {ts : Tokens} → IsCaseArms ts [] ts
    next_case_arm : {ts us vs : Tokens} {x : CaseArm} {xs : List CaseArm} → IsCaseArm ts x us → IsCaseArms us xs vs
        → IsCaseArms ts (x ∷ xs) vs
