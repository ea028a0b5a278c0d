-- The chains of slot trees, from lists of their parts.
use Rattle.std.specs.Prelude.{ℕ, ℤ, List, [], ◌∷◌}
use Rattle.st_types.specs.declared.statement.Label.{Label}
use Rattle.slot_trees.specs.SlotTrees.{SlotExpr, SlotExprs, no_exprs, expr_then, Subscripts, no_subscripts}
use Rattle.slot_trees.specs.SlotTrees.{subscript_then, SlotStmt, SlotStmts, no_stmts, stmt_then, SlotArms, no_arms}
use Rattle.slot_trees.specs.SlotTrees.{arm_then, SlotCaseArms, no_case_arms, case_arm_then}

-- both operands of an operator
pub record Operands : Type 0 where
  pub left : SlotExpr
  pub right : SlotExpr

-- a subscript with its array
pub record Subscript : Type 0 where
  pub index : SlotExpr
  pub lower : ℤ
  pub count : ℕ
  pub stride : ℕ

-- a condition with the statements that it guards
abbrev pub Arm : Type 0
Arm = SlotExpr × SlotStmts

-- labels with their statements
abbrev pub CaseArm : Type 0
CaseArm = List Label × SlotStmts

-- expressions in their order
abbrev pub exprs_of : List SlotExpr → SlotExprs
exprs_of [] = no_exprs
exprs_of (e ∷ es) = expr_then e (exprs_of es)

abbrev pub subscripts_of : List Subscript → Subscripts
subscripts_of [] = no_subscripts
subscripts_of (s ∷ ss) = subscript_then s.index s.lower s.count s.stride (subscripts_of ss)

abbrev pub stmts_of : List SlotStmt → SlotStmts
stmts_of [] = no_stmts
stmts_of (x ∷ xs) = stmt_then x (stmts_of xs)

abbrev pub arms_of : List Arm → SlotArms
arms_of [] = no_arms
arms_of (a ∷ arms) = arm_then a.0 a.1 (arms_of arms)

abbrev pub case_arms_of : List CaseArm → SlotCaseArms
case_arms_of [] = no_case_arms
case_arms_of (a ∷ arms) = case_arm_then a.0 a.1 (case_arms_of arms)
