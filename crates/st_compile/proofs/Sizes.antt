-- The sizes of trees, by which calls decrease.
use Rattle.std.proofs.Common.{ℕ, suc, ◌+◌, ◌*◌, List, [], ◌∷◌, Option, Some, None}
use Rattle.slot_trees.specs.SlotTrees.{SlotExpr, constant, load, compute, call, unary, binary, SlotExprs}
use Rattle.slot_trees.specs.SlotTrees.{no_exprs, expr_then, Place, place, Subscripts, no_subscripts, subscript_then}
use Rattle.slot_trees.specs.SlotTrees.{SlotArgument, given, copied, SlotStmt}
use Rattle.slot_trees.specs.SlotTrees.{empty, assign, invoke, IF, CASE, FOR, WHILE, REPEAT, EXIT, RETURN, SlotStmts}
use Rattle.slot_trees.specs.SlotTrees.{no_stmts, stmt_then, SlotArms, no_arms, arm_then, SlotCaseArms}
use Rattle.slot_trees.specs.SlotTrees.{no_case_arms, case_arm_then, SlotFunction, SlotLibrary}

abbrev mutual
  pub expr_size : SlotExpr → ℕ
  expr_size (constant l) = 1
  expr_size (load p) = suc (place_size p)
  expr_size (compute f es) = suc (exprs_size es)
  expr_size (call f es) = suc (exprs_size es)
  expr_size (unary op e) = suc (expr_size e)
  expr_size (binary op l r) = suc (expr_size l + expr_size r)

  pub exprs_size : SlotExprs → ℕ
  exprs_size no_exprs = 1
  exprs_size (expr_then e es) = suc (expr_size e + exprs_size es)

  pub place_size : Place → ℕ
  place_size (place a ss) = suc (subscripts_size ss)

  pub subscripts_size : Subscripts → ℕ
  subscripts_size no_subscripts = 1
  subscripts_size (subscript_then e lower count stride ss) = suc (expr_size e + subscripts_size ss)

abbrev pub step_size : Option SlotExpr → ℕ
step_size None = 1
step_size (Some e) = suc (expr_size e)

abbrev pub argument_size : SlotArgument → ℕ
argument_size (given o e) = expr_size e
argument_size (copied o p) = place_size p

abbrev pub arguments_size : List SlotArgument → ℕ
arguments_size [] = 1
arguments_size (x ∷ xs) = suc (argument_size x + arguments_size xs)

abbrev mutual
  pub stmt_size : SlotStmt → ℕ
  stmt_size empty = 1
  stmt_size (assign p e) = suc (place_size p + expr_size e)
  stmt_size (invoke a code arguments) = suc (suc (arguments_size arguments))
  stmt_size (IF arms otherwise) = suc (suc (arms_size arms + stmts_size otherwise))
  stmt_size (CASE e arms otherwise) = suc (suc (expr_size e + case_size arms + stmts_size otherwise))
  stmt_size (FOR a start limit step body) =
      suc (suc (suc (expr_size start + expr_size limit + step_size step + stmts_size body)))
  stmt_size (WHILE e body) = suc (suc (expr_size e + stmts_size body))
  stmt_size (REPEAT body e) = suc (suc (expr_size e + stmts_size body))
  stmt_size EXIT = 1
  stmt_size RETURN = 1

  pub stmts_size : SlotStmts → ℕ
  stmts_size no_stmts = 1
  stmts_size (stmt_then x xs) = suc (stmt_size x + stmts_size xs)

  pub arms_size : SlotArms → ℕ
  arms_size no_arms = 1
  arms_size (arm_then e body arms) = suc (expr_size e + stmts_size body + arms_size arms)

  pub case_size : SlotCaseArms → ℕ
  case_size no_case_arms = 1
  case_size (case_arm_then labels body arms) = suc (stmts_size body + case_size arms)

abbrev pub functions_size : List SlotFunction → ℕ
functions_size [] = 0
functions_size (f ∷ fs) = stmts_size f.body + functions_size fs

abbrev pub blocks_size : List SlotStmts → ℕ
blocks_size [] = 0
blocks_size (body ∷ bodies) = stmts_size body + blocks_size bodies

-- more than the size of any body
unfoldable pub body_bound : SlotLibrary → ℕ
body_bound library = suc (functions_size library.functions + blocks_size library.blocks)

-- the weight of all calls at most this deep
unfoldable pub weight : SlotLibrary → ℕ → ℕ
weight library depth = depth * body_bound library
