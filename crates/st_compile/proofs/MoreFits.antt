-- A tree that fits if some calls fit also fits if more of them do.
use Rattle.std.proofs.Common.{ℕ, List, [], ◌∷◌, Option, Some, None}
use Rattle.slot_trees.specs.SlotTrees.{SlotExpr, constant, load, compute, call, unary, binary, SlotExprs}
use Rattle.slot_trees.specs.SlotTrees.{no_exprs, expr_then, Place, place, Subscripts, no_subscripts, subscript_then}
use Rattle.slot_trees.specs.SlotTrees.{SlotArgument, given, copied, SlotStmt}
use Rattle.slot_trees.specs.SlotTrees.{empty, assign, invoke, IF, CASE, FOR, WHILE, REPEAT, EXIT, RETURN, SlotStmts}
use Rattle.slot_trees.specs.SlotTrees.{no_stmts, stmt_then, SlotArms, no_arms, arm_then, SlotCaseArms}
use Rattle.slot_trees.specs.SlotTrees.{no_case_arms, case_arm_then}
use Rattle.machine_code.specs.Fitting.{UnitCall, ExprFits, ExprsFit, PlaceFits, SubscriptsFit, StepFits, ArgumentsFit}
use Rattle.machine_code.specs.Fitting.{StmtFits, StmtsFit, ArmsFit, CaseArmsFit}
use Rattle.machine_code.specs.UnitFrames.{UnitFrame}

module _ (P Q : UnitCall → Type 0) (more : (u : UnitCall) → P u → Q u) (s : UnitFrame) where
  mutual
    pub expr_more : (e : SlotExpr) → ExprFits P s e → ExprFits Q s e
    expr_more (constant l) h = h
    expr_more (load p) h = place_more p h
    expr_more (compute f es) h = exprs_more es h
    expr_more (call f es) h = (exprs_more es h.0, more _ h.1)
    expr_more (unary op e) h = expr_more e h
    expr_more (binary op l r) h = (expr_more l h.0, expr_more r h.1)

    pub exprs_more : (es : SlotExprs) → ExprsFit P s es → ExprsFit Q s es
    exprs_more no_exprs h = tt
    exprs_more (expr_then e es) h = (expr_more e h.0, exprs_more es h.1)

    pub place_more : (p : Place) → PlaceFits P s p → PlaceFits Q s p
    place_more (place a ss) h = (h.0, subscripts_more ss h.1)

    pub subscripts_more : (ss : Subscripts) → SubscriptsFit P s ss → SubscriptsFit Q s ss
    subscripts_more no_subscripts h = tt
    subscripts_more (subscript_then e lower count stride ss) h = (expr_more e h.0, subscripts_more ss h.1)

  step_more : (o : Option SlotExpr) → StepFits P s o → StepFits Q s o
  step_more None h = tt
  step_more (Some e) h = expr_more e h

  arguments_more : (at : ℕ) (xs : List SlotArgument) → ArgumentsFit P s at xs → ArgumentsFit Q s at xs
  arguments_more at [] h = tt
  arguments_more at (given o e ∷ rest) h = (h.0, expr_more e h.1, arguments_more at rest h.2)
  arguments_more at (copied o p ∷ rest) h = (h.0, place_more p h.1, arguments_more at rest h.2)

  mutual
    pub stmt_more : (x : SlotStmt) → StmtFits P s x → StmtFits Q s x
    stmt_more empty h = tt
    stmt_more (assign p e) h = (place_more p h.0, expr_more e h.1)
    stmt_more (invoke a b xs) h = (more _ h.0, arguments_more _ xs h.1)
    stmt_more (IF arms otherwise) h = (arms_more arms h.0, stmts_more otherwise h.1)
    stmt_more (CASE e arms otherwise) h = (expr_more e h.0, case_more arms h.1, stmts_more otherwise h.2)
    stmt_more (FOR a start limit step body) h =
        (h.0, expr_more start h.1, expr_more limit h.2, step_more step h.3, stmts_more body h.4)
    stmt_more (WHILE e body) h = (expr_more e h.0, stmts_more body h.1)
    stmt_more (REPEAT body e) h = (stmts_more body h.0, expr_more e h.1)
    stmt_more EXIT h = tt
    stmt_more RETURN h = tt

    pub stmts_more : (xs : SlotStmts) → StmtsFit P s xs → StmtsFit Q s xs
    stmts_more no_stmts h = tt
    stmts_more (stmt_then x xs) h = (stmt_more x h.0, stmts_more xs h.1)

    pub arms_more : (arms : SlotArms) → ArmsFit P s arms → ArmsFit Q s arms
    arms_more no_arms h = tt
    arms_more (arm_then e body arms) h = (expr_more e h.0, stmts_more body h.1, arms_more arms h.2)

    pub case_more : (arms : SlotCaseArms) → CaseArmsFit P s arms → CaseArmsFit Q s arms
    case_more no_case_arms h = tt
    case_more (case_arm_then labels body arms) h = (stmts_more body h.0, case_more arms h.1)
