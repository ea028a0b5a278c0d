-- When a program fits a memory: its literals are values, its places lie among the values of their units, its units are
-- known, there is room for the values of functions, and calls are not too deep.
use Rattle.std.specs.Prelude.{◌≡◌, ℕ, zero, suc, ◌+◌, ◌-◌, ◌*◌, ◌<◌, ◌≤◌, List, [], ◌∷◌, length, Option, Some, None}
use Rattle.std.specs.Prelude.{slice_get, Result, Ok, Err}
use Rattle.st_types.specs.Values.{Datum}
use Rattle.st_meaning.specs.Failures.{Failure}
use Rattle.st_meaning.specs.Operators.{value_of_literal}
use Rattle.st_meaning.specs.StandardBlocks.{members_of}
use Rattle.slot_trees.specs.SlotTrees.{SlotExpr, constant, load, compute, call, unary, binary, SlotExprs}
use Rattle.slot_trees.specs.SlotTrees.{no_exprs, expr_then, Place, place, Subscripts, no_subscripts, subscript_then}
use Rattle.slot_trees.specs.SlotTrees.{BlockCode, own_block, standard_block, SlotArgument, given, copied, SlotStmt}
use Rattle.slot_trees.specs.SlotTrees.{empty, assign, invoke, IF, CASE, FOR, WHILE, REPEAT, EXIT, RETURN, SlotStmts}
use Rattle.slot_trees.specs.SlotTrees.{no_stmts}
use Rattle.slot_trees.specs.SlotTrees.{stmt_then, SlotArms, no_arms, arm_then, SlotCaseArms, no_case_arms}
use Rattle.slot_trees.specs.SlotTrees.{case_arm_then, SlotFunction, SlotLibrary}
use Rattle.slot_trees.specs.SlotEvaluation.{slot_at}
use Rattle.machine_code.specs.Codes.{count_of}
use Rattle.machine_code.specs.UnitFrames.{UnitFrame, end_of, instance_frame, call_frame}

-- a call: of a function by its number, with its values from a slot on and a number of arguments, or of a block
pub data UnitCall : Type 0 where
  of_function : ℕ → ℕ → ℕ → UnitCall
  of_block : BlockCode → UnitFrame → UnitCall

abbrev pub IsValue : Result Datum Failure → Type 0
IsValue (Ok v) = Unit {0}
IsValue (Err e) = ⊥

-- how far subscripts may lead at most
abbrev pub reach : Subscripts → ℕ
reach no_subscripts = 0
reach (subscript_then e lower count stride ss) = (count - 1) * stride + reach ss

abbrev pub AllBelow : ℕ → List ℕ → Type 0
AllBelow n [] = Unit {0}
AllBelow n (k ∷ ks) = (k < n) × AllBelow n ks

module _ (CallFits : UnitCall → Type 0) (site : UnitFrame) where
  abbrev mutual
    pub ExprFits : SlotExpr → Type 0
    ExprFits (constant l) = IsValue (value_of_literal l)
    ExprFits (load p) = PlaceFits p
    ExprFits (compute f es) = ExprsFit es
    ExprFits (call f es) = ExprsFit es × CallFits (of_function f (end_of site) (count_of es))
    ExprFits (unary op e) = ExprFits e
    ExprFits (binary op l r) = ExprFits l × ExprFits r

    pub ExprsFit : SlotExprs → Type 0
    ExprsFit no_exprs = Unit {0}
    ExprsFit (expr_then e es) = ExprFits e × ExprsFit es

    pub PlaceFits : Place → Type 0
    PlaceFits (place a ss) = (slot_at site.base a + reach ss < site.size) × SubscriptsFit ss

    pub SubscriptsFit : Subscripts → Type 0
    SubscriptsFit no_subscripts = Unit {0}
    SubscriptsFit (subscript_then e lower count stride ss) = ExprFits e × SubscriptsFit ss

  abbrev pub StepFits : Option SlotExpr → Type 0
  StepFits None = Unit {0}
  StepFits (Some e) = ExprFits e

  -- the arguments of a call of an instance from a slot on
  abbrev pub ArgumentsFit : ℕ → List SlotArgument → Type 0
  ArgumentsFit at [] = Unit {0}
  ArgumentsFit at (given o e ∷ rest) = (at + o < site.size) × ExprFits e × ArgumentsFit at rest
  ArgumentsFit at (copied o p ∷ rest) = (at + o < site.size) × PlaceFits p × ArgumentsFit at rest

  abbrev mutual
    pub StmtFits : SlotStmt → Type 0
    StmtFits empty = Unit {0}
    StmtFits (assign p e) = PlaceFits p × ExprFits e
    StmtFits (invoke a code arguments) =
        CallFits (of_block code (instance_frame site (slot_at site.base a))) × ArgumentsFit (slot_at site.base a) arguments
    StmtFits (IF arms otherwise) = ArmsFit arms × StmtsFit otherwise
    StmtFits (CASE e arms otherwise) = ExprFits e × CaseArmsFit arms × StmtsFit otherwise
    StmtFits (FOR a start limit step body) =
        (slot_at site.base a < site.size) × ExprFits start × ExprFits limit × StepFits step × StmtsFit body
    StmtFits (WHILE e body) = ExprFits e × StmtsFit body
    StmtFits (REPEAT body e) = StmtsFit body × ExprFits e
    StmtFits EXIT = Unit {0}
    StmtFits RETURN = Unit {0}

    pub StmtsFit : SlotStmts → Type 0
    StmtsFit no_stmts = Unit {0}
    StmtsFit (stmt_then x xs) = StmtFits x × StmtsFit xs

    pub ArmsFit : SlotArms → Type 0
    ArmsFit no_arms = Unit {0}
    ArmsFit (arm_then e body arms) = ExprFits e × StmtsFit body × ArmsFit arms

    pub CaseArmsFit : SlotCaseArms → Type 0
    CaseArmsFit no_case_arms = Unit {0}
    CaseArmsFit (case_arm_then labels body arms) = StmtsFit body × CaseArmsFit arms

-- a function with its values from a slot of a memory on, and a number of arguments
pub record FunctionFits (CallFits : UnitCall → Type 0) (memory : ℕ) (f : SlotFunction) (start count : ℕ) : Type 0 where
  pub arguments : count ≡ length f.inputs
  pub room : start + length f.fresh ≤ memory
  pub inputs : AllBelow (length f.fresh) f.inputs
  pub result : f.result < length f.fresh
  pub body : StmtsFit CallFits (call_frame start (length f.fresh)) f.body

abbrev pub IfFunctionFits : (UnitCall → Type 0) → ℕ → Option SlotFunction → ℕ → ℕ → Type 0
IfFunctionFits CallFits memory (Some f) start count = FunctionFits CallFits memory f start count
IfFunctionFits CallFits memory None start count = ⊥

abbrev pub IfBodyFits : (UnitCall → Type 0) → Option SlotStmts → UnitFrame → Type 0
IfBodyFits CallFits (Some body) site = StmtsFit CallFits site body
IfBodyFits CallFits None site = ⊥

abbrev pub InstanceFits : (UnitCall → Type 0) → SlotLibrary → BlockCode → UnitFrame → Type 0
InstanceFits CallFits library (standard_block b) site = site.base + length (members_of b) ≤ site.size
InstanceFits CallFits library (own_block i) site = IfBodyFits CallFits (slice_get library.blocks i) site

-- a call at most n deep
unfoldable pub CallFitsWithin : ℕ → SlotLibrary → ℕ → UnitCall → Type 0
CallFitsWithin memory library zero _ = ⊥
CallFitsWithin memory library (suc n) (of_function f start count) =
    IfFunctionFits (CallFitsWithin memory library n) memory (slice_get library.functions f) start count
CallFitsWithin memory library (suc n) (of_block code site) =
    InstanceFits (CallFitsWithin memory library n) library code site
