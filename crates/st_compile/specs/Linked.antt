-- Trees of which code is made, if there is room for the values of functions and for instructions: literals are values;
-- labels, lower bounds and numbers of arguments of standard functions are numbers that instructions hold; places lie among
-- the values of their units; units are known; and calls are not too deep.
use Rattle.std.specs.Prelude.{ℕ, zero, suc, ◌+◌, ◌<◌, ◌≤◌, ℤ, List, [], ◌∷◌, length, Option, Some, None}
use Rattle.std.specs.Prelude.{slice_get}
use Rattle.st_types.specs.Values.{IsHeld}
use Rattle.st_types.specs.declared.statement.Label.{Label}
use Rattle.st_types.specs.declared.statement.Label.TheVariants.{Single, Range, Enumerated}
use Rattle.st_meaning.specs.Operators.{value_of_literal, number_of}
use Rattle.st_meaning.specs.StandardBlocks.{members_of}
use Rattle.slot_trees.specs.SlotTrees.{SlotExpr, constant, load, compute, call, unary, binary, SlotExprs}
use Rattle.slot_trees.specs.SlotTrees.{no_exprs, expr_then, Place, place, Subscripts, no_subscripts, subscript_then}
use Rattle.slot_trees.specs.SlotTrees.{BlockCode, own_block, standard_block, SlotArgument, given, copied, SlotStmt}
use Rattle.slot_trees.specs.SlotTrees.{empty, assign, invoke, IF, CASE, FOR, WHILE, REPEAT, EXIT, RETURN, SlotStmts}
use Rattle.slot_trees.specs.SlotTrees.{no_stmts, stmt_then, SlotArms, no_arms, arm_then, SlotCaseArms}
use Rattle.slot_trees.specs.SlotTrees.{no_case_arms, case_arm_then, SlotFunction}
use Rattle.slot_trees.specs.LibraryViews.{KeptLibrary}
use Rattle.slot_trees.specs.SlotEvaluation.{slot_at}
use Rattle.machine_code.specs.Codes.{count_of, number_value}
use Rattle.machine_code.specs.Fitting.{UnitCall, of_function, of_block, IsValue, reach}
use Rattle.machine_code.specs.Programs.{program_frame}
use Rattle.machine_code.specs.UnitFrames.{UnitFrame, end_of, instance_frame, call_frame}
use Rattle.st_compile.specs.Signatures.{HasSignature}

-- a number that LINT or ULINT holds
abbrev pub IsNumber : ℤ → Type 0
IsNumber z = IsHeld (number_value z)

abbrev pub IsLabel : Label → Type 0
IsLabel (Single n) = IsNumber (number_of n)
IsLabel (Range least greatest) = IsNumber (number_of least) × IsNumber (number_of greatest)
IsLabel (Enumerated v) = Unit {0}

abbrev pub AreLabels : List Label → Type 0
AreLabels [] = Unit {0}
AreLabels (l ∷ ls) = IsLabel l × AreLabels ls

-- the lower bound is a number that instructions hold, and elements and their slots are fewer than 65536
abbrev pub IsSubscript : ℤ → ℕ → ℕ → Type 0
IsSubscript lower count stride = IsNumber lower × (count < 65536) × (stride < 65536)

module _ (CallLinked : UnitCall → Type 0) (site : UnitFrame) where
  abbrev mutual
    pub ExprLinked : SlotExpr → Type 0
    ExprLinked (constant l) = IsValue (value_of_literal l)
    ExprLinked (load p) = PlaceLinked p
    ExprLinked (compute f es) = (count_of es < 65536) × ExprsLinked es
    ExprLinked (call f es) = ExprsLinked es × CallLinked (of_function f (end_of site) (count_of es))
    ExprLinked (unary op e) = ExprLinked e
    ExprLinked (binary op l r) = ExprLinked l × ExprLinked r

    pub ExprsLinked : SlotExprs → Type 0
    ExprsLinked no_exprs = Unit {0}
    ExprsLinked (expr_then e es) = ExprLinked e × ExprsLinked es

    pub PlaceLinked : Place → Type 0
    PlaceLinked (place a ss) = (slot_at site.base a + reach ss < site.size) × SubscriptsLinked ss

    pub SubscriptsLinked : Subscripts → Type 0
    SubscriptsLinked no_subscripts = Unit {0}
    SubscriptsLinked (subscript_then e lower count stride ss) =
        IsSubscript lower count stride × ExprLinked e × SubscriptsLinked ss

  abbrev pub StepLinked : Option SlotExpr → Type 0
  StepLinked None = Unit {0}
  StepLinked (Some e) = ExprLinked e

  -- the arguments of a call of an instance from a slot on
  abbrev pub ArgumentsLinked : ℕ → List SlotArgument → Type 0
  ArgumentsLinked at [] = Unit {0}
  ArgumentsLinked at (given o e ∷ rest) = (at + o < site.size) × ExprLinked e × ArgumentsLinked at rest
  ArgumentsLinked at (copied o p ∷ rest) = (at + o < site.size) × PlaceLinked p × ArgumentsLinked at rest

  abbrev mutual
    pub StmtLinked : SlotStmt → Type 0
    StmtLinked empty = Unit {0}
    StmtLinked (assign p e) = PlaceLinked p × ExprLinked e
    StmtLinked (invoke a code arguments) =
        (slot_at site.base a ≤ site.size) × CallLinked (of_block code (instance_frame site (slot_at site.base a)))
        × ArgumentsLinked (slot_at site.base a) arguments
    StmtLinked (IF arms otherwise) = ArmsLinked arms × StmtsLinked otherwise
    StmtLinked (CASE e arms otherwise) = ExprLinked e × CaseArmsLinked arms × StmtsLinked otherwise
    StmtLinked (FOR a start limit step body) =
        (slot_at site.base a < site.size) × ExprLinked start × ExprLinked limit × StepLinked step × StmtsLinked body
    StmtLinked (WHILE e body) = ExprLinked e × StmtsLinked body
    StmtLinked (REPEAT body e) = StmtsLinked body × ExprLinked e
    StmtLinked EXIT = Unit {0}
    StmtLinked RETURN = Unit {0}

    pub StmtsLinked : SlotStmts → Type 0
    StmtsLinked no_stmts = Unit {0}
    StmtsLinked (stmt_then x xs) = StmtLinked x × StmtsLinked xs

    pub ArmsLinked : SlotArms → Type 0
    ArmsLinked no_arms = Unit {0}
    ArmsLinked (arm_then e body arms) = ExprLinked e × StmtsLinked body × ArmsLinked arms

    pub CaseArmsLinked : SlotCaseArms → Type 0
    CaseArmsLinked no_case_arms = Unit {0}
    CaseArmsLinked (case_arm_then labels body arms) = AreLabels labels × StmtsLinked body × CaseArmsLinked arms

-- a function with its values from a slot on, and `count` arguments
abbrev pub FunctionLinked : (UnitCall → Type 0) → SlotFunction → ℕ → ℕ → Type 0
FunctionLinked CallLinked f start count =
    HasSignature f count × StmtsLinked CallLinked (call_frame start (length f.fresh)) f.body

-- nothing is asked of a unit that is left out, for whose values no layout has room
abbrev pub IfFunctionLinked : (UnitCall → Type 0) → Option (Option SlotFunction) → ℕ → ℕ → Type 0
IfFunctionLinked CallLinked (Some (Some f)) start count = FunctionLinked CallLinked f start count
IfFunctionLinked CallLinked (Some None) start count = Unit {0}
IfFunctionLinked CallLinked None start count = ⊥

abbrev pub IfBodyLinked : (UnitCall → Type 0) → Option (Option SlotStmts) → UnitFrame → Type 0
IfBodyLinked CallLinked (Some (Some body)) site = StmtsLinked CallLinked site body
IfBodyLinked CallLinked (Some None) site = Unit {0}
IfBodyLinked CallLinked None site = ⊥

abbrev pub InstanceLinked : (UnitCall → Type 0) → KeptLibrary → BlockCode → UnitFrame → Type 0
InstanceLinked CallLinked library (standard_block b) site = site.base + length (members_of b) ≤ site.size
InstanceLinked CallLinked library (own_block i) site = IfBodyLinked CallLinked (slice_get library.blocks i) site

-- a call at most n deep
unfoldable pub CallLinkedWithin : KeptLibrary → ℕ → UnitCall → Type 0
CallLinkedWithin library zero _ = ⊥
CallLinkedWithin library (suc n) (of_function f start count) =
    IfFunctionLinked (CallLinkedWithin library n) (slice_get library.functions f) start count
CallLinkedWithin library (suc n) (of_block code site) =
    InstanceLinked (CallLinkedWithin library n) library code site

-- a program with its own variables from slot `base` on, over `size` slots, with calls at most n deep
abbrev pub ProgramLinked : KeptLibrary → ℕ → ℕ → SlotStmts → ℕ → Type 0
ProgramLinked library base size body n =
    StmtsLinked (CallLinkedWithin library n) (program_frame base size) body
