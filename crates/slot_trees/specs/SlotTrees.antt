-- Programs whose names are slots, as trees.
use Rattle.std.specs.Prelude.{ℕ, ℤ, List, Option}
use Rattle.st_types.specs.declared.literal.Literal.{Literal}
use Rattle.st_types.specs.declared.operator.UnaryOperator.{UnaryOperator}
use Rattle.st_types.specs.declared.operator.BinaryOperator.{BinaryOperator}
use Rattle.st_types.specs.Values.{Datum}
use Rattle.st_types.specs.declared.statement.Label.{Label}
use Rattle.st_meaning.specs.StandardFunctions.{Standard}
use Rattle.st_meaning.specs.StandardBlocks.{StandardBlock}

-- a slot: an offset from the first one of the unit's own variables, or a slot of the whole layout
pub data Anchor : Type 0 where
  own : ℕ → Anchor
  absolute : ℕ → Anchor

mutual
  pub data SlotExpr : Type 0 where
    constant : Literal → SlotExpr
    load : Place → SlotExpr
    compute : Standard → SlotExprs → SlotExpr
    -- a function of the text, by its number
    call : ℕ → SlotExprs → SlotExpr
    unary : UnaryOperator → SlotExpr → SlotExpr
    binary : BinaryOperator → SlotExpr → SlotExpr → SlotExpr

  pub data SlotExprs : Type 0 where
    no_exprs : SlotExprs
    expr_then : SlotExpr → SlotExprs → SlotExprs

  -- the slot where a variable begins, and the subscripts that lead on from there
  pub data Place : Type 0 where
    place : Anchor → Subscripts → Place

  -- a subscript with its lower bound, the number of elements, and how many slots an element takes
  pub data Subscripts : Type 0 where
    no_subscripts : Subscripts
    subscript_then : SlotExpr → ℤ → ℕ → ℕ → Subscripts → Subscripts

-- a block of the text by its number, or a standard one
pub data BlockCode : Type 0 where
  own_block : ℕ → BlockCode
  standard_block : StandardBlock → BlockCode

-- an input with its value, or an output with the place that it is copied to; each has its offset from the first slot
-- of the instance
pub data SlotArgument : Type 0 where
  given : ℕ → SlotExpr → SlotArgument
  copied : ℕ → Place → SlotArgument

mutual
  pub data SlotStmt : Type 0 where
    empty : SlotStmt
    assign : Place → SlotExpr → SlotStmt
    -- the first slot of the instance, its block, the arguments
    invoke : Anchor → BlockCode → List SlotArgument → SlotStmt
    IF : SlotArms → SlotStmts → SlotStmt
    CASE : SlotExpr → SlotCaseArms → SlotStmts → SlotStmt
    -- the slot of the control variable, start, limit, step, body
    FOR : Anchor → SlotExpr → SlotExpr → Option SlotExpr → SlotStmts → SlotStmt
    WHILE : SlotExpr → SlotStmts → SlotStmt
    REPEAT : SlotStmts → SlotExpr → SlotStmt
    EXIT : SlotStmt
    RETURN : SlotStmt

  pub data SlotStmts : Type 0 where
    no_stmts : SlotStmts
    stmt_then : SlotStmt → SlotStmts → SlotStmts

  pub data SlotArms : Type 0 where
    no_arms : SlotArms
    arm_then : SlotExpr → SlotStmts → SlotArms → SlotArms

  pub data SlotCaseArms : Type 0 where
    no_case_arms : SlotCaseArms
    case_arm_then : List Label → SlotStmts → SlotCaseArms → SlotCaseArms

-- a function: the values of its variables at the beginning of a call, the slots of its inputs in order, the slot of
-- its result, and its body
pub record SlotFunction : Type 0 where
  pub fresh : List Datum
  pub inputs : List ℕ
  pub result : ℕ
  pub body : SlotStmts

-- the functions and the blocks of a text, by their numbers
pub record SlotLibrary : Type 0 where
  pub functions : List SlotFunction
  pub blocks : List SlotStmts
