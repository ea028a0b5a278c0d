-- How many instructions the code of a tree has, over a library in which some units are left out: those of a unit that is
-- left out, and of one that is not there, are not counted.
use Rattle.std.specs.Prelude.{ℕ, zero, suc, ◌+◌, ◌*◌, List, [], ◌∷◌, length, Option, Some, None, slice_get, Result, Ok}
use Rattle.std.specs.Prelude.{Err}
use Rattle.st_types.specs.Values.{Datum}
use Rattle.st_types.specs.declared.statement.Label.{Label}
use Rattle.st_types.specs.declared.statement.Label.TheVariants.{Single, Range, Enumerated}
use Rattle.st_meaning.specs.Failures.{Failure}
use Rattle.st_meaning.specs.Operators.{value_of_literal}
use Rattle.slot_trees.specs.SlotTrees.{SlotExpr, constant, load, compute, call, unary, binary, SlotExprs}
use Rattle.slot_trees.specs.SlotTrees.{no_exprs, expr_then, Place, place, Subscripts, no_subscripts, subscript_then}
use Rattle.slot_trees.specs.SlotTrees.{BlockCode, own_block, standard_block, SlotArgument, given, copied, SlotStmt}
use Rattle.slot_trees.specs.SlotTrees.{empty, assign, invoke, IF, CASE, FOR, WHILE, REPEAT, EXIT, RETURN, SlotStmts}
use Rattle.slot_trees.specs.SlotTrees.{no_stmts, stmt_then, SlotArms, no_arms, arm_then, SlotCaseArms}
use Rattle.slot_trees.specs.SlotTrees.{no_case_arms, case_arm_then, SlotFunction}
use Rattle.slot_trees.specs.LibraryViews.{KeptLibrary}
use Rattle.machine_code.specs.Codes.{given_members}

-- of the units that are called: of a function by its number, and of a block
pub record UnitLengths : Type 0 where
  pub functions : ℕ → ℕ
  pub blocks : BlockCode → ℕ

-- the value of a literal is pushed on the stack, if it has one
abbrev pub literal_length : Result Datum Failure → ℕ
literal_length (Ok v) = 1
literal_length (Err e) = 0

abbrev pub label_length : Label → ℕ
label_length (Single n) = 2
label_length (Range least greatest) = 3
label_length (Enumerated v) = 0

abbrev pub labels_length : List Label → ℕ
labels_length [] = 0
labels_length (l ∷ ls) = label_length l + labels_length ls

module _ (units : UnitLengths) where
  abbrev mutual
    pub expr_length : SlotExpr → ℕ
    expr_length (constant l) = literal_length (value_of_literal l)
    expr_length (load p) = place_length p
    expr_length (compute f es) = 1 + exprs_length es
    expr_length (call f es) = units.functions f + exprs_length es
    expr_length (unary op e) = 1 + expr_length e
    expr_length (binary op l r) = 1 + expr_length l + expr_length r

    pub exprs_length : SlotExprs → ℕ
    exprs_length no_exprs = 0
    exprs_length (expr_then e es) = expr_length e + exprs_length es

    pub place_length : Place → ℕ
    place_length (place a ss) = led_length ss

    -- two more if subscripts lead to the slot
    pub led_length : Subscripts → ℕ
    led_length no_subscripts = 1
    led_length (subscript_then e lower count stride ss) = 3 + expr_length e + subscripts_length ss

    pub subscripts_length : Subscripts → ℕ
    subscripts_length no_subscripts = 0
    subscripts_length (subscript_then e lower count stride ss) = 1 + expr_length e + subscripts_length ss

  abbrev pub step_length : Option SlotExpr → ℕ
  step_length None = 1
  step_length (Some e) = expr_length e

  abbrev pub inputs_length : List SlotArgument → ℕ
  inputs_length [] = 0
  inputs_length (given o e ∷ rest) = expr_length e + inputs_length rest
  inputs_length (copied o p ∷ rest) = inputs_length rest

  abbrev pub outputs_length : List SlotArgument → ℕ
  outputs_length [] = 0
  outputs_length (given o e ∷ rest) = outputs_length rest
  outputs_length (copied o p ∷ rest) = 1 + place_length p + outputs_length rest

  -- a call of a block, except for its tick
  abbrev pub invoke_length : BlockCode → List SlotArgument → ℕ
  invoke_length code xs = 1 + outputs_length xs + units.blocks code + length (given_members xs) + inputs_length xs

  abbrev mutual
    pub stmt_length : SlotStmt → ℕ
    stmt_length empty = 1
    stmt_length (assign p e) = 1 + place_length p + expr_length e
    stmt_length (invoke a code xs) = 1 + invoke_length code xs
    stmt_length (IF arms otherwise) = 1 + arms_length arms + stmts_length otherwise
    stmt_length (CASE e arms otherwise) = 2 + expr_length e + case_length arms + stmts_length otherwise
    stmt_length (FOR a start limit step body) =
        7 + expr_length start + expr_length limit + step_length step + stmts_length body
    stmt_length (WHILE e body) = 3 + expr_length e + stmts_length body
    stmt_length (REPEAT body e) = 3 + expr_length e + stmts_length body
    stmt_length EXIT = 2
    stmt_length RETURN = 3

    pub stmts_length : SlotStmts → ℕ
    stmts_length no_stmts = 0
    stmts_length (stmt_then x xs) = stmt_length x + stmts_length xs

    pub arms_length : SlotArms → ℕ
    arms_length no_arms = 0
    arms_length (arm_then e body arms) = 2 + expr_length e + stmts_length body + arms_length arms

    pub case_length : SlotCaseArms → ℕ
    case_length no_case_arms = 0
    case_length (case_arm_then labels body arms) =
        3 + labels_length labels + stmts_length body + case_length arms

  -- the turns of a FOR
  abbrev pub turns_length : SlotStmts → ℕ
  turns_length body = 5 + stmts_length body

  -- a function: its result is fetched, its inputs take their values, and each of its variables is reset to one
  abbrev pub function_length : SlotFunction → ℕ
  function_length f = 2 + stmts_length f.body + length f.inputs + 2 * length f.fresh

  abbrev pub if_function_length : Option (Option SlotFunction) → ℕ
  if_function_length (Some (Some f)) = function_length f
  if_function_length (Some None) = 0
  if_function_length None = 0

  abbrev pub if_body_length : Option (Option SlotStmts) → ℕ
  if_body_length (Some (Some body)) = stmts_length body
  if_body_length (Some None) = 0
  if_body_length None = 0

  abbrev pub block_length : KeptLibrary → BlockCode → ℕ
  block_length library (standard_block b) = 1
  block_length library (own_block i) = if_body_length (slice_get library.blocks i)

-- of the units of a library, with calls at most n deep
unfoldable pub units_length : KeptLibrary → ℕ → UnitLengths
units_length library zero = record { functions = λ f. 0; blocks = λ b. 0 }
units_length library (suc n) = record {
  functions = λ f. if_function_length (units_length library n) (slice_get library.functions f);
  blocks = λ b. block_length (units_length library n) library b;
}
