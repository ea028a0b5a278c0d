-- The code of a tree, put before the code that runs after it: code is kept from its end, so that what runs first is last. A
-- call is the code of the unit that it calls.
use Rattle.std.specs.Prelude.{ℕ, suc, ◌+◌, ℤ, pos, List, [], ◌∷◌, length, if◌then◌else◌, Option, Some, None}
use Rattle.std.specs.Prelude.{Result}
use Rattle.std.specs.Prelude.{Ok, Err}
use Rattle.st_types.specs.Values.{Datum}
use Rattle.st_types.specs.Kinds.{holds}
use Rattle.st_types.specs.declared.kind.Kind.TheVariants.{Lint, Ulint}
use Rattle.st_types.specs.declared.statement.Label.{Label}
use Rattle.st_types.specs.declared.statement.Label.TheVariants.{Single, Range, Enumerated}
use Rattle.st_meaning.specs.Failures.{Failure}
use Rattle.st_meaning.specs.Operators.{value_of_literal, number_of}
use Rattle.st_meaning.specs.StandardFunctions as functions
use Rattle.st_meaning.specs.StandardBlocks as blocks
use Rattle.symbols.specs.declared.standard_blocks.StandardBlock as code_block
use Rattle.symbols.specs.declared.standard_blocks.StandardBlock.TheVariants.{Sr, Rs, RTrig, FTrig, Ctu, Ctd, Ctud}
use Rattle.symbols.specs.declared.standard_blocks.StandardBlock.TheVariants.{Ton, Tof, Tp}
use Rattle.symbols.specs.declared.standard_functions.Standard as code_function
use Rattle.symbols.specs.declared.standard_functions.Standard.TheVariants.{Abs, Min, Max, Limit, Sel, Shl, Shr, Rol}
use Rattle.symbols.specs.declared.standard_functions.Standard.TheVariants.{Ror, Convert}
use Rattle.machine_code.specs.declared.instr.Instr.{Instr}
use Rattle.machine_code.specs.declared.instr.Instr.TheVariants.{Tick, Push, Load, LoadRaw, Store, Unary, Binary, Compute}
use Rattle.machine_code.specs.declared.instr.Instr.TheVariants.{Reverse, Jump, JumpIfFalse, JumpIfTrue, LoopBack, Pop, Subscript}
use Rattle.machine_code.specs.declared.instr.Instr.TheVariants.{LoadAt, StoreAt, ForBegin, ForTest, ForStep, JumpIfEqual}
use Rattle.machine_code.specs.declared.instr.Instr.TheVariants.{JumpIfWithin}
use Rattle.machine_code.specs.Machine.{slot_number}
use Rattle.slot_trees.specs.SlotTrees.{SlotExpr, constant, load, compute, call, unary, binary, SlotExprs}
use Rattle.slot_trees.specs.SlotTrees.{no_exprs, expr_then, Place, place, Subscripts, no_subscripts, subscript_then}
use Rattle.slot_trees.specs.SlotTrees.{BlockCode, SlotArgument, given, copied, SlotStmt, empty, assign, invoke, IF}
use Rattle.slot_trees.specs.SlotTrees.{CASE}
use Rattle.slot_trees.specs.SlotTrees.{FOR, WHILE, REPEAT, EXIT, RETURN, SlotStmts, no_stmts, stmt_then, SlotArms}
use Rattle.slot_trees.specs.SlotTrees.{no_arms, arm_then, SlotCaseArms, no_case_arms, case_arm_then}
use Rattle.slot_trees.specs.SlotEvaluation.{slot_at}
use Rattle.machine_code.specs.declared.jump_targets.JumpTargets.{JumpTargets}
use Rattle.machine_code.specs.Growing.{Code, ◌◂◌, closed}
use Rattle.machine_code.specs.UnitFrames.{UnitFrame, slot_in, end_of, instance_frame}

-- the code in the place of calls: of a function whose arguments are on the stack, with its values from a slot on, and of a
-- block on the slots of an instance
pub record CodeUnits : Type 0 where
  pub functions : ℕ → ℕ → Code → Code
  pub blocks : BlockCode → UnitFrame → Code → Code

-- where EXIT and RETURN lead in a body that takes the place of its call: after it
abbrev pub body_targets : ℕ → JumpTargets
body_targets to = record { exit = to; back = to; held = 0 }

-- where they lead in a loop that ends at a place, and that holds this number of further values
abbrev pub loop_targets : JumpTargets → ℕ → ℕ → JumpTargets
loop_targets w to more = record { exit = to; back = w.back; held = w.held + more }

-- standard functions and blocks as instructions name them
abbrev pub standard_code : functions.Standard → code_function.Standard
standard_code functions.ABS = Abs
standard_code functions.MIN = Min
standard_code functions.MAX = Max
standard_code functions.LIMIT = Limit
standard_code functions.SEL = Sel
standard_code functions.SHL = Shl
standard_code functions.SHR = Shr
standard_code functions.ROL = Rol
standard_code functions.ROR = Ror
standard_code (functions.CONVERT k l) = Convert k l

abbrev pub block_code : blocks.StandardBlock → code_block.StandardBlock
block_code blocks.SR = Sr
block_code blocks.RS = Rs
block_code blocks.R_TRIG = RTrig
block_code blocks.F_TRIG = FTrig
block_code blocks.CTU = Ctu
block_code blocks.CTD = Ctd
block_code blocks.CTUD = Ctud
block_code blocks.TON = Ton
block_code blocks.TOF = Tof
block_code blocks.TP = Tp

-- a number of a label on the stack
abbrev pub number_value : ℤ → Datum
number_value z = record { kind = if holds Lint z then Lint else Ulint; number = z }

abbrev pub literal_code : Result Datum Failure → Code → Code
literal_code (Ok v) c = c ◂ Push v
literal_code (Err e) c = c

-- if a label holds the selector, which is on the stack, the run goes on at a place; a name holds nothing
abbrev pub label_code : Label → ℕ → Code → Code
label_code (Single n) to c = c ◂ JumpIfEqual to ◂ Push (number_value (number_of n))
label_code (Range least greatest) to c =
    c ◂ JumpIfWithin to ◂ Push (number_value (number_of greatest)) ◂ Push (number_value (number_of least))
label_code (Enumerated v) to c = c

abbrev pub labels_code : List Label → ℕ → Code → Code
labels_code [] to c = c
labels_code (l ∷ ls) to c = label_code l to (labels_code ls to c)

-- values that are on the stack, the first on top, are assigned to slots at these distances after a first one
abbrev pub stores_code : ℕ → List ℕ → Code → Code
stores_code first [] c = c
stores_code first (o ∷ os) c = stores_code first os c ◂ Store (first + o)

-- the members that a call gives values
abbrev pub given_members : List SlotArgument → List ℕ
given_members [] = []
given_members (given o e ∷ rest) = o ∷ given_members rest
given_members (copied o p ∷ rest) = given_members rest

-- how many expressions there are
abbrev pub count_of : SlotExprs → ℕ
count_of no_exprs = 0
count_of (expr_then e es) = suc (count_of es)

module _ (units : CodeUnits) (site : UnitFrame) where
  abbrev mutual
    -- the value comes on the stack
    pub expr_code : SlotExpr → Code → Code
    expr_code (constant l) c = literal_code (value_of_literal l) c
    expr_code (load p) c = place_code p Load LoadAt c
    expr_code (compute f es) c = exprs_code es (c ◂ Compute (standard_code f) (count_of es))
    expr_code (call f es) c = exprs_code es (units.functions f (end_of site) c)
    expr_code (unary op e) c = expr_code e (c ◂ Unary op)
    expr_code (binary op l r) c = expr_code l (expr_code r (c ◂ Binary op))

    pub exprs_code : SlotExprs → Code → Code
    exprs_code no_exprs c = c
    exprs_code (expr_then e es) c = expr_code e (exprs_code es c)

    -- an instruction for a slot that is known, or one that takes the slot to which subscripts lead
    pub place_code : Place → (ℕ → Instr) → Instr → Code → Code
    place_code (place a ss) here at c = led_code ss (slot_in site a) here at c

    pub led_code : Subscripts → ℕ → (ℕ → Instr) → Instr → Code → Code
    led_code no_subscripts k here at c = c ◂ here k
    led_code (subscript_then e lower count stride ss) k here at c =
        expr_code e (subscripts_code ss (c ◂ at) ◂ Subscript count stride (number_value lower)) ◂ Push (slot_number k)

    -- the slot on the stack is moved on
    pub subscripts_code : Subscripts → Code → Code
    subscripts_code no_subscripts c = c
    subscripts_code (subscript_then e lower count stride ss) c =
        expr_code e (subscripts_code ss c ◂ Subscript count stride (number_value lower))

  -- the step of a FOR: 1 if none is written
  abbrev pub step_code : Option SlotExpr → Code → Code
  step_code None c = c ◂ Push (number_value (pos 1))
  step_code (Some e) c = expr_code e c

  abbrev pub inputs_code : List SlotArgument → Code → Code
  inputs_code [] c = c
  inputs_code (given o e ∷ rest) c = expr_code e (inputs_code rest c)
  inputs_code (copied o p ∷ rest) c = inputs_code rest c

  abbrev pub outputs_code : ℕ → List SlotArgument → Code → Code
  outputs_code at [] c = c
  outputs_code at (given o e ∷ rest) c = outputs_code at rest c
  outputs_code at (copied o p ∷ rest) c =
      place_code p Store StoreAt (outputs_code at rest c) ◂ LoadRaw (site.start + (at + o))

  abbrev pub invoke_code : ℕ → BlockCode → List SlotArgument → Code → Code
  invoke_code at code arguments c =
      let body = units.blocks code (instance_frame site at) (outputs_code at arguments c) in
      let members = given_members arguments in
      inputs_code arguments (stores_code (site.start + at) members body ◂ Reverse (length members))

  -- before all else a statement takes a tick
  abbrev mutual
    pub stmt_code : SlotStmt → JumpTargets → Code → Code
    stmt_code empty w c = c ◂ Tick
    stmt_code (assign p e) w c = expr_code e (place_code p Store StoreAt c) ◂ Tick
    stmt_code (invoke a code arguments) w c = invoke_code (slot_at site.base a) code arguments c ◂ Tick
    stmt_code (IF arms otherwise) w c = arms_code arms w (length c) (stmts_code otherwise w c) ◂ Tick
    stmt_code (CASE e arms otherwise) w c =
        expr_code e (case_code arms w (length c) (stmts_code otherwise w c ◂ Pop 1)) ◂ Tick
    stmt_code (FOR a start limit step body) w c =
        let k = slot_in site a in
        let left = c ◂ Pop 2 in
        let turn = stmts_code body (loop_targets w (length left) 2) (left ◂ LoopBack 0) ◂ ForTest k (length left) in
        let loop = closed (length left) (turn ◂ ForStep k (length left)) ◂ Jump (length turn) in
        expr_code start (expr_code limit (step_code step (loop ◂ ForBegin k))) ◂ Tick
    stmt_code (WHILE e body) w c =
        let inner = stmts_code body (loop_targets w (length c) 0) (c ◂ LoopBack 0) in
        closed (length c) (expr_code e (inner ◂ JumpIfFalse (length c))) ◂ Tick
    stmt_code (REPEAT body e) w c =
        let asked = expr_code e (c ◂ LoopBack 0 ◂ JumpIfTrue (length c)) in
        closed (length c) (stmts_code body (loop_targets w (length c) 0) asked) ◂ Tick
    stmt_code EXIT w c = c ◂ Jump w.exit ◂ Tick
    stmt_code RETURN w c = c ◂ Jump w.back ◂ Pop w.held ◂ Tick

    pub stmts_code : SlotStmts → JumpTargets → Code → Code
    stmts_code no_stmts w c = c
    stmts_code (stmt_then x xs) w c = stmt_code x w (stmts_code xs w c)

    -- arms before the statements that run if no condition holds; the end is after these
    pub arms_code : SlotArms → JumpTargets → ℕ → Code → Code
    arms_code no_arms w to c = c
    arms_code (arm_then e body arms) w to c =
        let rest = arms_code arms w to c in
        expr_code e (stmts_code body w (rest ◂ Jump to) ◂ JumpIfFalse (length rest))

    -- the same for lists of labels; the selector is on the stack until statements are chosen
    pub case_code : SlotCaseArms → JumpTargets → ℕ → Code → Code
    case_code no_case_arms w to c = c
    case_code (case_arm_then labels body arms) w to c =
        let rest = case_code arms w to c in
        let chosen = stmts_code body w (rest ◂ Jump to) ◂ Pop 1 in
        labels_code labels (length chosen) (chosen ◂ Jump (length rest))
