-- Code is only put before other code.
use Rattle.std.proofs.Common.{ℕ, zero, suc, List, [], ◌∷◌, Option, Some, None, Result, Ok, Err}
use Rattle.std.specs.Prelude.{slice_get}
use Rattle.st_types.specs.Values.{Datum}
use Rattle.st_types.specs.declared.statement.Label.{Label}
use Rattle.st_types.specs.declared.statement.Label.TheVariants.{Single, Range, Enumerated}
use Rattle.st_meaning.specs.Failures.{Failure}
use Rattle.st_meaning.specs.Operators.{value_of_literal}
use Rattle.machine_code.specs.declared.instr.Instr.{Instr}
use Rattle.slot_trees.specs.SlotTrees.{SlotExpr, constant, load, compute, call, unary, binary, SlotExprs, no_exprs}
use Rattle.slot_trees.specs.SlotTrees.{expr_then, Place, place, Subscripts, no_subscripts, subscript_then, BlockCode}
use Rattle.slot_trees.specs.SlotTrees.{own_block, standard_block, SlotArgument, given, copied, SlotStmt, empty, assign}
use Rattle.slot_trees.specs.SlotTrees.{invoke, IF, CASE, FOR, WHILE, REPEAT, EXIT, RETURN, SlotStmts, no_stmts}
use Rattle.slot_trees.specs.SlotTrees.{stmt_then, SlotArms, no_arms, arm_then, SlotCaseArms, no_case_arms}
use Rattle.slot_trees.specs.SlotTrees.{case_arm_then, SlotFunction, SlotLibrary}
use Rattle.slot_trees.specs.SlotEvaluation.{slot_at}
use Rattle.machine_code.specs.declared.jump_targets.JumpTargets.{JumpTargets}
use Rattle.machine_code.specs.Growing.{Code}
use Rattle.machine_code.specs.UnitFrames.{UnitFrame, slot_in, end_of, instance_frame}
use Rattle.machine_code.specs.Codes.{CodeUnits, literal_code, label_code, labels_code, stores_code, expr_code, exprs_code}
use Rattle.machine_code.specs.Codes.{place_code, led_code, subscripts_code, step_code, inputs_code, outputs_code}
use Rattle.machine_code.specs.Codes.{invoke_code, stmt_code, stmts_code, arms_code, case_code, given_members}
use Rattle.machine_code.specs.Calls.{resets_code, called_code, body_code, instance_code, units_over, units_code}
use Rattle.machine_code.proofs.Places.{Grows, same_code, grows_on, put, put_on, close_on}

-- the code of units only grows
pub record UnitsGrow (units : CodeUnits) : Type 0 where
  pub functions : (f start : ℕ) (c : Code) → Grows c (units.functions f start c)
  pub blocks : (b : BlockCode) (s : UnitFrame) (c : Code) → Grows c (units.blocks b s c)

pub literal_grows : (r : Result Datum Failure) (c : Code) → Grows c (literal_code r c)
literal_grows (Ok v) c = put c _
literal_grows (Err e) c = same_code c

pub label_grows : (l : Label) (to : ℕ) (c : Code) → Grows c (label_code l to c)
label_grows (Single n) to c = put_on _ (put c _)
label_grows (Range x y) to c = put_on _ (put_on _ (put c _))
label_grows (Enumerated v) to c = same_code c

pub labels_grow : (ls : List Label) (to : ℕ) (c : Code) → Grows c (labels_code ls to c)
labels_grow [] to c = same_code c
labels_grow (l ∷ ls) to c = grows_on (labels_grow ls to c) (label_grows l to _)

pub stores_grow : (first : ℕ) (os : List ℕ) (c : Code) → Grows c (stores_code first os c)
stores_grow first [] c = same_code c
stores_grow first (o ∷ os) c = put_on _ (stores_grow first os c)

pub resets_grow : (k : ℕ) (vs : List Datum) (c : Code) → Grows c (resets_code k vs c)
resets_grow k [] c = same_code c
resets_grow k (v ∷ vs) c = put_on _ (put_on _ (resets_grow (suc k) vs c))

module _ (units : CodeUnits) (grow : UnitsGrow units) (s : UnitFrame) where
  mutual
    pub expr_grows : (e : SlotExpr) (c : Code) → Grows c (expr_code units s e c)
    expr_grows (constant l) c = literal_grows (value_of_literal l) c
    expr_grows (load p) c = place_grows p _ _ c
    expr_grows (compute f es) c = grows_on (put c _) (exprs_grow es _)
    expr_grows (call f es) c = grows_on (grow.functions f (end_of s) c) (exprs_grow es _)
    expr_grows (unary op e) c = grows_on (put c _) (expr_grows e _)
    expr_grows (binary op l r) c = grows_on (put c _) (grows_on (expr_grows r _) (expr_grows l _))

    pub exprs_grow : (es : SlotExprs) (c : Code) → Grows c (exprs_code units s es c)
    exprs_grow no_exprs c = same_code c
    exprs_grow (expr_then e es) c = grows_on (exprs_grow es c) (expr_grows e _)

    pub place_grows : (p : Place) (here : ℕ → Instr) (at : Instr) (c : Code) → Grows c (place_code units s p here at c)
    place_grows (place a ss) here at c = led_grows ss (slot_in s a) here at c

    pub led_grows : (ss : Subscripts) (k : ℕ) (here : ℕ → Instr) (at : Instr) (c : Code)
        → Grows c (led_code units s ss k here at c)
    led_grows no_subscripts k here at c = put c _
    led_grows (subscript_then e lower count stride ss) k here at c =
        put_on _ (grows_on (put_on _ (grows_on (put c _) (subscripts_grow ss _))) (expr_grows e _))

    pub subscripts_grow : (ss : Subscripts) (c : Code) → Grows c (subscripts_code units s ss c)
    subscripts_grow no_subscripts c = same_code c
    subscripts_grow (subscript_then e lower count stride ss) c =
        grows_on (put_on _ (subscripts_grow ss c)) (expr_grows e _)

  pub step_grows : (o : Option SlotExpr) (c : Code) → Grows c (step_code units s o c)
  step_grows None c = put c _
  step_grows (Some e) c = expr_grows e c

  pub inputs_grow : (xs : List SlotArgument) (c : Code) → Grows c (inputs_code units s xs c)
  inputs_grow [] c = same_code c
  inputs_grow (given o e ∷ rest) c = grows_on (inputs_grow rest c) (expr_grows e _)
  inputs_grow (copied o p ∷ rest) c = inputs_grow rest c

  pub outputs_grow : (at : ℕ) (xs : List SlotArgument) (c : Code) → Grows c (outputs_code units s at xs c)
  outputs_grow at [] c = same_code c
  outputs_grow at (given o e ∷ rest) c = outputs_grow at rest c
  outputs_grow at (copied o p ∷ rest) c = put_on _ (grows_on (outputs_grow at rest c) (place_grows p _ _ _))

  pub invoke_grows : (at : ℕ) (b : BlockCode) (xs : List SlotArgument) (c : Code)
      → Grows c (invoke_code units s at b xs c)
  invoke_grows at b xs c =
      grows_on (outputs_grow at xs c) (grows_on (grow.blocks b (instance_frame s at) _)
      (grows_on (put_on _ (stores_grow _ (given_members xs) _)) (inputs_grow xs _)))

  mutual
    pub stmt_grows : (x : SlotStmt) (w : JumpTargets) (c : Code) → Grows c (stmt_code units s x w c)
    stmt_grows empty w c = put c _
    stmt_grows (assign p e) w c = put_on _ (grows_on (place_grows p _ _ c) (expr_grows e _))
    stmt_grows (invoke a b xs) w c = put_on _ (invoke_grows (slot_at s.base a) b xs c)
    stmt_grows (IF arms otherwise) w c = put_on _ (grows_on (stmts_grow otherwise w c) (arms_grow arms w _ _))
    stmt_grows (CASE e arms otherwise) w c =
        put_on _ (grows_on (grows_on (put_on _ (stmts_grow otherwise w c)) (case_grows arms w _ _)) (expr_grows e _))
    stmt_grows (FOR a start limit step body) w c =
        put_on _ (grows_on (grows_on (put c _) (put_on _ (put_on _ (close_on (put_on _ (put_on _
        (grows_on (put _ _) (stmts_grow body _ _)))))))) (grows_on (step_grows step _) (grows_on (expr_grows limit _)
        (expr_grows start _))))
    stmt_grows (WHILE e body) w c =
        put_on _ (close_on (grows_on (put_on _ (grows_on (put c _) (stmts_grow body _ _))) (expr_grows e _)))
    stmt_grows (REPEAT body e) w c =
        put_on _ (close_on (grows_on (grows_on (put_on _ (put c _)) (expr_grows e _)) (stmts_grow body _ _)))
    stmt_grows EXIT w c = put_on _ (put c _)
    stmt_grows RETURN w c = put_on _ (put_on _ (put c _))

    pub stmts_grow : (xs : SlotStmts) (w : JumpTargets) (c : Code) → Grows c (stmts_code units s xs w c)
    stmts_grow no_stmts w c = same_code c
    stmts_grow (stmt_then x xs) w c = grows_on (stmts_grow xs w c) (stmt_grows x w _)

    pub arms_grow : (arms : SlotArms) (w : JumpTargets) (to : ℕ) (c : Code) → Grows c (arms_code units s arms w to c)
    arms_grow no_arms w to c = same_code c
    arms_grow (arm_then e body arms) w to c =
        grows_on (put_on _ (grows_on (put_on _ (arms_grow arms w to c)) (stmts_grow body w _))) (expr_grows e _)

    pub case_grows : (arms : SlotCaseArms) (w : JumpTargets) (to : ℕ) (c : Code) → Grows c (case_code units s arms w to c)
    case_grows no_case_arms w to c = same_code c
    case_grows (case_arm_then labels body arms) w to c =
        grows_on (put_on _ (put_on _ (grows_on (put_on _ (case_grows arms w to c)) (stmts_grow body w _))))
        (labels_grow labels _ _)

module _ (library : SlotLibrary) (units : CodeUnits) (grow : UnitsGrow units) where
  called_grows : (o : Option SlotFunction) (start : ℕ) (c : Code) → Grows c (called_code units o start c)
  called_grows (Some f) start c =
      put_on _ (grows_on (grows_on (put_on _ (same_code c)) (stmts_grow units grow _ f.body _ _))
      (grows_on (stores_grow start f.inputs _) (resets_grow start f.fresh _)))
  called_grows None start c = same_code c

  body_grows : (o : Option SlotStmts) (s : UnitFrame) (c : Code) → Grows c (body_code units o s c)
  body_grows (Some body) s c = stmts_grow units grow s body _ c
  body_grows None s c = same_code c

  instance_grows : (b : BlockCode) (s : UnitFrame) (c : Code) → Grows c (instance_code library units b s c)
  instance_grows (standard_block b) s c = put c _
  instance_grows (own_block i) s c = body_grows (slice_get library.blocks i) s c

  over_grows : UnitsGrow (units_over library units)
  over_grows = record {
    functions = λ f start c. called_grows
        (slice_get library.functions f) start c;
    blocks = λ b s c. instance_grows b s c;
  }

pub units_grow : (library : SlotLibrary) (n : ℕ) → UnitsGrow (units_code library n)
unfolding units_code
units_grow library zero = record { functions = λ f start c. same_code c; blocks = λ b s c. same_code c }
units_grow library (suc n) = over_grows library (units_code library n) (units_grow library n)
