-- The code of a tree takes a slot's value nowhere as it is, if its calls of blocks and its loops use other slots.
use Rattle.std.proofs.Common.{◌≡◌, refl, ℕ, suc, ◌+◌, List, [], ◌∷◌, Option, Some, None}
use Rattle.std.specs.Prelude.{Result, Ok, Err, false}
use Rattle.st_types.specs.Values.{Datum}
use Rattle.st_types.specs.declared.statement.Label.{Label}
use Rattle.st_types.specs.declared.statement.Label.TheVariants.{Single, Range, Enumerated}
use Rattle.st_meaning.specs.Failures.{Failure}
use Rattle.st_meaning.specs.Operators.{value_of_literal}
use Rattle.machine_code.specs.declared.instr.Instr.{Instr}
use Rattle.machine_code.specs.Asking.{takes_as_it_is}
use Rattle.slot_trees.specs.SlotTrees.{SlotExpr, constant, load, compute, call, unary, binary, SlotExprs, no_exprs}
use Rattle.slot_trees.specs.SlotTrees.{expr_then, Place, place, Subscripts, no_subscripts, subscript_then, BlockCode}
use Rattle.slot_trees.specs.SlotTrees.{SlotArgument, given, copied, SlotStmt, empty, assign, invoke, IF, CASE, FOR}
use Rattle.slot_trees.specs.SlotTrees.{WHILE, REPEAT, EXIT, RETURN, SlotStmts, no_stmts, stmt_then, SlotArms, no_arms}
use Rattle.slot_trees.specs.SlotTrees.{arm_then, SlotCaseArms, no_case_arms, case_arm_then}
use Rattle.slot_trees.specs.SlotEvaluation.{slot_at}
use Rattle.machine_code.specs.declared.jump_targets.JumpTargets.{JumpTargets}
use Rattle.machine_code.specs.Growing.{Code}
use Rattle.machine_code.specs.UnitFrames.{UnitFrame, slot_in, end_of, instance_frame}
use Rattle.machine_code.specs.Codes.{CodeUnits, literal_code, label_code, labels_code, stores_code, expr_code, exprs_code}
use Rattle.machine_code.specs.Codes.{place_code, led_code, subscripts_code, step_code, inputs_code, outputs_code}
use Rattle.machine_code.specs.Codes.{invoke_code, stmt_code, stmts_code, arms_code, case_code, given_members}
use Rattle.machine_code.specs.Calls.{resets_code}
use Rattle.config.proofs.Taking.{unequal, Keeps, same_code, keeps_on, put, put_on, close_on}

module _ (k : ℕ) where
  literal_keeps : (r : Result Datum Failure) (c : Code) → Keeps k c (literal_code r c)
  literal_keeps (Ok v) c = put k c _ refl
  literal_keeps (Err e) c = same_code k c

  label_keeps : (l : Label) (to : ℕ) (c : Code) → Keeps k c (label_code l to c)
  label_keeps (Single n) to c = put_on k _ refl (put k c _ refl)
  label_keeps (Range x y) to c = put_on k _ refl (put_on k _ refl (put k c _ refl))
  label_keeps (Enumerated v) to c = same_code k c

  labels_keep : (ls : List Label) (to : ℕ) (c : Code) → Keeps k c (labels_code ls to c)
  labels_keep [] to c = same_code k c
  labels_keep (l ∷ ls) to c = keeps_on k (labels_keep ls to c) (label_keeps l to _)

  pub stores_keep : (first : ℕ) (os : List ℕ) (c : Code) → Keeps k c (stores_code first os c)
  stores_keep first [] c = same_code k c
  stores_keep first (o ∷ os) c = put_on k _ refl (stores_keep first os c)

  pub resets_keep : (first : ℕ) (vs : List Datum) (c : Code) → Keeps k c (resets_code first vs c)
  resets_keep first [] c = same_code k c
  resets_keep first (v ∷ vs) c = put_on k _ refl (put_on k _ refl (resets_keep (suc first) vs c))

  module _ (units : CodeUnits) (s : UnitFrame) where
    -- Requirements on a tree: calls of blocks keep code clean, and copied outputs and control variables are elsewhere.
    abbrev pub CopiesAvoid : ℕ → List SlotArgument → Type 0
    CopiesAvoid at [] = Unit {0}
    CopiesAvoid at (given o e ∷ rest) = CopiesAvoid at rest
    CopiesAvoid at (copied o p ∷ rest) = (s.start + (at + o) ≡ k → ⊥) × CopiesAvoid at rest

    abbrev pub BlockKeeps : BlockCode → ℕ → Type 0
    BlockKeeps b at = (c : Code) → Keeps k c (units.blocks b (instance_frame s at) c)

    abbrev mutual
      pub StmtAvoids : SlotStmt → Type 0
      StmtAvoids empty = Unit {0}
      StmtAvoids (assign p e) = Unit {0}
      StmtAvoids (invoke a b xs) = BlockKeeps b (slot_at s.base a) × CopiesAvoid (slot_at s.base a) xs
      StmtAvoids (IF arms otherwise) = ArmsAvoid arms × StmtsAvoid otherwise
      StmtAvoids (CASE e arms otherwise) = CaseArmsAvoid arms × StmtsAvoid otherwise
      StmtAvoids (FOR a start limit step body) = (slot_in s a ≡ k → ⊥) × StmtsAvoid body
      StmtAvoids (WHILE e body) = StmtsAvoid body
      StmtAvoids (REPEAT body e) = StmtsAvoid body
      StmtAvoids EXIT = Unit {0}
      StmtAvoids RETURN = Unit {0}

      pub StmtsAvoid : SlotStmts → Type 0
      StmtsAvoid no_stmts = Unit {0}
      StmtsAvoid (stmt_then x xs) = StmtAvoids x × StmtsAvoid xs

      pub ArmsAvoid : SlotArms → Type 0
      ArmsAvoid no_arms = Unit {0}
      ArmsAvoid (arm_then e body arms) = StmtsAvoid body × ArmsAvoid arms

      pub CaseArmsAvoid : SlotCaseArms → Type 0
      CaseArmsAvoid no_case_arms = Unit {0}
      CaseArmsAvoid (case_arm_then labels body arms) = StmtsAvoid body × CaseArmsAvoid arms

  module _ (units : CodeUnits) (s : UnitFrame)
      (functions : (f : ℕ) (c : Code) → Keeps k c (units.functions f (end_of s) c)) where
    mutual
      expr_keeps : (e : SlotExpr) (c : Code) → Keeps k c (expr_code units s e c)
      expr_keeps (constant l) c = literal_keeps (value_of_literal l) c
      expr_keeps (load p) c = place_keeps p _ _ c (λ j. refl) refl
      expr_keeps (compute f es) c = keeps_on k (put k c _ refl) (exprs_keep es _)
      expr_keeps (call f es) c = keeps_on k (functions f c) (exprs_keep es _)
      expr_keeps (unary op e) c = keeps_on k (put k c _ refl) (expr_keeps e _)
      expr_keeps (binary op l r) c = keeps_on k (put k c _ refl) (keeps_on k (expr_keeps r _) (expr_keeps l _))

      exprs_keep : (es : SlotExprs) (c : Code) → Keeps k c (exprs_code units s es c)
      exprs_keep no_exprs c = same_code k c
      exprs_keep (expr_then e es) c = keeps_on k (exprs_keep es c) (expr_keeps e _)

      place_keeps : (p : Place) (here : ℕ → Instr) (at : Instr) (c : Code)
          → ((j : ℕ) → takes_as_it_is k (here j) ≡ false) → takes_as_it_is k at ≡ false
          → Keeps k c (place_code units s p here at c)
      place_keeps (place a ss) here at c h g = led_keeps ss (slot_in s a) here at c h g

      led_keeps : (ss : Subscripts) (j : ℕ) (here : ℕ → Instr) (at : Instr) (c : Code)
          → ((j : ℕ) → takes_as_it_is k (here j) ≡ false) → takes_as_it_is k at ≡ false
          → Keeps k c (led_code units s ss j here at c)
      led_keeps no_subscripts j here at c h g = put k c _ (h j)
      led_keeps (subscript_then e lower count stride ss) j here at c h g =
          put_on k _ refl (keeps_on k
          (put_on k _ refl (keeps_on k (put k c _ g) (subscripts_keep ss _))) (expr_keeps e _))

      subscripts_keep : (ss : Subscripts) (c : Code) → Keeps k c (subscripts_code units s ss c)
      subscripts_keep no_subscripts c = same_code k c
      subscripts_keep (subscript_then e lower count stride ss) c =
          keeps_on k (put_on k _ refl (subscripts_keep ss c)) (expr_keeps e _)

    step_keeps : (o : Option SlotExpr) (c : Code) → Keeps k c (step_code units s o c)
    step_keeps None c = put k c _ refl
    step_keeps (Some e) c = expr_keeps e c

    inputs_keep : (xs : List SlotArgument) (c : Code) → Keeps k c (inputs_code units s xs c)
    inputs_keep [] c = same_code k c
    inputs_keep (given o e ∷ rest) c = keeps_on k (inputs_keep rest c) (expr_keeps e _)
    inputs_keep (copied o p ∷ rest) c = inputs_keep rest c

    outputs_keep : (at : ℕ) (xs : List SlotArgument) (c : Code) → CopiesAvoid units s at xs
        → Keeps k c (outputs_code units s at xs c)
    outputs_keep at [] c h = same_code k c
    outputs_keep at (given o e ∷ rest) c h = outputs_keep at rest c h
    outputs_keep at (copied o p ∷ rest) c h =
        put_on k _ (unequal (s.start + (at + o)) k h.0)
        (keeps_on k (outputs_keep at rest c h.1) (place_keeps p _ _ _ (λ j. refl) refl))

    invoke_keeps : (at : ℕ) (b : BlockCode) (xs : List SlotArgument) (c : Code) → BlockKeeps units s b at → CopiesAvoid units s at xs
        → Keeps k c (invoke_code units s at b xs c)
    invoke_keeps at b xs c h g =
        keeps_on k (outputs_keep at xs c g) (keeps_on k (h _)
        (keeps_on k (put_on k _ refl (stores_keep _ (given_members xs) _)) (inputs_keep xs _)))

    mutual
      stmt_keeps : (x : SlotStmt) (w : JumpTargets) (c : Code) → StmtAvoids units s x → Keeps k c (stmt_code units s x w c)
      stmt_keeps empty w c h = put k c _ refl
      stmt_keeps (assign p e) w c h =
          put_on k _ refl (keeps_on k (place_keeps p _ _ c (λ j. refl) refl) (expr_keeps e _))
      stmt_keeps (invoke a b xs) w c h = put_on k _ refl (invoke_keeps (slot_at s.base a) b xs c h.0 h.1)
      stmt_keeps (IF arms otherwise) w c h =
          put_on k _ refl (keeps_on k (stmts_keep otherwise w c h.1) (arms_keep arms w _ _ h.0))
      stmt_keeps (CASE e arms otherwise) w c h =
          put_on k _ refl (keeps_on k
          (keeps_on k (put_on k _ refl (stmts_keep otherwise w c h.1)) (case_keeps arms w _ _ h.0)) (expr_keeps e _))
      stmt_keeps (FOR a start limit step body) w c h =
          let apart = unequal (slot_in s a) k h.0 in
          put_on k _ refl (keeps_on k
          (keeps_on k (put k c _ refl) (put_on k _ refl (put_on k _ refl (close_on k _ (put_on k _ apart (put_on k _ apart
          (keeps_on k (put k _ _ refl) (stmts_keep body _ _ h.1))))))))
          (keeps_on k (step_keeps step _) (keeps_on k (expr_keeps limit _) (expr_keeps start _))))
      stmt_keeps (WHILE e body) w c h =
          put_on k _ refl (close_on k _ (keeps_on k
          (put_on k _ refl (keeps_on k (put k c _ refl) (stmts_keep body _ _ h))) (expr_keeps e _)))
      stmt_keeps (REPEAT body e) w c h =
          put_on k _ refl (close_on k _ (keeps_on k
          (keeps_on k (put_on k _ refl (put k c _ refl)) (expr_keeps e _)) (stmts_keep body _ _ h)))
      stmt_keeps EXIT w c h = put_on k _ refl (put k c _ refl)
      stmt_keeps RETURN w c h = put_on k _ refl (put_on k _ refl (put k c _ refl))

      pub stmts_keep : (xs : SlotStmts) (w : JumpTargets) (c : Code) → StmtsAvoid units s xs → Keeps k c (stmts_code units s xs w c)
      stmts_keep no_stmts w c h = same_code k c
      stmts_keep (stmt_then x xs) w c h = keeps_on k (stmts_keep xs w c h.1) (stmt_keeps x w _ h.0)

      arms_keep : (arms : SlotArms) (w : JumpTargets) (to : ℕ) (c : Code) → ArmsAvoid units s arms
          → Keeps k c (arms_code units s arms w to c)
      arms_keep no_arms w to c h = same_code k c
      arms_keep (arm_then e body arms) w to c h =
          keeps_on k (put_on k _ refl (keeps_on k (put_on k _ refl (arms_keep arms w to c h.1))
          (stmts_keep body w _ h.0))) (expr_keeps e _)

      case_keeps : (arms : SlotCaseArms) (w : JumpTargets) (to : ℕ) (c : Code) → CaseArmsAvoid units s arms
          → Keeps k c (case_code units s arms w to c)
      case_keeps no_case_arms w to c h = same_code k c
      case_keeps (case_arm_then labels body arms) w to c h =
          keeps_on k (put_on k _ refl (put_on k _ refl (keeps_on k (put_on k _ refl (case_keeps arms w to c h.1))
          (stmts_keep body w _ h.0)))) (labels_keep labels _ _)
