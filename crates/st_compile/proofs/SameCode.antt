-- Trees have the same code over units that are the same if their calls fit.
use Rattle.std.proofs.Common.{◌≡◌, ℕ, ◌+◌, List, [], ◌∷◌, Option, Some, None, length, refl, ap, ◌∙◌}
use Rattle.machine_code.specs.declared.instr.Instr.{Instr}
use Rattle.machine_code.specs.declared.instr.Instr.TheVariants.{Tick, Push, LoadRaw, Store, StoreAt, Reverse, Jump, JumpIfFalse}
use Rattle.machine_code.specs.declared.instr.Instr.TheVariants.{JumpIfTrue, LoopBack, Pop, Subscript, ForBegin, ForTest}
use Rattle.machine_code.specs.declared.instr.Instr.TheVariants.{ForStep}
use Rattle.machine_code.specs.Machine.{slot_number}
use Rattle.slot_trees.specs.SlotTrees.{SlotExpr, constant, load, compute, call, unary, binary, SlotExprs}
use Rattle.slot_trees.specs.SlotTrees.{no_exprs, expr_then, Place, place, Subscripts, no_subscripts, subscript_then}
use Rattle.slot_trees.specs.SlotTrees.{BlockCode, SlotArgument, given, copied, SlotStmt}
use Rattle.slot_trees.specs.SlotTrees.{empty, assign, invoke, IF, CASE, FOR, WHILE, REPEAT, EXIT, RETURN, SlotStmts}
use Rattle.slot_trees.specs.SlotTrees.{no_stmts, stmt_then, SlotArms, no_arms, arm_then, SlotCaseArms}
use Rattle.slot_trees.specs.SlotTrees.{no_case_arms, case_arm_then}
use Rattle.slot_trees.specs.SlotEvaluation.{slot_at}
use Rattle.machine_code.specs.declared.jump_targets.JumpTargets.{JumpTargets}
use Rattle.machine_code.specs.Growing.{Code, ◌◂◌, closed}
use Rattle.machine_code.specs.UnitFrames.{UnitFrame, slot_in, end_of, instance_frame}
use Rattle.machine_code.specs.Codes.{CodeUnits, count_of, number_value, labels_code, stores_code, expr_code, exprs_code}
use Rattle.machine_code.specs.Codes.{place_code, led_code, subscripts_code, step_code, inputs_code, outputs_code}
use Rattle.machine_code.specs.Codes.{invoke_code, stmt_code, stmts_code, arms_code, case_code, given_members, loop_targets}
use Rattle.machine_code.specs.Fitting.{UnitCall, of_function, of_block, ExprFits, ExprsFit, PlaceFits, SubscriptsFit}
use Rattle.machine_code.specs.Fitting.{StepFits, ArgumentsFit, StmtFits, StmtsFit, ArmsFit, CaseArmsFit}

-- the code of units is the same if calls fit
pub record SameUnits (P : UnitCall → Type 0) (U V : CodeUnits) : Type 0 where
  pub functions : (f start count : ℕ) (c : Code) → P (of_function f start count)
      → U.functions f start c ≡ V.functions f start c
  pub blocks : (b : BlockCode) (s : UnitFrame) (c : Code) → P (of_block b s) → U.blocks b s c ≡ V.blocks b s c

module _ (P : UnitCall → Type 0) (U V : CodeUnits) (same : SameUnits P U V) (s : UnitFrame) where
  mutual
    pub expr_same : (e : SlotExpr) (c : Code) → ExprFits P s e → expr_code U s e c ≡ expr_code V s e c
    expr_same (constant l) c h = refl
    expr_same (load p) c h = place_same p _ _ c h
    expr_same (compute f es) c h = exprs_same es _ h
    expr_same (call f es) c h =
        exprs_same es _ h.0 ∙ ap (exprs_code V s es) (same.functions f (end_of s) (count_of es) c h.1)
    expr_same (unary op e) c h = expr_same e _ h
    expr_same (binary op l r) c h = expr_same l _ h.0 ∙ ap (expr_code V s l) (expr_same r _ h.1)

    pub exprs_same : (es : SlotExprs) (c : Code) → ExprsFit P s es → exprs_code U s es c ≡ exprs_code V s es c
    exprs_same no_exprs c h = refl
    exprs_same (expr_then e es) c h = expr_same e _ h.0 ∙ ap (expr_code V s e) (exprs_same es c h.1)

    pub place_same : (p : Place) (here : ℕ → Instr) (at : Instr) (c : Code) → PlaceFits P s p
        → place_code U s p here at c ≡ place_code V s p here at c
    place_same (place a ss) here at c h = led_same ss (slot_in s a) here at c h.1

    pub led_same : (ss : Subscripts) (k : ℕ) (here : ℕ → Instr) (at : Instr) (c : Code) → SubscriptsFit P s ss
        → led_code U s ss k here at c ≡ led_code V s ss k here at c
    led_same no_subscripts k here at c h = refl
    led_same (subscript_then e lower count stride ss) k here at c h =
        ap (λ d. d ◂ Push (slot_number k)) (expr_same e _ h.0
        ∙ ap (λ d. expr_code V s e (d ◂ Subscript count stride (number_value lower))) (subscripts_same ss _ h.1))

    pub subscripts_same : (ss : Subscripts) (c : Code) → SubscriptsFit P s ss
        → subscripts_code U s ss c ≡ subscripts_code V s ss c
    subscripts_same no_subscripts c h = refl
    subscripts_same (subscript_then e lower count stride ss) c h =
        expr_same e _ h.0 ∙ ap (λ d. expr_code V s e (d ◂ Subscript count stride (number_value lower)))
        (subscripts_same ss c h.1)

  step_same : (o : Option SlotExpr) (c : Code) → StepFits P s o → step_code U s o c ≡ step_code V s o c
  step_same None c h = refl
  step_same (Some e) c h = expr_same e c h

  inputs_same : (at : ℕ) (xs : List SlotArgument) (c : Code) → ArgumentsFit P s at xs
      → inputs_code U s xs c ≡ inputs_code V s xs c
  inputs_same at [] c h = refl
  inputs_same at (given o e ∷ rest) c h = expr_same e _ h.1 ∙ ap (expr_code V s e) (inputs_same at rest c h.2)
  inputs_same at (copied o p ∷ rest) c h = inputs_same at rest c h.2

  outputs_same : (at : ℕ) (xs : List SlotArgument) (c : Code) → ArgumentsFit P s at xs
      → outputs_code U s at xs c ≡ outputs_code V s at xs c
  outputs_same at [] c h = refl
  outputs_same at (given o e ∷ rest) c h = outputs_same at rest c h.2
  outputs_same at (copied o p ∷ rest) c h =
      ap (λ d. d ◂ LoadRaw (s.start + (at + o))) (place_same p Store StoreAt _ h.1
      ∙ ap (place_code V s p Store StoreAt) (outputs_same at rest c h.2))

  invoke_same : (at : ℕ) (b : BlockCode) (xs : List SlotArgument) (c : Code) → P (of_block b (instance_frame s at))
      → ArgumentsFit P s at xs → invoke_code U s at b xs c ≡ invoke_code V s at b xs c
  invoke_same at b xs c fits h =
      inputs_same at xs _ h ∙ ap (λ d. inputs_code V s xs (stores_code (s.start + at) (given_members xs) d
      ◂ Reverse (length (given_members xs)))) (same.blocks b (instance_frame s at) _ fits
      ∙ ap (V.blocks b (instance_frame s at)) (outputs_same at xs c h))

  mutual
    pub stmt_same : (x : SlotStmt) (w : JumpTargets) (c : Code) → StmtFits P s x → stmt_code U s x w c ≡ stmt_code V s x w c
    stmt_same empty w c h = refl
    stmt_same (assign p e) w c h = ap (λ d. d ◂ Tick) (expr_same e _ h.1
        ∙ ap (expr_code V s e) (place_same p Store StoreAt c h.0))
    stmt_same (invoke a b xs) w c h = ap (λ d. d ◂ Tick) (invoke_same (slot_at s.base a) b xs c h.0 h.1)
    stmt_same (IF arms otherwise) w c h = ap (λ d. d ◂ Tick) (arms_same arms w (length c) _ h.0
        ∙ ap (arms_code V s arms w (length c)) (stmts_same otherwise w c h.1))
    stmt_same (CASE e arms otherwise) w c h = ap (λ d. d ◂ Tick) (expr_same e _ h.0
        ∙ ap (expr_code V s e) (case_same arms w (length c) _ h.1
        ∙ ap (λ d. case_code V s arms w (length c) (d ◂ Pop 1)) (stmts_same otherwise w c h.2)))
    stmt_same (FOR a start limit step body) w c h =
        let k = slot_in s a in
        let left = c ◂ Pop 2 in
        ap (λ d. d ◂ Tick) (expr_same start _ h.1 ∙ ap (expr_code V s start) (expr_same limit _ h.2
        ∙ ap (expr_code V s limit) (step_same step _ h.3 ∙ ap (λ (d : Code). step_code V s step
        (closed (length left) (d ◂ ForTest k (length left) ◂ ForStep k (length left))
        ◂ Jump (length (d ◂ ForTest k (length left))) ◂ ForBegin k))
        (stmts_same body (loop_targets w (length left) 2) (left ◂ LoopBack 0) h.4))))
    stmt_same (WHILE e body) w c h = ap (λ d. d ◂ Tick) (ap (closed (length c)) (expr_same e _ h.0
        ∙ ap (λ d. expr_code V s e (d ◂ JumpIfFalse (length c)))
        (stmts_same body (loop_targets w (length c) 0) (c ◂ LoopBack 0) h.1)))
    stmt_same (REPEAT body e) w c h = ap (λ d. d ◂ Tick) (ap (closed (length c))
        (stmts_same body (loop_targets w (length c) 0) _ h.0
        ∙ ap (stmts_code V s body (loop_targets w (length c) 0)) (expr_same e (c ◂ LoopBack 0 ◂ JumpIfTrue (length c)) h.1)))
    stmt_same EXIT w c h = refl
    stmt_same RETURN w c h = refl

    pub stmts_same : (xs : SlotStmts) (w : JumpTargets) (c : Code) → StmtsFit P s xs
        → stmts_code U s xs w c ≡ stmts_code V s xs w c
    stmts_same no_stmts w c h = refl
    stmts_same (stmt_then x xs) w c h = stmt_same x w _ h.0 ∙ ap (stmt_code V s x w) (stmts_same xs w c h.1)

    pub arms_same : (arms : SlotArms) (w : JumpTargets) (to : ℕ) (c : Code) → ArmsFit P s arms
        → arms_code U s arms w to c ≡ arms_code V s arms w to c
    arms_same no_arms w to c h = refl
    arms_same (arm_then e body arms) w to c h =
        let rest = arms_code U s arms w to c in
        expr_same e _ h.0 ∙ ap (λ d. expr_code V s e (d ◂ JumpIfFalse (length rest)))
        (stmts_same body w (rest ◂ Jump to) h.1)
        ∙ ap (λ (d : Code). expr_code V s e (stmts_code V s body w (d ◂ Jump to) ◂ JumpIfFalse (length d)))
        (arms_same arms w to c h.2)

    pub case_same : (arms : SlotCaseArms) (w : JumpTargets) (to : ℕ) (c : Code) → CaseArmsFit P s arms
        → case_code U s arms w to c ≡ case_code V s arms w to c
    case_same no_case_arms w to c h = refl
    case_same (case_arm_then labels body arms) w to c h =
        let rest = case_code U s arms w to c in
        ap (λ (d : Code). labels_code labels (length (d ◂ Pop 1)) (d ◂ Pop 1 ◂ Jump (length rest)))
        (stmts_same body w (rest ◂ Jump to) h.0)
        ∙ ap (λ (r : Code). labels_code labels (length (stmts_code V s body w (r ◂ Jump to) ◂ Pop 1))
        (stmts_code V s body w (r ◂ Jump to) ◂ Pop 1 ◂ Jump (length r))) (case_same arms w to c h.1)
