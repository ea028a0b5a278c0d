-- The code of a tree that fits a memory resets no slot after it.
use Rattle.std.proofs.Common.{◌≡◌, ℕ, zero, suc, ◌+◌, ◌≤◌, ◌<◌, List, [], ◌∷◌, length, Option, Some, None, Result, Ok}
use Rattle.std.proofs.Common.{Err, refl, sym, subst, ap, ◌∙◌, arith, max}
use Rattle.std.specs.Prelude.{slice_get, slice_set}
use Rattle.st_types.specs.Values.{Datum}
use Rattle.st_types.specs.declared.statement.Label.{Label}
use Rattle.st_types.specs.declared.statement.Label.TheVariants.{Single, Range, Enumerated}
use Rattle.st_meaning.specs.Failures.{Failure}
use Rattle.st_meaning.specs.Operators.{value_of_literal}
use Rattle.machine_code.specs.declared.instr.Instr.{Instr}
use Rattle.machine_code.specs.declared.instr.Instr.TheVariants as instrs
use Rattle.machine_code.specs.declared.instr.Instr.TheVariants.{Load, LoadAt, Store, StoreAt}
use Rattle.slot_trees.specs.SlotTrees.{SlotExpr, constant, load, compute, call, unary, binary, SlotExprs}
use Rattle.slot_trees.specs.SlotTrees.{no_exprs, expr_then, Place, place, Subscripts, no_subscripts, subscript_then}
use Rattle.slot_trees.specs.SlotTrees.{BlockCode, own_block, standard_block, SlotArgument, given, copied, SlotStmt}
use Rattle.slot_trees.specs.SlotTrees.{empty, assign, invoke, IF, CASE, FOR, WHILE, REPEAT, EXIT, RETURN, SlotStmts}
use Rattle.slot_trees.specs.SlotTrees.{no_stmts, stmt_then, SlotArms, no_arms, arm_then, SlotCaseArms}
use Rattle.slot_trees.specs.SlotTrees.{no_case_arms, case_arm_then, SlotFunction, SlotLibrary}
use Rattle.slot_trees.specs.SlotEvaluation.{slot_at}
use Rattle.machine_code.specs.declared.jump_targets.JumpTargets.{JumpTargets}
use Rattle.machine_code.specs.Growing.{Code, ◌◂◌, closed}
use Rattle.machine_code.specs.UnitFrames.{UnitFrame, slot_in, end_of, instance_frame, call_frame}
use Rattle.machine_code.specs.Codes.{CodeUnits, count_of, literal_code, label_code, labels_code, stores_code, expr_code}
use Rattle.machine_code.specs.Codes.{exprs_code, place_code, led_code, subscripts_code, step_code, inputs_code}
use Rattle.machine_code.specs.Codes.{outputs_code, invoke_code, stmt_code, stmts_code, arms_code, case_code}
use Rattle.machine_code.specs.Codes.{given_members, body_targets}
use Rattle.machine_code.specs.Calls.{resets_code, called_code, body_code, instance_code, units_code}
use Rattle.machine_code.specs.Fitting.{UnitCall, of_function, of_block, ExprFits, ExprsFit, PlaceFits, SubscriptsFit}
use Rattle.machine_code.specs.Fitting.{StepFits, ArgumentsFit, StmtFits, StmtsFit, ArmsFit, CaseArmsFit, FunctionFits}
use Rattle.machine_code.specs.Fitting.{IfFunctionFits, IfBodyFits, InstanceFits, CallFitsWithin}
use Rattle.machine_code.specs.Programs.{program_code, program_frame, ProgramFits}
use Rattle.st_compile.specs.Resets.{slot_after_reset, slot_after_resets}

module _ (m : ℕ) where
  -- no slot outside the memory is reset
  pub record Within (c : Code) : Type 0 where
    pub within : slot_after_resets c ≤ m

  -- an instruction that resets no slot after the memory
  abbrev Plain : Instr → Type 0
  Plain i = slot_after_reset i ≤ m

  put_within : (c : Code) (i : Instr) → slot_after_resets c ≤ m → Plain i → slot_after_resets (c ◂ i) ≤ m
  put_within [] i h p = omega arith
  put_within (x ∷ xs) i h p = let rest = put_within xs i (omega arith) p in omega arith

  put : (c : Code) (i : Instr) → Within c → Plain i → Within (c ◂ i)
  put c i h p = record { within = put_within c i h.within p }

  set_within : (c : Code) (at n : ℕ) → slot_after_resets c ≤ m → slot_after_resets (slice_set c at (instrs.LoopBack n))
      ≤ m
  set_within [] at n h = h
  set_within (x ∷ xs) zero n h = omega arith
  set_within (x ∷ xs) (suc at) n h = let rest = set_within xs at n (omega arith) in omega arith

  close : (at : ℕ) (c : Code) → Within c → Within (closed at c)
  close at c h = record { within = set_within c at (length c) h.within }

  literal_within : (r : Result Datum Failure) (c : Code) → Within c → Within (literal_code r c)
  literal_within (Ok v) c h = put c (instrs.Push v) h (omega arith)
  literal_within (Err e) c h = h

  label_within : (l : Label) (to : ℕ) (c : Code) → Within c → Within (label_code l to c)
  label_within (Single n) to c h = put _ _ (put c (instrs.JumpIfEqual to) h (omega arith)) (omega arith)
  label_within (Range x y) to c h =
      put _ _ (put _ _ (put c (instrs.JumpIfWithin to) h (omega arith)) (omega arith)) (omega arith)
  label_within (Enumerated v) to c h = h

  labels_within : (ls : List Label) (to : ℕ) (c : Code) → Within c → Within (labels_code ls to c)
  labels_within [] to c h = h
  labels_within (l ∷ ls) to c h = label_within l to _ (labels_within ls to c h)

  stores_within : (first : ℕ) (os : List ℕ) (c : Code) → Within c → Within (stores_code first os c)
  stores_within first [] c h = h
  stores_within first (o ∷ os) c h = put _ _ (stores_within first os c h) (omega arith)

  resets_within : (k : ℕ) (vs : List Datum) (c : Code) → k + length vs ≤ m → Within c → Within (resets_code k vs c)
  resets_within k [] c le h = h
  resets_within k (v ∷ vs) c le h =
      put _ _ (put _ (instrs.StoreRaw k) (resets_within (suc k) vs c (omega arith) h) (omega arith)) (omega arith)

  -- the code of units resets no other slots if their calls fit
  pub record Units (P : UnitCall → Type 0) (units : CodeUnits) : Type 0 where
    pub functions : (f start count : ℕ) (c : Code) → P (of_function f start count) → Within c
        → Within (units.functions f start c)
    pub blocks : (b : BlockCode) (s : UnitFrame) (c : Code) → P (of_block b s) → Within c → Within (units.blocks b s c)

  module _ (P : UnitCall → Type 0) (units : CodeUnits) (all : Units P units) (s : UnitFrame) where
    mutual
      pub expr_within : (e : SlotExpr) (c : Code) → ExprFits P s e → Within c → Within (expr_code units s e c)
      expr_within (constant l) c f h = literal_within (value_of_literal l) c h
      expr_within (load p) c f h = place_within p Load LoadAt c f (λ k. omega arith) (omega arith) h
      expr_within (compute g es) c f h = exprs_within es _ f (put c _ h (omega arith))
      expr_within (call g es) c f h =
          exprs_within es _ f.0 (all.functions g (end_of s) (count_of es) c f.1 h)
      expr_within (unary op e) c f h = expr_within e _ f (put c (instrs.Unary op) h (omega arith))
      expr_within (binary op l r) c f h =
          expr_within l _ f.0 (expr_within r _ f.1 (put c (instrs.Binary op) h (omega arith)))

      pub exprs_within : (es : SlotExprs) (c : Code) → ExprsFit P s es → Within c → Within (exprs_code units s es c)
      exprs_within no_exprs c f h = h
      exprs_within (expr_then e es) c f h = expr_within e _ f.0 (exprs_within es c f.1 h)

      pub place_within : (p : Place) (here : ℕ → Instr) (at : Instr) (c : Code) → PlaceFits P s p
          → ((k : ℕ) → Plain (here k)) → Plain at → Within c → Within (place_code units s p here at c)
      place_within (place a ss) here at c f known led h = led_within ss (slot_in s a) here at c f.1 known led h

      pub led_within : (ss : Subscripts) (k : ℕ) (here : ℕ → Instr) (at : Instr) (c : Code) → SubscriptsFit P s ss
          → ((k : ℕ) → Plain (here k)) → Plain at → Within c → Within (led_code units s ss k here at c)
      led_within no_subscripts k here at c f known led h = put c (here k) h (known k)
      led_within (subscript_then e lower count stride ss) k here at c f known led h =
          put _ _ (expr_within e _ f.0 (put _ _ (subscripts_within ss _ f.1 (put c at h led)) (omega arith))) (omega
          arith)

      pub subscripts_within : (ss : Subscripts) (c : Code) → SubscriptsFit P s ss → Within c
          → Within (subscripts_code units s ss c)
      subscripts_within no_subscripts c f h = h
      subscripts_within (subscript_then e lower count stride ss) c f h =
          expr_within e _ f.0 (put _ _ (subscripts_within ss c f.1 h) (omega arith))

    step_within : (o : Option SlotExpr) (c : Code) → StepFits P s o → Within c → Within (step_code units s o c)
    step_within None c f h = put c _ h (omega arith)
    step_within (Some e) c f h = expr_within e c f h

    inputs_within : (at : ℕ) (xs : List SlotArgument) (c : Code) → ArgumentsFit P s at xs → Within c
        → Within (inputs_code units s xs c)
    inputs_within at [] c f h = h
    inputs_within at (given o e ∷ rest) c f h = expr_within e _ f.1 (inputs_within at rest c f.2 h)
    inputs_within at (copied o p ∷ rest) c f h = inputs_within at rest c f.2 h

    outputs_within : (at : ℕ) (xs : List SlotArgument) (c : Code) → ArgumentsFit P s at xs → Within c
        → Within (outputs_code units s at xs c)
    outputs_within at [] c f h = h
    outputs_within at (given o e ∷ rest) c f h = outputs_within at rest c f.2 h
    outputs_within at (copied o p ∷ rest) c f h =
        put _ _ (place_within p Store StoreAt _ f.1 (λ k. omega arith) (omega arith) (outputs_within at rest c f.2 h))
        (omega arith)

    invoke_within : (at : ℕ) (b : BlockCode) (xs : List SlotArgument) (c : Code) → P (of_block b (instance_frame s at))
        → ArgumentsFit P s at xs → Within c → Within (invoke_code units s at b xs c)
    invoke_within at b xs c called f h =
        inputs_within at xs _ f (put _ _ (stores_within (s.start + at) (given_members xs) _
        (all.blocks b (instance_frame s at) _ called (outputs_within at xs c f h))) (omega arith))

    mutual
      pub stmt_within : (x : SlotStmt) (w : JumpTargets) (c : Code) → StmtFits P s x → Within c
          → Within (stmt_code units s x w c)
      stmt_within empty w c f h = put c _ h (omega arith)
      stmt_within (assign p e) w c f h =
          put _ _ (expr_within e _ f.1 (place_within p Store StoreAt c f.0 (λ k. omega arith) (omega arith) h)) (omega
          arith)
      stmt_within (invoke a b xs) w c f h = put _ _ (invoke_within (slot_at s.base a) b xs c f.0 f.1 h) (omega arith)
      stmt_within (IF arms otherwise) w c f h =
          put _ _ (arms_within arms w _ _ f.0 (stmts_within otherwise w c f.1 h)) (omega arith)
      stmt_within (CASE e arms otherwise) w c f h =
          put _ _ (expr_within e _ f.0 (case_within arms w _ _ f.1 (put _ _ (stmts_within otherwise w c f.2 h) (omega
          arith)))) (omega arith)
      stmt_within (FOR a start limit step body) w c f h =
          let left = put c (instrs.Pop 2) h (omega arith) in
          let turn = put _ _ (stmts_within body _ _ f.4 (put _ (instrs.LoopBack 0) left (omega arith))) (omega arith) in
          let loop = put _ _ (close _ _ (put _ _ turn (omega arith))) (omega arith) in
          put _ _ (expr_within start _ f.1 (expr_within limit _ f.2 (step_within step _ f.3 (put _ _ loop (omega
          arith))))) (omega arith)
      stmt_within (WHILE e body) w c f h =
          put _ _ (close _ _ (expr_within e _ f.0 (put _ _ (stmts_within body _ _ f.1 (put c (instrs.LoopBack 0) h (omega
          arith))) (omega arith)))) (omega arith)
      stmt_within (REPEAT body e) w c f h =
          put _ _ (close _ _ (stmts_within body _ _ f.0 (expr_within e _ f.1 (put _ _ (put c (instrs.LoopBack 0) h (omega
          arith)) (omega arith))))) (omega arith)
      stmt_within EXIT w c f h = put _ _ (put c _ h (omega arith)) (omega arith)
      stmt_within RETURN w c f h = put _ _ (put _ _ (put c _ h (omega arith)) (omega arith)) (omega arith)

      pub stmts_within : (xs : SlotStmts) (w : JumpTargets) (c : Code) → StmtsFit P s xs → Within c
          → Within (stmts_code units s xs w c)
      stmts_within no_stmts w c f h = h
      stmts_within (stmt_then x xs) w c f h = stmt_within x w _ f.0 (stmts_within xs w c f.1 h)

      pub arms_within : (arms : SlotArms) (w : JumpTargets) (to : ℕ) (c : Code) → ArmsFit P s arms → Within c
          → Within (arms_code units s arms w to c)
      arms_within no_arms w to c f h = h
      arms_within (arm_then e body arms) w to c f h =
          expr_within e _ f.0 (put _ _ (stmts_within body w _ f.1 (put _ _ (arms_within arms w to c f.2 h) (omega
          arith))) (omega arith))

      pub case_within : (arms : SlotCaseArms) (w : JumpTargets) (to : ℕ) (c : Code) → CaseArmsFit P s arms → Within c
          → Within (case_code units s arms w to c)
      case_within no_case_arms w to c f h = h
      case_within (case_arm_then labels body arms) w to c f h =
          labels_within labels _ _ (put _ _ (put _ _ (stmts_within body w _ f.0 (put _ _ (case_within arms w to c f.1
          h)
          (omega arith))) (omega arith)) (omega arith))

  module _ (library : SlotLibrary) where
    called_within : (d start count : ℕ) (c : Code) → Units (CallFitsWithin m library d) (units_code library d)
        → (o : Option SlotFunction) → IfFunctionFits (CallFitsWithin m library d) m o start count → Within c
        → Within (called_code (units_code library d) o start c)
    called_within d start count c all (Some f) h within =
        put _ _ (resets_within start f.fresh _ h.room (stores_within start f.inputs _
        (stmts_within (CallFitsWithin m library d) (units_code library d) all (call_frame start (length f.fresh))
        f.body
        _ _ h.body (put c _ within (omega arith))))) (omega arith)
    called_within d start count c all None h within = absurd h

    body_within : (d : ℕ) (s : UnitFrame) (c : Code) → Units (CallFitsWithin m library d) (units_code library d)
        → (o : Option SlotStmts) → IfBodyFits (CallFitsWithin m library d) o s → Within c
        → Within (body_code (units_code library d) o s c)
    body_within d s c all (Some b) h within =
        stmts_within (CallFitsWithin m library d) (units_code library d) all s b (body_targets (length c)) c h within
    body_within d s c all None h within = absurd h

    instance_within : (d : ℕ) (b : BlockCode) (s : UnitFrame) (c : Code)
        → Units (CallFitsWithin m library d) (units_code library d)
        → InstanceFits (CallFitsWithin m library d) library b s → Within c
        → Within (instance_code library (units_code library d) b s c)
    instance_within d (standard_block b) s c all h within = put c _ within (omega arith)
    instance_within d (own_block i) s c all h within = body_within d s c all (slice_get library.blocks i) h within

    units_within : (d : ℕ) → Units (CallFitsWithin m library d) (units_code library d)
    unfolding CallFitsWithin units_code
    units_within zero = record {
      functions = λ f start count c h within. absurd h;
      blocks = λ b s c h within. absurd h;
    }
    units_within (suc d) = record {
      functions = λ f start count c h within. called_within d start count c (units_within d) (slice_get
          library.functions f) h within;
      blocks = λ b s c h within. instance_within d b s c (units_within d) h within;
    }

    pub program_within : (base size : ℕ) (body : SlotStmts) (d : ℕ) → ProgramFits m library base size body d
        → slot_after_resets (program_code library base size body d) ≤ m
    unfolding program_code
    program_within base size body d h =
        let none : Within [] = record { within = omega arith } in
        (stmts_within (CallFitsWithin m library d) (units_code library d) (units_within d) (program_frame base size)
        body
        (body_targets 0) [] h.body_fits none).within

-- so no memory that the program fits is less than the one that its code needs
pub least_memory : (m : ℕ) (library : SlotLibrary) (base size : ℕ) (body : SlotStmts) (memory needed : ℕ)
    (code same : Code) → ProgramFits m library base size body 64 → code ≡ program_code library base size body 64
    → same ≡ code → needed ≡ max size (slot_after_resets same) → memory ≤ needed → memory ≤ m
least_memory m library base size body memory needed code same fits is equal of le =
    let within = program_within m library base size body 64 fits in
    let room = fits.room in
    let e : slot_after_resets same ≡ slot_after_resets (program_code library base size body 64) =
    ap slot_after_resets (equal ∙ is) in
    omega arith
