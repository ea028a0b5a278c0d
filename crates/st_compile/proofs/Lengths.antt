-- The code of a tree has at least as many instructions as are counted over a library of which some units are left out.
use Rattle.std.proofs.Common.{◌≡◌, ℕ, zero, suc, ◌+◌, ◌*◌, ◌≤◌, List, [], ◌∷◌, length, Option, Some, None, Result, Ok}
use Rattle.std.proofs.Common.{Err, refl, sym, subst, ap, arith}
use Rattle.std.specs.Prelude.{slice_get}
use Rattle.std.proofs.Math.ListN.{length-set}
use Rattle.std.proofs.lemmas.List.{length-append}
use Rattle.st_types.specs.Values.{Datum}
use Rattle.st_types.specs.declared.statement.Label.{Label}
use Rattle.st_types.specs.declared.statement.Label.TheVariants.{Single, Range, Enumerated}
use Rattle.st_meaning.specs.Failures.{Failure}
use Rattle.st_meaning.specs.Operators.{value_of_literal}
use Rattle.machine_code.specs.declared.instr.Instr.{Instr}
use Rattle.machine_code.specs.declared.instr.Instr.TheVariants.{LoopBack, LoadRaw}
use Rattle.slot_trees.specs.LibraryViews.{KeptLibrary, IsKeptOf}
use Rattle.slot_trees.specs.SlotTrees.{SlotExpr, constant, load, compute, call, unary, binary, SlotExprs}
use Rattle.slot_trees.specs.SlotTrees.{no_exprs, expr_then, Place, place, Subscripts, no_subscripts, subscript_then}
use Rattle.slot_trees.specs.SlotTrees.{BlockCode, own_block, standard_block, SlotArgument, given, copied, SlotStmt}
use Rattle.slot_trees.specs.SlotTrees.{empty, assign, invoke, IF, CASE, FOR, WHILE, REPEAT, EXIT, RETURN, SlotStmts}
use Rattle.slot_trees.specs.SlotTrees.{no_stmts, stmt_then, SlotArms, no_arms, arm_then, SlotCaseArms}
use Rattle.slot_trees.specs.SlotTrees.{no_case_arms, case_arm_then, SlotFunction, SlotLibrary}
use Rattle.slot_trees.specs.SlotEvaluation.{slot_at}
use Rattle.machine_code.specs.declared.jump_targets.JumpTargets.{JumpTargets}
use Rattle.machine_code.specs.Growing.{Code, ◌◂◌, closed}
use Rattle.machine_code.specs.UnitFrames.{UnitFrame, slot_in, end_of, instance_frame, call_frame}
use Rattle.machine_code.specs.Codes.{CodeUnits, literal_code, label_code, labels_code, stores_code, expr_code}
use Rattle.machine_code.specs.Codes.{exprs_code}
use Rattle.machine_code.specs.Codes.{place_code, led_code, subscripts_code, step_code, inputs_code, outputs_code}
use Rattle.machine_code.specs.Codes.{invoke_code, stmt_code, stmts_code, arms_code, case_code, given_members, body_targets}
use Rattle.machine_code.specs.Codes.{loop_targets}
use Rattle.machine_code.specs.Calls.{resets_code, called_code, body_code, instance_code, units_code}
use Rattle.machine_code.specs.Programs.{program_code, program_frame}
use Rattle.machine_code.proofs.Growth.{units_grow}
use Rattle.st_compile.specs.Lengths.{UnitLengths, literal_length, label_length, labels_length, expr_length}
use Rattle.st_compile.specs.Lengths.{exprs_length}
use Rattle.st_compile.specs.Lengths.{place_length, led_length, subscripts_length, step_length, inputs_length}
use Rattle.st_compile.specs.Lengths.{outputs_length, invoke_length, stmt_length, stmts_length, arms_length}
use Rattle.st_compile.specs.Lengths.{case_length}
use Rattle.st_compile.specs.Lengths.{function_length, if_function_length, if_body_length, block_length, units_length}
use Rattle.machine_code.proofs.Places.{place_put}

-- the same number of instructions, counted in another order
counted : {a b k : ℕ} → a ≤ k → a ≡ b → b ≤ k
counted {a} {b} {k} le e = omega arith

-- one more instruction
more : (n : ℕ) (c : Code) (i : Instr) → n ≤ length c → 1 + n ≤ length (c ◂ i)
more n c i h = let l = place_put c i in omega arith

-- a jump back that gets its target does not count
closing : (n at : ℕ) (c : Code) → n ≤ length c → n ≤ length (closed at c)
closing n at c h = let l = length-set c at (LoopBack (length c)) in omega arith

literal_long : (r : Result Datum Failure) (n : ℕ) (c : Code) → n ≤ length c
    → literal_length r + n ≤ length (literal_code r c)
literal_long (Ok v) n c h = more n c _ h
literal_long (Err e) n c h = omega arith

label_long : (l : Label) (to n : ℕ) (c : Code) → n ≤ length c → label_length l + n ≤ length (label_code l to c)
label_long (Single x) to n c h = counted (more _ _ _ (more _ _ _ h)) (omega arith)
label_long (Range x y) to n c h = counted (more _ _ _ (more _ _ _ (more _ _ _ h))) (omega arith)
label_long (Enumerated v) to n c h = omega arith

labels_long : (ls : List Label) (to n : ℕ) (c : Code) → n ≤ length c
    → labels_length ls + n ≤ length (labels_code ls to c)
labels_long [] to n c h = omega arith
labels_long (l ∷ ls) to n c h = counted (label_long l to _ _ (labels_long ls to n c h)) (omega arith)

stores_long : (first : ℕ) (os : List ℕ) (n : ℕ) (c : Code) → n ≤ length c
    → length os + n ≤ length (stores_code first os c)
stores_long first [] n c h = omega arith
stores_long first (o ∷ os) n c h = counted (more _ _ _ (stores_long first os n c h)) (omega arith)

resets_long : (k : ℕ) (vs : List Datum) (n : ℕ) (c : Code) → n ≤ length c
    → 2 * length vs + n ≤ length (resets_code k vs c)
resets_long k [] n c h = omega arith
resets_long k (v ∷ vs) n c h = counted (more _ _ _ (more _ _ _ (resets_long (suc k) vs n c h))) (omega arith)

-- the code of units has at least this many instructions
pub record AtLeast (lengths : UnitLengths) (units : CodeUnits) : Type 0 where
  pub functions : (f start n : ℕ) (c : Code) → n ≤ length c
      → lengths.functions f + n ≤ length (units.functions f start c)
  pub blocks : (b : BlockCode) (s : UnitFrame) (n : ℕ) (c : Code) → n ≤ length c
      → lengths.blocks b + n ≤ length (units.blocks b s c)

module _ (u : UnitLengths) (units : CodeUnits) (least : AtLeast u units) (s : UnitFrame) where
  mutual
    pub expr_long : (e : SlotExpr) (n : ℕ) (c : Code) → n ≤ length c
        → expr_length u e + n ≤ length (expr_code units s e c)
    expr_long (constant l) n c h = literal_long (value_of_literal l) n c h
    expr_long (load p) n c h = place_long p _ _ n c h
    expr_long (compute f es) n c h = counted (exprs_long es _ _ (more _ _ _ h)) (omega arith)
    expr_long (call f es) n c h = counted (exprs_long es _ _ (least.functions f (end_of s) n c h)) (omega arith)
    expr_long (unary op e) n c h = counted (expr_long e _ _ (more _ _ _ h)) (omega arith)
    expr_long (binary op l r) n c h = counted (expr_long l _ _ (expr_long r _ _ (more _ _ _ h))) (omega arith)

    pub exprs_long : (es : SlotExprs) (n : ℕ) (c : Code) → n ≤ length c
        → exprs_length u es + n ≤ length (exprs_code units s es c)
    exprs_long no_exprs n c h = omega arith
    exprs_long (expr_then e es) n c h = counted (expr_long e _ _ (exprs_long es n c h)) (omega arith)

    pub place_long : (p : Place) (here : ℕ → Instr) (at : Instr) (n : ℕ) (c : Code) → n ≤ length c
        → place_length u p + n ≤ length (place_code units s p here at c)
    place_long (place a ss) here at n c h = led_long ss (slot_in s a) here at n c h

    pub led_long : (ss : Subscripts) (k : ℕ) (here : ℕ → Instr) (at : Instr) (n : ℕ) (c : Code) → n ≤ length c
        → led_length u ss + n ≤ length (led_code units s ss k here at c)
    led_long no_subscripts k here at n c h = more n c _ h
    led_long (subscript_then e lower count stride ss) k here at n c h =
        counted (more _ _ _ (expr_long e _ _ (more _ _ _ (subscripts_long ss _ _ (more _ _ _ h))))) (omega arith)

    pub subscripts_long : (ss : Subscripts) (n : ℕ) (c : Code) → n ≤ length c
        → subscripts_length u ss + n ≤ length (subscripts_code units s ss c)
    subscripts_long no_subscripts n c h = omega arith
    subscripts_long (subscript_then e lower count stride ss) n c h =
        counted (expr_long e _ _ (more _ _ _ (subscripts_long ss n c h))) (omega arith)

  step_long : (o : Option SlotExpr) (n : ℕ) (c : Code) → n ≤ length c
      → step_length u o + n ≤ length (step_code units s o c)
  step_long None n c h = more n c _ h
  step_long (Some e) n c h = expr_long e n c h

  inputs_long : (xs : List SlotArgument) (n : ℕ) (c : Code) → n ≤ length c
      → inputs_length u xs + n ≤ length (inputs_code units s xs c)
  inputs_long [] n c h = omega arith
  inputs_long (given o e ∷ rest) n c h = counted (expr_long e _ _ (inputs_long rest n c h)) (omega arith)
  inputs_long (copied o p ∷ rest) n c h = inputs_long rest n c h

  outputs_long : (at : ℕ) (xs : List SlotArgument) (n : ℕ) (c : Code) → n ≤ length c
      → outputs_length u xs + n ≤ length (outputs_code units s at xs c)
  outputs_long at [] n c h = omega arith
  outputs_long at (given o e ∷ rest) n c h = outputs_long at rest n c h
  outputs_long at (copied o p ∷ rest) n c h =
      counted (more _ _ _ (place_long p _ _ _ _ (outputs_long at rest n c h))) (omega arith)

  invoke_long : (at : ℕ) (b : BlockCode) (xs : List SlotArgument) (n : ℕ) (c : Code) → n ≤ length c
      → invoke_length u b xs + n ≤ length (invoke_code units s at b xs c)
  invoke_long at b xs n c h =
      counted (inputs_long xs _ _ (more _ _ _ (stores_long (s.start + at) (given_members xs) _ _
      (least.blocks b (instance_frame s at) _ _ (outputs_long at xs n c h))))) (omega arith)

  mutual
    pub stmt_long : (x : SlotStmt) (w : JumpTargets) (n : ℕ) (c : Code) → n ≤ length c
        → stmt_length u x + n ≤ length (stmt_code units s x w c)
    stmt_long empty w n c h = more n c _ h
    stmt_long (assign p e) w n c h =
        counted (more _ _ _ (expr_long e _ _ (place_long p _ _ n c h))) (omega arith)
    stmt_long (invoke a b xs) w n c h = counted (more _ _ _ (invoke_long (slot_at s.base a) b xs n c h)) (omega arith)
    stmt_long (IF arms otherwise) w n c h =
        counted (more _ _ _ (arms_long arms w (length c) _ _ (stmts_long otherwise w n c h))) (omega arith)
    stmt_long (CASE e arms otherwise) w n c h =
        counted (more _ _ _ (expr_long e _ _ (case_long arms w (length c) _ _
        (more _ _ _ (stmts_long otherwise w n c h))))) (omega arith)
    stmt_long (FOR a start limit step body) w n c h =
        counted (more _ _ _ (expr_long start _ _ (expr_long limit _ _ (step_long step _ _ (more _ _ _ (more _ _ _
        (closing _ _ _ (more _ _ _ (more _ _ _ (stmts_long body _ _ _ (more _ _ _ (more _ _ _ h)))))))))))) (omega
        arith)
    stmt_long (WHILE e body) w n c h =
        counted (more _ _ _ (closing _ _ _ (expr_long e _ _ (more _ _ _ (stmts_long body _ _ _ (more _ _ _ h))))))
        (omega arith)
    stmt_long (REPEAT body e) w n c h =
        counted (more _ _ _ (closing _ _ _ (stmts_long body _ _ _ (expr_long e _ _ (more _ _ _ (more _ _ _ h))))))
        (omega arith)
    stmt_long EXIT w n c h = counted (more _ _ _ (more _ _ _ h)) (omega arith)
    stmt_long RETURN w n c h = counted (more _ _ _ (more _ _ _ (more _ _ _ h))) (omega arith)

    pub stmts_long : (xs : SlotStmts) (w : JumpTargets) (n : ℕ) (c : Code) → n ≤ length c
        → stmts_length u xs + n ≤ length (stmts_code units s xs w c)
    stmts_long no_stmts w n c h = omega arith
    stmts_long (stmt_then x xs) w n c h = counted (stmt_long x w _ _ (stmts_long xs w n c h)) (omega arith)

    pub arms_long : (arms : SlotArms) (w : JumpTargets) (to n : ℕ) (c : Code) → n ≤ length c
        → arms_length u arms + n ≤ length (arms_code units s arms w to c)
    arms_long no_arms w to n c h = omega arith
    arms_long (arm_then e body arms) w to n c h =
        counted (expr_long e _ _ (more _ _ _ (stmts_long body w _ _ (more _ _ _ (arms_long arms w to n c h)))))
        (omega arith)

    pub case_long : (arms : SlotCaseArms) (w : JumpTargets) (to n : ℕ) (c : Code) → n ≤ length c
        → case_length u arms + n ≤ length (case_code units s arms w to c)
    case_long no_case_arms w to n c h = omega arith
    case_long (case_arm_then labels body arms) w to n c h =
        counted (labels_long labels _ _ _ (more _ _ _ (more _ _ _ (stmts_long body w _ _ (more _ _ _
        (case_long arms w to n c h)))))) (omega arith)

module _ (kept : KeptLibrary) (whole : SlotLibrary) (is : IsKeptOf kept whole) where
  -- units that are left out or not there do not count
  not_counted : (d f start n : ℕ) (c : Code) → n ≤ length c
      → 0 + n ≤ length (called_code (units_code whole d) (slice_get whole.functions f) start c)
  unfolding units_code
  not_counted d f start n c h = let g = ((units_grow whole (suc d)).functions f start c).longer in omega arith

  block_not_counted : (d i : ℕ) (s : UnitFrame) (n : ℕ) (c : Code) → n ≤ length c
      → 0 + n ≤ length (body_code (units_code whole d) (slice_get whole.blocks i) s c)
  unfolding units_code
  block_not_counted d i s n c h = let g = ((units_grow whole (suc d)).blocks (own_block i) s c).longer in omega arith

  module _ (d : ℕ) (least : AtLeast (units_length kept d) (units_code whole d)) where
    called_long : (o : Option (Option SlotFunction)) (f start n : ℕ) (c : Code) → slice_get kept.functions f ≡ o
        → n ≤ length c → if_function_length (units_length kept d) o + n
        ≤ length (called_code (units_code whole d) (slice_get whole.functions f) start c)
    called_long (Some (Some g)) f start n c at h =
        subst (λ o. function_length (units_length kept d) g + n ≤ length (called_code (units_code whole d) o start c))
        (sym (is.functions f g at))
        (counted (more _ _ _ (resets_long start g.fresh _ _ (stores_long start g.inputs _ _
        (stmts_long (units_length kept d) (units_code whole d) least (call_frame start (length g.fresh)) g.body _ _ _
        (more _ _ _ h))))) (omega arith))
    called_long (Some None) f start n c at h = not_counted d f start n c h
    called_long None f start n c at h = not_counted d f start n c h

    body_long : (o : Option (Option SlotStmts)) (i : ℕ) (s : UnitFrame) (n : ℕ) (c : Code) → slice_get kept.blocks i ≡ o
        → n ≤ length c → if_body_length (units_length kept d) o + n
        ≤ length (body_code (units_code whole d) (slice_get whole.blocks i) s c)
    body_long (Some (Some b)) i s n c at h =
        subst (λ o. stmts_length (units_length kept d) b + n ≤ length (body_code (units_code whole d) o s c))
        (sym (is.blocks i b at))
        (stmts_long (units_length kept d) (units_code whole d) least s b (body_targets (length c)) n c h)
    body_long (Some None) i s n c at h = block_not_counted d i s n c h
    body_long None i s n c at h = block_not_counted d i s n c h

    instance_long : (b : BlockCode) (s : UnitFrame) (n : ℕ) (c : Code) → n ≤ length c
        → block_length (units_length kept d) kept b + n ≤ length (instance_code whole (units_code whole d) b s c)
    instance_long (standard_block b) s n c h = more n c _ h
    instance_long (own_block i) s n c h = body_long (slice_get kept.blocks i) i s n c refl h

  pub units_long : (d : ℕ) → AtLeast (units_length kept d) (units_code whole d)
  unfolding units_length units_code
  units_long zero = record { functions = λ f start n c h. omega arith; blocks = λ b s n c h. omega arith }
  units_long (suc d) = record {
    functions = λ f start n c h. called_long d (units_long d) (slice_get kept.functions f) f start n c refl h;
    blocks = λ b s n c h. instance_long d (units_long d) b s n c h;
  }

  -- so has the code of a program
  pub program_long : (base size : ℕ) (body : SlotStmts) (d : ℕ)
      → stmts_length (units_length kept d) body ≤ length (program_code whole base size body d)
  unfolding program_code
  program_long base size body d =
      counted (stmts_long (units_length kept d) (units_code whole d) (units_long d) (program_frame base size) body
      (body_targets 0) 0 [] (omega arith)) (omega arith)
