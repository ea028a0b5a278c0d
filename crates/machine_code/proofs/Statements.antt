-- The machine does what statements do.
use Rattle.std.proofs.Common.{◌≡◌, ℕ, zero, suc, ◌+◌, ◌≤◌, ◌<◌, Bool, true, false, if◌then◌else◌, List, [], ◌∷◌, ◌++◌}
use Rattle.std.proofs.Common.{length, drop, map, Option, Some, None, refl, ap, ◌∙◌, subst, arith}
use Rattle.std.specs.Prelude.{ℤ, pos, negsuc, ◌||◌}
use Rattle.std.specs.List.{list_any}
use Rattle.st_types.specs.Values.{Datum}
use Rattle.st_types.specs.declared.statement.Label.{Label}
use Rattle.st_types.specs.declared.statement.Label.TheVariants.{Single, Range, Enumerated}
use Rattle.st_meaning.specs.Failures.{StuckFaults, ill_typed}
use Rattle.st_meaning.specs.Operators.{number_of}
use Rattle.st_meaning.specs.Ticks.{Run, follow, ◌>>=◌, give}
use Rattle.st_meaning.specs.Loops.{EndOf, IterationOf, goes_on, exits, returns, continue_with, turned, stepped_on}
use Rattle.st_meaning.specs.Loops as loops
use Rattle.st_meaning.specs.Execution.{label_holds}
use Rattle.slot_trees.specs.SlotTrees as arguments
use Rattle.slot_trees.specs.SlotTrees.{SlotExpr, SlotArgument, BlockCode, SlotStmt, empty, assign, invoke, IF, CASE}
use Rattle.slot_trees.specs.SlotTrees.{FOR}
use Rattle.slot_trees.specs.SlotTrees.{WHILE, REPEAT, EXIT, RETURN, SlotStmts, no_stmts, stmt_then, SlotArms, no_arms}
use Rattle.slot_trees.specs.SlotTrees.{arm_then, SlotCaseArms, no_case_arms, case_arm_then}
use Rattle.slot_trees.specs.SlotEvaluation.{slot_at}
use Rattle.slot_trees.specs.SlotRuns.{state_of}
use Rattle.machine_code.specs.declared.instr.Instr.TheVariants.{Tick, Push, Store, StoreAt, Reverse, Jump, JumpIfFalse, JumpIfTrue}
use Rattle.machine_code.specs.declared.instr.Instr.TheVariants.{LoopBack, Pop, ForBegin, ForTest, ForStep, JumpIfEqual, JumpIfWithin}
use Rattle.machine_code.specs.Tracking.{Tracked, tracking}
use Rattle.machine_code.specs.Machine.{Ending, on_result, on_step, jump_down, runs_within}
use Rattle.machine_code.specs.Machine as machine
use Rattle.machine_code.specs.declared.jump_targets.JumpTargets.{JumpTargets}
use Rattle.machine_code.specs.Growing.{Code, ◌◂◌, closed}
use Rattle.machine_code.specs.UnitFrames.{UnitFrame, end_of, instance_frame}
use Rattle.machine_code.specs.Codes.{CodeUnits, body_targets, loop_targets, number_value, label_code, labels_code, stores_code}
use Rattle.machine_code.specs.Codes.{given_members, expr_code, place_code, step_code, outputs_code}
use Rattle.machine_code.specs.Codes.{invoke_code, stmt_code, stmts_code, arms_code, case_code}
use Rattle.machine_code.specs.Fitting.{UnitCall, of_block, AllBelow, ArgumentsFit, StepFits, StmtFits, StmtsFit, ArmsFit}
use Rattle.machine_code.specs.Fitting.{CaseArmsFit}
use Rattle.machine_code.specs.MarkedEvaluation.{MarkedUnits, MarkedScope, marked_value}
use Rattle.machine_code.specs.MarkedExecution.{MarkedEnd, marked_put, marked_loop, marked_guarded}
use Rattle.machine_code.specs.MarkedExecution.{marked_stored, marked_step, marked_runs_on, marked_step_of}
use Rattle.machine_code.specs.MarkedExecution.{marked_step_on, marked_invoking, marked_exec, marked_exec_all}
use Rattle.machine_code.specs.MarkedExecution.{marked_exec_arms, marked_exec_case}
use Rattle.machine_code.proofs.Places.{Grows, Has, same_code, grows_on, put, put_on, close_on, part, opened, length_closed}
use Rattle.machine_code.proofs.Gives.{Gives, by_eq, going, given, bind, ticking, either, apart}
use Rattle.machine_code.proofs.LoopGives.{TurnFit, turn_on, loop_runs, guarded_runs, foot_on}
use Rattle.machine_code.proofs.LoopGives.{until_runs}
use Rattle.machine_code.proofs.Growth.{UnitsGrow, label_grows, labels_grow, stores_grow, expr_grows, place_grows}
use Rattle.machine_code.proofs.Growth.{step_grows, inputs_grow, outputs_grow, invoke_grows, stmt_grows, stmts_grow}
use Rattle.machine_code.proofs.Growth.{arms_grow, case_grows}
use Rattle.machine_code.proofs.Regions.{Holds, holds_at, holds_back}
use Rattle.machine_code.proofs.Steps.{G, stacked, tops, down, stepped, one, ticks_back, storing, looking}
use Rattle.machine_code.proofs.UnitCalls.{UnitsRun}
use Rattle.machine_code.proofs.Expressions as expressions
use Rattle.machine_code.proofs.Arguments.{values_of, stored_runs, storing_place, inputs_run, outputs_run}

-- the ways lead on from this code, and RETURN takes away the values of running FORs
pub record Fine (w : JumpTargets) (c : Code) (st rst : List Datum) : Type 0 where
  pub exit : w.exit ≤ length c
  pub back : w.back ≤ length c
  pub held : drop w.held st ≡ rst

fine_on : {w : JumpTargets} {c d : Code} {st rst : List Datum} → Grows c d → Fine w c st rst → Fine w d st rst
fine_on g h = record {
  exit = (let l = g.longer in let m = h.exit in omega arith);
  back = (let l = g.longer in let m = h.back in omega arith);
  held = h.held;
}

fine_loop : (w : JumpTargets) (c : Code) (st rst : List Datum) → Fine w c st rst
    → Fine (loop_targets w (length c) 0) (c ◂ LoopBack 0) st rst
fine_loop w c st rst fine = fine_on (put c (LoopBack 0)) (record {
  exit = omega arith;
  back = fine.back;
  held = (let z : w.held + 0 ≡ w.held = omega arith in ap (λ n. drop n st) z ∙ fine.held);
})

fine_for : (w : JumpTargets) (c : Code) (st rst : List Datum) (d n : Datum) → Fine w c st rst
    → Fine (loop_targets w (length (c ◂ Pop 2)) 2) (c ◂ Pop 2 ◂ LoopBack 0) (d ∷ n ∷ st) rst
fine_for w c st rst d n fine = fine_on (put (c ◂ Pop 2) (LoopBack 0)) (record {
  exit = omega arith;
  back = (let g = put c (Pop 2) in let l = g.longer in let m = fine.back in omega arith);
  held = (let z : w.held + 2 ≡ suc (suc w.held) = omega arith in ap (λ j. drop j (d ∷ n ∷ st)) z ∙ fine.held);
})

pub fine_body : (c : Code) (st : List Datum) → Fine (body_targets (length c)) c st st
fine_body c st = record { exit = omega arith; back = omega arith; held = refl }

-- members after a first slot
all_behind : (n at : ℕ) (xs : List (ℕ × Datum)) (ks : List ℕ) → map (λ e. e.0) xs ≡ ks
    → AllBelow n (map (λ k. at + k) ks) → AllBelow n (map (λ e. at + e.0) xs)
all_behind n at [] ks e h = tt
all_behind n at (x ∷ xs) [] e h = absurd (cc)
all_behind n at (x ∷ xs) (k ∷ ks) e h =
    let first : x.0 ≡ k = cc in
    let rest : map (λ e. e.0) xs ≡ ks = cc in
    ((let l = h.0 in omega arith), all_behind n at xs ks rest h.1)

as_many : (xs : List (ℕ × Datum)) (ks : List ℕ) → map (λ e. e.0) xs ≡ ks → length (values_of xs) ≡ length ks
as_many [] [] e = refl
as_many [] (k ∷ ks) e = absurd (cc)
as_many (x ∷ xs) [] e = absurd (cc)
as_many (x ∷ xs) (k ∷ ks) e = (let rest : map (λ e. e.0) xs ≡ ks = cc in ap suc (as_many xs ks rest))

nonzero_runs : {B : Type 0} (t : StuckFaults) (d : ℤ) (f : Unit {0} → Run B) (b : ℕ) (m : Tracked) (next : Ending Tracked)
    {Good : B → Tracked → Type 0} {on : B → Tracked → ℕ → Ending Tracked} → Gives (f tt b) b Good on next
    → Gives (follow (loops.nonzero d b) f) b Good on (on_result t (machine.nonzero d) m (λ _. next))
nonzero_runs t (pos zero) f b m next h = record { by = (m, refl) }
nonzero_runs t (pos (suc n)) f b m next h = h
nonzero_runs t (negsuc n) f b m next h = h

module _ (t : StuckFaults) (now memory : ℕ) (small : memory ≤ 65536) (F : Code) (units : MarkedUnits) (codes : CodeUnits)
    (CallFits : UnitCall → Type 0) (run : UnitsRun t now memory F units codes CallFits) (s : UnitFrame)
    (room : end_of s ≤ memory) (told : ℕ) (below : Tracked) where
  abbrev scope : MarkedScope
  scope = record { units = units; base = s.base; stuck_faults = t }

  abbrev grow : UnitsGrow codes
  grow = run.grow

  -- the memory holds the state
  abbrev Fit : Tracked → Tracked → Type 0
  Fit vs m = Holds memory s told below vs m

  abbrev Ended : MarkedEnd → Tracked → Type 0
  Ended e m = Holds memory s told below (state_of e) m

  abbrev At : Code → List Datum → Tracked → ℕ → Ending Tracked
  At c st m a = G t now F (length c) st m a

  -- how a run goes on after statements
  abbrev pub Ends : JumpTargets → Code → List Datum → List Datum → MarkedEnd → Tracked → ℕ → Ending Tracked
  Ends w c st rst (goes_on us) m a = G t now F (length c) st m a
  Ends w c st rst (exits us) m a = G t now F w.exit st m a
  Ends w c st rst (returns us) m a = G t now F w.back rst m a

  -- a jump down after statements
  ends_jump : (w : JumpTargets) (c : Code) (to : ℕ) (d : Code) (st rst : List Datum) → Has F (length d) (d ◂ Jump to)
      → to ≡ length c → length c ≤ length d → (e : MarkedEnd) (m : Tracked) (a : ℕ)
      → Ends w (d ◂ Jump to) st rst e m a ≡ Ends w c st rst e m a
  ends_jump w c to d st rst has is le (goes_on us) m a =
      stepped t now F d (Jump to) st m a has ∙ down t to (length d) m (G t now F to st m a) (omega arith)
      ∙ ap (λ k. G t now F k st m a) is
  ends_jump w c to d st rst has is le (exits us) m a = refl
  ends_jump w c to d st rst has is le (returns us) m a = refl

  -- a body in the place of its call: each end leads to the code after it
  pub ends_call : (c : Code) (st : List Datum) (e : MarkedEnd) (m : Tracked) (a : ℕ)
      → Ends (body_targets (length c)) c st st e m a ≡ G t now F (length c) st m a
  ends_call c st (goes_on us) m a = refl
  ends_call c st (exits us) m a = refl
  ends_call c st (returns us) m a = refl

  -- the end of a loop over statements that are inside it
  turned_ends : (w : JumpTargets) (c d : Code) (n : ℕ) (st hst rst : List Datum) (at : ℕ)
      → ((m : Tracked) (a : ℕ) → G t now F at hst m a ≡ G t now F (length c) st m a) → (e : MarkedEnd) (m : Tracked)
      (a : ℕ)
      → Ends (loop_targets w at n) d hst rst e m a
      ≡ turn_on Tracked Tracked Fit (Ends w c st rst) (At d hst) (turned e) m a
  turned_ends w c d n st hst rst at leave (goes_on us) m a = refl
  turned_ends w c d n st hst rst at leave (exits us) m a = leave m a
  turned_ends w c d n st hst rst at leave (returns us) m a = refl

  -- the end of a body whose condition is at the foot
  foot_ends : (w : JumpTargets) (c h : Code) (st rst : List Datum) (e : MarkedEnd) (m : Tracked) (a : ℕ)
      → Ends (loop_targets w (length c) 0) h st rst e m a
      ≡ foot_on Tracked Tracked Fit (Ends w c st rst) (At h st) e m a
  foot_ends w c h st rst (goes_on us) m a = refl
  foot_ends w c h st rst (exits us) m a = refl
  foot_ends w c h st rst (returns us) m a = refl

  label_runs : (l : Label) (to : ℕ) (c : Code) (st : List Datum) (v : Datum) (m : Tracked) (b : ℕ) → to ≤ length c
      → Has F (length c) (label_code l to c) → G t now F (length (label_code l to c)) (v ∷ st) m b
      ≡ (if label_holds v.number l then G t now F to (v ∷ st) m b else G t now F (length c) (v ∷ st) m b)
  label_runs (Single n) to c st v m b le has =
      let x = number_value (number_of n) in
      stepped t now F (c ◂ JumpIfEqual to) (Push x) (v ∷ st) m b (part (put c _) (same_code _) has)
      ∙ stepped t now F c (JumpIfEqual to) (x ∷ v ∷ st) m b (part (same_code c) (put _ _) has)
      ∙ ap (λ e. if label_holds v.number (Single n) then e else G t now F (length c) (v ∷ st) m b)
      (down t to (length c) m (G t now F to (v ∷ st) m b) le)
  label_runs (Range least greatest) to c st v m b le has =
      let x = number_value (number_of least) in
      let y = number_value (number_of greatest) in
      stepped t now F (c ◂ JumpIfWithin to ◂ Push y) (Push x) (v ∷ st) m b (part (put_on _ (put c _)) (same_code _) has)
      ∙ stepped t now F (c ◂ JumpIfWithin to) (Push y) (x ∷ v ∷ st) m b (part (put c _) (put _ _) has)
      ∙ stepped t now F c (JumpIfWithin to) (y ∷ x ∷ v ∷ st) m b (part (same_code c) (put_on _ (put _ _)) has)
      ∙ ap (λ e. if label_holds v.number (Range least greatest) then e else G t now F (length c) (v ∷ st) m b)
      (down t to (length c) m (G t now F to (v ∷ st) m b) le)
  label_runs (Enumerated x) to c st v m b le has = refl

  one_label : (x y : Bool) (e d : Ending Tracked) {f : Ending Tracked} → f ≡ (if y then e else d)
      → (if x then e else f) ≡ (if x || y then e else d)
  one_label true y e d g = refl
  one_label false y e d g = g

  labels_run : (ls : List Label) (to : ℕ) (c : Code) (st : List Datum) (v : Datum) (m : Tracked) (b : ℕ) → to ≤ length c
      → Has F (length c) (labels_code ls to c) → G t now F (length (labels_code ls to c)) (v ∷ st) m b
      ≡ (if list_any (label_holds v.number) ls then G t now F to (v ∷ st) m b else G t now F (length c) (v ∷ st) m b)
  labels_run [] to c st v m b le has = refl
  labels_run (l ∷ ls) to c st v m b le has =
      let d = labels_code ls to c in
      let g = labels_grow ls to c in
      label_runs l to d st v m b (let h = g.longer in omega arith) (part g (same_code _) has)
      ∙ one_label (label_holds v.number l) (list_any (label_holds v.number) ls) _ _
      (labels_run ls to c st v m b le (part (same_code c) (label_grows l to d) has))

  behind_runs : (w : JumpTargets) (c d : Code) (st rst : List Datum) (next : Tracked → Run MarkedEnd) (e : MarkedEnd)
      (m : Tracked) (b : ℕ) → Ended e m
      → ((us : Tracked) → Holds memory s told below us m → Gives (next us b) b Ended (Ends w c st rst) (At d st m b))
      → Gives (continue_with e next b) b Ended (Ends w c st rst) (Ends w d st rst e m b)
  behind_runs w c d st rst next (goes_on us) m b fit h = h us fit
  behind_runs w c d st rst next (exits us) m b fit h = given m fit
  behind_runs w c d st rst next (returns us) m b fit h = given m fit

  -- the step of a FOR: the code after it needs its number alone
  step_runs : {B : Type 0} (o : Option SlotExpr) (c : Code) (st : List Datum) (f : ℤ × Tracked → Run B)
      (Good : B → Tracked → Type 0) (on : B → Tracked → ℕ → Ending Tracked) (vs m : Tracked) (b : ℕ)
      → StepFits CallFits s o → Holds memory s told below vs m → Has F (length c) (step_code codes s o c)
      → ((v : Datum) (us n : Tracked) (a : ℕ) → Holds memory s told below us n
      → Gives (f (v.number, us) a) a Good on (At c (v ∷ st) n a))
      → Gives (follow (marked_step scope vs o b) f) b Good on (At (step_code codes s o c) st m b)
  step_runs None c st f Good on vs m b fits holds has next =
      one t now F c (Push (number_value (pos 1))) st m b has (next (number_value (pos 1)) vs m b holds)
  step_runs (Some e) c st f Good on vs m b fits holds has next =
      apart (marked_value scope vs e b) (λ r. give (r.0.number, r.1)) f
      (bind _ (expressions.expr_runs t now memory small F units codes CallFits run s room told below e c st vs m b fits
      holds has) (λ v n a good le. next v.0 v.1 n a good))

  -- a FOR after its start, limit and step
  module _ (k : ℕ) (lt : k < s.size) (w : JumpTargets) (c : Code) (st rst : List Datum) (inner : Code) (i n d : Datum)
      (body : Tracked → Run MarkedEnd) where
    abbrev left : Code
    left = c ◂ Pop 2

    abbrev held : List Datum
    held = d ∷ n ∷ st

    abbrev turn : Code
    turn = inner ◂ ForTest (s.start + k) (length left)

    abbrev whole : Code
    whole = turn ◂ ForStep (s.start + k) (length left)

    abbrev begun : Code
    begun = closed (length left) whole ◂ Jump (length turn)

    module _ (grown : Grows (left ◂ LoopBack 0) inner) (has : Has F (length c) (begun ◂ ForBegin (s.start + k)))
        (running : (vs m : Tracked) (b : ℕ) → Holds memory s told below vs m → Gives (body vs b) b Ended
        (Ends (loop_targets w (length left) 2) (left ◂ LoopBack 0) held rst) (At inner held m b)) where
      all : Grows left whole
      all = put_on _ (put_on _ (grows_on (put left (LoopBack 0)) grown))

      looping : Has F (length left) (closed (length left) whole)
      looping = part (put c _) (put_on _ (put _ _)) has

      inside : Has F (length (left ◂ LoopBack 0)) whole
      inside = opened left whole (LoopBack 0) looping

      -- after the loop
      leaves : (m : Tracked) (a : ℕ) → At left held m a ≡ At c st m a
      leaves m a = stepped t now F c (Pop 2) held m a (part (same_code c) (grows_on (close_on all) (put_on _
          (put _ _))) has)

      in_turn : length left ≤ length inner
      in_turn = let g = grows_on (put left (LoopBack 0)) grown in g.longer

      asks : (vs m : Tracked) (b : ℕ) → Holds memory s told below vs m
          → Gives (marked_runs_on t k n.number d.number vs b) b (λ go m. Holds memory s told below go.1 m)
          (λ go m a. if go.0 then At inner held m a else Ends w c st rst (goes_on go.1) m a) (At turn held m b)
      unfolding marked_runs_on
      asks vs m b holds =
          one t now F inner (ForTest (s.start + k) (length left)) held m b (part grown (put turn _) inside)
          (looking t memory s room told below _ _ ill_typed vs m k _ b _ holds lt (λ v us m holds.
          let go = runs_within n.number d.number v.number in
          by_eq (ap (λ e. if go then At inner held m b else e)
          (down t (length left) (length inner) m _ in_turn ∙ leaves m b)) (given m holds)))

      steps_to : (o : Option Datum) (vs m : Tracked) (b : ℕ) → Holds memory s told below vs m
          → Gives (marked_step_of t k o vs b) b (TurnFit Tracked Tracked Fit)
          (turn_on Tracked Tracked Fit (Ends w c st rst) (At turn held))
          (on_step tracking t m (s.start + k) o (λ m. At turn held m b) (jump_down t (length left) (length turn) m
          (At left held m b)))
      steps_to (Some v) vs m b holds =
          storing t memory s room told below _ _ vs m k v _ b _ holds lt (λ us n h. given n h)
      steps_to None vs m b holds =
          by_eq (down t (length left) (length turn) m _
          (let l = in_turn in let g = put inner (ForTest (s.start + k)
          (length left)) in let h = g.longer in omega arith)
          ∙ leaves m b) (given m holds)

      steps : (vs m : Tracked) (b : ℕ) → Holds memory s told below vs m
          → Gives (marked_step_on t k d.number vs b) b (TurnFit Tracked Tracked Fit)
          (turn_on Tracked Tracked Fit (Ends w c st rst) (At turn held)) (At whole held m b)
      unfolding marked_step_on
      steps vs m b holds =
          one t now F turn (ForStep (s.start + k) (length left)) held m b (part (put_on _ grown) (same_code _) inside)
          (looking t memory s room told below _ _ ill_typed vs m k _ b _ holds lt (λ v us m holds.
          steps_to (stepped_on d.number v) us m b holds))

      turns_right : (vs m : Tracked) (b : ℕ) → Holds memory s told below vs m
          → Gives (marked_loop (marked_guarded (marked_runs_on t k n.number d.number) body)
          (marked_step_on t k d.number) vs b) b Ended (Ends w c st rst) (At turn held m b)
      turns_right =
          loop_runs Tracked Tracked Fit (Ends w c st rst) (At (left ◂ LoopBack 0) held) _ _ (At turn held) (At whole held)
          (guarded_runs Tracked Tracked Fit (Ends w c st rst) (At (left ◂ LoopBack 0) held) _ _ (At inner held)
          (At turn held) asks (λ vs m b holds.
          going (turned_ends w c (left ◂ LoopBack 0) 2 st held rst (length left) leaves) (running vs m b holds)))
          steps (ticks_back t now F left whole held (put_on _ (put_on _ grown)) looping)

      for_runs : (vs m : Tracked) (b : ℕ) → Holds memory s told below vs m
          → Gives (follow (loops.nonzero d.number b) (λ _. marked_put t vs k i >>= marked_loop
          (marked_guarded (marked_runs_on t k n.number d.number) body) (marked_step_on t k d.number))) b Ended
          (Ends w c st rst) (At (begun ◂ ForBegin (s.start + k)) (d ∷ n ∷ i ∷ st) m b)
      for_runs vs m b holds =
          let l = closed (length left) whole in
          let g = grows_on (put c _) (close_on all) in
          one t now F begun (ForBegin (s.start + k)) (d ∷ n ∷ i ∷ st) m b (part (put_on _ g) (same_code _) has)
          (nonzero_runs t d.number _ b m _
          (storing t memory s room told below _ _ vs m k i _ b _ holds lt (λ us m h.
          one t now F l (Jump (length turn)) held m b (part g (put _ _) has)
          (by_eq (down t (length turn) (length l) m _
          (let e = length_closed (length left) whole in let h = put turn (ForStep (s.start + k) (length left)) in
          let q = h.longer in omega arith)) (turns_right us m b h)))))

  -- the members that a call gives values are slots of the unit
  given_below : (at : ℕ) (xs : List SlotArgument) → ArgumentsFit CallFits s at xs
      → AllBelow s.size (map (λ k. at + k) (given_members xs))
  given_below at [] fits = tt
  given_below at (arguments.given o e ∷ rest) fits = (fits.0, given_below at rest fits.2)
  given_below at (arguments.copied o p ∷ rest) fits = given_below at rest fits.2

  invoke_runs : (at : ℕ) (code : BlockCode) (xs : List SlotArgument) (w : JumpTargets) (c : Code) (st rst : List Datum)
      (vs m : Tracked) (b : ℕ) → CallFits (of_block code (instance_frame s at)) → ArgumentsFit CallFits s at xs
      → Holds memory s told below vs m → Has F (length c) (invoke_code codes s at code xs c)
      → Gives (marked_invoking scope at code xs vs b) b Ended (Ends w c st rst)
      (At (invoke_code codes s at code xs c) st m b)
  invoke_runs at code xs w c st rst vs m b call fits holds has =
      let d = outputs_code codes s at xs c in
      let f = codes.blocks code (instance_frame s at) d in
      let ks = given_members xs in
      let g = stores_code (s.start + at) ks f in
      let low = outputs_grow codes grow s at xs c in
      let mid = grow.blocks code (instance_frame s at) d in
      let high = stores_grow (s.start + at) ks f in
      let top = inputs_grow codes grow s xs (g ◂ Reverse (length ks)) in
      bind _ (inputs_run t now memory small F units codes CallFits run s room told below at xs (g ◂ Reverse
      (length ks)) st vs m b
      fits holds (part (put_on _ (grows_on low (grows_on mid high))) (same_code _) has)) (λ ys k a done le.
      one t now F g (Reverse (length ks)) (stacked (values_of ys.0) st) k a
      (part (grows_on low (grows_on mid high)) top has)
      (by_eq (tops t (values_of ys.0) (length ks) st k _ (as_many ys.0 ks done.members_are))
      (bind _ (stores_run at ys.0 ks ys.1 f st k a done.members_are (given_below at xs fits) done.holds
      (part (grows_on low mid) (grows_on (put g _) top) has)) (λ ts j e h le.
      bind _ (run.blocks code (instance_frame s at) told below ts d st j e call room
      (holds_at memory s told below ts j at h)
      (part low (grows_on high (grows_on (put g _) top)) has)) (λ us i l h le.
      bind _ (outputs_run t now memory small F units codes CallFits run s room told below at xs c st us i l fits
      (holds_back memory s told below us i at h) (part (same_code c) (grows_on mid (grows_on high (grows_on
      (put g _) top))) has))
      (λ zs q o h le. given q h))))))
    where
      stores_run : (at : ℕ) (ys : List (ℕ × Datum)) (ks : List ℕ) (vs : Tracked) (f : Code) (st : List Datum)
          (k : Tracked) (a : ℕ) → map (λ e. e.0) ys ≡ ks → AllBelow s.size (map (λ k. at + k) ks)
          → Holds memory s told below vs k → Has F (length f) (stores_code (s.start + at) ks f)
          → Gives (marked_stored t at ys vs a) a (λ us n. Holds memory s told below us n) (λ us n e. At f st n e)
          (At (stores_code (s.start + at) ks f) (values_of ys ++ st) k a)
      stores_run at ys ks vs f st k a is below_all holds has =
          let P : List ℕ → Type 0 = λ ks. Has F (length f) (stores_code (s.start + at) ks f)
          → Gives (marked_stored t at ys vs a) a (λ us n. Holds memory s told below us n) (λ us n e. At f st n e)
          (At (stores_code (s.start + at) ks f) (values_of ys ++ st) k a) in
          subst P is (λ has. stored_runs t now memory F s room told below at ys vs f st k a
          (all_behind s.size at ys ks is below_all) holds has) has

  mutual
    stmt_runs : (x : SlotStmt) (w : JumpTargets) (c : Code) (st rst : List Datum) (vs m : Tracked) (b : ℕ)
        → StmtFits CallFits s x → Fine w c st rst → Holds memory s told below vs m
        → Has F (length c) (stmt_code codes s x w c)
        → Gives (marked_exec scope x vs b) b Ended (Ends w c st rst) (At (stmt_code codes s x w c) st m b)
    stmt_runs empty w c st rst vs m b fits fine holds has =
        one t now F c Tick st m b has (ticking _ b m _ (λ a lt. given m holds))
    stmt_runs (assign p e) w c st rst vs m b fits fine holds has =
        let d = place_code codes s p Store StoreAt c in
        let low = place_grows codes grow s p Store StoreAt c in
        let up = expr_grows codes grow s e d in
        one t now F (expr_code codes s e d) Tick st m b (part (grows_on low up) (same_code _) has)
        (ticking _ b m _ (λ a lt.
        bind _ (expressions.expr_runs t now memory small F units codes CallFits run s room told below e d st vs m a
        fits.1 holds (part low (put _ _) has)) (λ x n a good le.
        storing_place t now memory small F units codes CallFits run s room told below p c st x.0 _ _ _ x.1 n a
        fits.0 good (part (same_code c) (put_on _ up) has) (λ us k a h. given k h))))
    stmt_runs (invoke i code xs) w c st rst vs m b fits fine holds has =
        let at = slot_at s.base i in
        one t now F (invoke_code codes s at code xs c) Tick st m b
        (part (invoke_grows codes grow s at code xs c) (same_code _) has)
        (ticking _ b m _ (λ a lt.
        invoke_runs at code xs w c st rst vs m a fits.0 fits.1 holds (part (same_code c) (put _ _) has)))
    stmt_runs (IF arms otherwise) w c st rst vs m b fits fine holds has =
        let d = stmts_code codes s otherwise w c in
        let low = stmts_grow codes grow s otherwise w c in
        let up = arms_grow codes grow s arms w (length c) d in
        one t now F (arms_code codes s arms w (length c) d) Tick st m b (part (grows_on low up) (same_code _) has)
        (ticking _ b m _ (λ a lt.
        arms_run arms w c d st rst (marked_exec_all scope otherwise) low
        (λ vs m b h. stmts_run otherwise w c st rst vs m b fits.1 fine h (part (same_code c) (put_on _ up) has))
        vs m a fits.0 fine holds (part (same_code c) (put _ _) has)))
    stmt_runs (CASE e arms otherwise) w c st rst vs m b fits fine holds has =
        let o = stmts_code codes s otherwise w c in
        let d = o ◂ Pop 1 in
        let f = case_code codes s arms w (length c) d in
        let low = stmts_grow codes grow s otherwise w c in
        let mid = case_grows codes grow s arms w (length c) d in
        let up = expr_grows codes grow s e f in
        one t now F (expr_code codes s e f) Tick st m b (part (grows_on (put_on _ low) (grows_on mid up))
        (same_code _) has)
        (ticking _ b m _ (λ a lt.
        bind _ (expressions.expr_runs t now memory small F units codes CallFits run s room told below e f st vs m a
        fits.0 holds (part (grows_on (put_on _ low) mid) (put _ _) has)) (λ v n a good le.
        case_runs arms w c d st rst (marked_exec_all scope otherwise) v.0 (put_on _ low)
        (λ vs m b h. one t now F o (Pop 1) (v.0 ∷ st) m b (part low (grows_on mid (put_on _ up)) has)
        (stmts_run otherwise w c st rst vs m b fits.2 fine h
        (part (same_code c) (grows_on (put _ _) (grows_on mid (put_on _ up))) has)))
        v.1 n a fits.1 fine good (part (same_code c) (put_on _ up) has))))
    stmt_runs (FOR i start limit step body) w c st rst vs m b fits fine holds has =
        let k = slot_at s.base i in
        let end = c ◂ Pop 2 in
        let back = end ◂ LoopBack 0 in
        let v = loop_targets w (length end) 2 in
        let inner = stmts_code codes s body v back in
        let round = inner ◂ ForTest (s.start + k) (length end) in
        let loop = round ◂ ForStep (s.start + k) (length end) in
        let ready = closed (length end) loop ◂ Jump (length round) ◂ ForBegin (s.start + k) in
        let grown = stmts_grow codes grow s body v back in
        let first = grows_on (put c _) (put_on (ForBegin (s.start + k)) (put_on (Jump (length round))
        (close_on (put_on _ (put_on _ (grows_on (put end _) grown)))))) in
        let c3 = step_code codes s step ready in
        let c2 = expr_code codes s limit c3 in
        let c1 = expr_code codes s start c2 in
        let g3 = step_grows codes grow s step ready in
        let g2 = expr_grows codes grow s limit c3 in
        let g1 = expr_grows codes grow s start c2 in
        let ready_has = part (same_code c) (grows_on g3 (grows_on g2 (put_on Tick g1))) has in
        one t now F c1 Tick st m b (part (grows_on first (grows_on g3 (grows_on g2 g1))) (same_code _) has)
        (ticking _ b m _ (λ a lt.
        bind _ (expressions.expr_runs t now memory small F units codes CallFits run s room told below start c2 st vs m a
        fits.1 holds (part (grows_on first (grows_on g3 g2)) (put _ _) has)) (λ i n a good le.
        bind _ (expressions.expr_runs t now memory small F units codes CallFits run s room told below limit c3
        (i.0 ∷ st) i.1 n a fits.2 good (part (grows_on first g3) (put_on _ g1) has)) (λ l n a good le.
        step_runs step ready (l.0 ∷ i.0 ∷ st) _ Ended (Ends w c st rst) l.1 n a fits.3 good
        (part first (grows_on g2 (put_on _ g1)) has) (λ d us n a good.
        for_runs k fits.0 w c st rst inner i.0 l.0 d (marked_exec_all scope body) grown ready_has
        (λ vs m b h. stmts_run body v back (d ∷ l.0 ∷ st) rst vs m b fits.4 (fine_for w c st rst d l.0 fine) h
        (part (same_code back) (put_on _ (put _ _))
        (opened end loop (LoopBack 0) (part (put c _) (put_on _ (put _ _)) ready_has)))) us n a good)))))
    stmt_runs (WHILE e body) w c st rst vs m b fits fine holds has =
        let v = loop_targets w (length c) 0 in
        let d = c ◂ LoopBack 0 in
        let f = stmts_code codes s body v d in
        let h = expr_code codes s e (f ◂ JumpIfFalse (length c)) in
        let inner = stmts_grow codes grow s body v d in
        let up = expr_grows codes grow s e (f ◂ JumpIfFalse (length c)) in
        let head = part (same_code c) (put _ _) has in
        let inside = opened c h (LoopBack 0) head in
        one t now F (closed (length c) h) Tick st m b
        (part (close_on (grows_on (put c _) (grows_on inner (grows_on (put _ _) up)))) (same_code _) has)
        (ticking _ b m _ (λ a lt.
        by_eq (ap (λ n. G t now F n st m a) (length_closed (length c) h))
        (loop_runs Tracked Tracked Fit (Ends w c st rst) (At d st) _ _ (At h st) (At h st)
        (guarded_runs Tracked Tracked Fit (Ends w c st rst) (At d st) _ _ (At f st) (At h st)
        (λ vs m b k. expressions.truth_unless t now memory small F units codes CallFits run s room told below e f
        (length c) st vs m b fits.0 (let g = grows_on (put c (LoopBack 0)) inner in let l = g.longer in omega arith) k
        (part inner (same_code _) inside))
        (λ vs m b k. going (turned_ends w c d 0 st st rst (length c) (λ m a. refl))
        (stmts_run body v d st rst vs m b fits.1 (fine_loop w c st rst fine) k
        (part (same_code d) (grows_on (put f _) up) inside))))
        (λ vs m b k. given m k) (ticks_back t now F c h st (grows_on inner (grows_on
        (put f _) up)) head) vs m a holds)))
    stmt_runs (REPEAT body e) w c st rst vs m b fits fine holds has =
        let v = loop_targets w (length c) 0 in
        let d = c ◂ LoopBack 0 in
        let g = d ◂ JumpIfTrue (length c) in
        let h = expr_code codes s e g in
        let f = stmts_code codes s body v h in
        let foot = grows_on (put d _) (expr_grows codes grow s e g) in
        let up = stmts_grow codes grow s body v h in
        let head = part (same_code c) (put _ _) has in
        let inside = opened c f (LoopBack 0) head in
        one t now F (closed (length c) f) Tick st m b
        (part (close_on (grows_on (put c _) (grows_on foot up))) (same_code _) has)
        (ticking _ b m _ (λ a lt.
        by_eq (ap (λ n. G t now F n st m a) (length_closed (length c) f))
        (loop_runs Tracked Tracked Fit (Ends w c st rst) (At d st) _ _ (At f st) (At f st)
        (until_runs Tracked Tracked Fit (Ends w c st rst) (At d st) _ _ (At h st) (At f st)
        (λ vs m b k. expressions.truth_when t now memory small F units codes CallFits run s room told below e d
        (length c) st vs m b fits.1 (let p = put c (LoopBack 0) in p.longer) k (part (same_code d) up inside))
        (λ vs m b k. going (foot_ends w c h st rst)
        (stmts_run body v h st rst vs m b fits.0 (fine_on foot (fine_loop w c st rst fine)) k
        (part foot (same_code _) inside))))
        (λ vs m b k. given m k) (ticks_back t now F c f st (grows_on foot up) head) vs m a holds)))
    stmt_runs EXIT w c st rst vs m b fits fine holds has =
        one t now F (c ◂ Jump w.exit) Tick st m b (part (put c _) (same_code _) has)
        (ticking _ b m _ (λ a lt.
        one t now F c (Jump w.exit) st m a (part (same_code c) (put _ _) has)
        (by_eq (down t w.exit (length c) m (G t now F w.exit st m a) fine.exit) (given m holds))))
    stmt_runs RETURN w c st rst vs m b fits fine holds has =
        one t now F (c ◂ Jump w.back ◂ Pop w.held) Tick st m b (part (put_on _ (put c _)) (same_code _) has)
        (ticking _ b m _ (λ a lt.
        one t now F (c ◂ Jump w.back) (Pop w.held) st m a (part (put c _) (put _ _) has)
        (one t now F c (Jump w.back) (drop w.held st) m a (part (same_code c) (put_on _ (put _ _)) has)
        (by_eq (down t w.back (length c) m (G t now F w.back (drop w.held st) m a) fine.back
        ∙ ap (λ r. G t now F w.back r m a) fine.held) (given m holds)))))

    pub stmts_run : (xs : SlotStmts) (w : JumpTargets) (c : Code) (st rst : List Datum) (vs m : Tracked) (b : ℕ)
        → StmtsFit CallFits s xs → Fine w c st rst → Holds memory s told below vs m
        → Has F (length c) (stmts_code codes s xs w c)
        → Gives (marked_exec_all scope xs vs b) b Ended (Ends w c st rst) (At (stmts_code codes s xs w c) st m b)
    stmts_run no_stmts w c st rst vs m b fits fine holds has = given m holds
    stmts_run (stmt_then x xs) w c st rst vs m b fits fine holds has =
        let d = stmts_code codes s xs w c in
        let low = stmts_grow codes grow s xs w c in
        bind _ (stmt_runs x w d st rst vs m b fits.0 (fine_on low fine) holds (part low (same_code _) has))
        (λ e n a good le.
        behind_runs w c d st rst (marked_exec_all scope xs) e n a good (λ us h.
        stmts_run xs w c st rst us n a fits.1 fine h (part (same_code c) (stmt_grows codes grow s x w d) has)))

    arms_run : (arms : SlotArms) (w : JumpTargets) (c d : Code) (st rst : List Datum) (otherwise : Tracked → Run MarkedEnd)
        → Grows c d → ((vs m : Tracked) (b : ℕ) → Holds memory s told below vs m
        → Gives (otherwise vs b) b Ended (Ends w c st rst) (At d st m b)) → (vs m : Tracked) (b : ℕ)
        → ArmsFit CallFits s arms → Fine w c st rst → Holds memory s told below vs m
        → Has F (length c) (arms_code codes s arms w (length c) d)
        → Gives (marked_exec_arms scope arms otherwise vs b) b Ended (Ends w c st rst)
        (At (arms_code codes s arms w (length c) d) st m b)
    arms_run no_arms w c d st rst otherwise low last vs m b fits fine holds has = last vs m b holds
    arms_run (arm_then e body arms) w c d st rst otherwise low last vs m b fits fine holds has =
        let r = arms_code codes s arms w (length c) d in
        let j = r ◂ Jump (length c) in
        let f = stmts_code codes s body w j in
        let g = grows_on low (arms_grow codes grow s arms w (length c) d) in
        let mid = stmts_grow codes grow s body w j in
        let up = grows_on (put f _) (expr_grows codes grow s e (f ◂ JumpIfFalse (length r))) in
        bind _ (expressions.truth_unless t now memory small F units codes CallFits run s room told below e f
        (length r) st vs m b fits.0 (let h = grows_on (put r (Jump (length c))) mid in h.longer) holds
        (part (grows_on g (grows_on (put r _) mid)) (same_code _) has)) (λ go n a good le.
        either go.0 (marked_exec_all scope body go.1) (marked_exec_arms scope arms otherwise go.1) a
        (going (ends_jump w c (length c) r st rst (part g (grows_on mid up) has) refl g.longer)
        (stmts_run body w j st rst go.1 n a fits.1 (fine_on (put_on _ g) fine) good (part (put_on _ g) up has)))
        (arms_run arms w c d st rst otherwise low last go.1 n a fits.2 fine good
        (part (same_code c) (grows_on (put r _) (grows_on mid up)) has)))

    case_runs : (arms : SlotCaseArms) (w : JumpTargets) (c d : Code) (st rst : List Datum)
        (otherwise : Tracked → Run MarkedEnd) (v : Datum) → Grows c d
        → ((vs m : Tracked) (b : ℕ) → Holds memory s told below vs m
        → Gives (otherwise vs b) b Ended (Ends w c st rst) (At d (v ∷ st) m b)) → (vs m : Tracked) (b : ℕ)
        → CaseArmsFit CallFits s arms → Fine w c st rst → Holds memory s told below vs m
        → Has F (length c) (case_code codes s arms w (length c) d)
        → Gives (marked_exec_case scope v.number arms otherwise vs b) b Ended (Ends w c st rst)
        (At (case_code codes s arms w (length c) d) (v ∷ st) m b)
    case_runs no_case_arms w c d st rst otherwise v low last vs m b fits fine holds has = last vs m b holds
    case_runs (case_arm_then labels body arms) w c d st rst otherwise v low last vs m b fits fine holds has =
        let r = case_code codes s arms w (length c) d in
        let j = r ◂ Jump (length c) in
        let f = stmts_code codes s body w j in
        let e = f ◂ Pop 1 in
        let g = e ◂ Jump (length r) in
        let under = grows_on low (case_grows codes grow s arms w (length c) d) in
        let mid = stmts_grow codes grow s body w j in
        let inner = put_on (Pop 1) (grows_on (put r (Jump (length c))) mid) in
        let top = labels_grow labels (length e) g in
        by_eq (labels_run labels (length e) g st v m b (let p = put e (Jump (length r)) in p.longer)
        (part (grows_on under (put_on _ inner)) (same_code _) has))
        (either (list_any (label_holds v.number) labels) (marked_exec_all scope body vs)
        (marked_exec_case scope v.number arms otherwise vs) b
        (one t now F f (Pop 1) (v ∷ st) m b (part (grows_on under (grows_on (put r _) mid)) (grows_on
        (put _ _) top) has)
        (going (ends_jump w c (length c) r st rst (part under (grows_on mid (grows_on (put_on _
        (put f _)) top)) has) refl
        under.longer)
        (stmts_run body w j st rst vs m b fits.0 (fine_on (put_on _ under) fine) holds
        (part (put_on _ under) (grows_on (put_on _ (put f _)) top) has))))
        (one t now F e (Jump (length r)) (v ∷ st) m b (part (grows_on under inner) top has)
        (by_eq (down t (length r) (length e) m _ inner.longer)
        (case_runs arms w c d st rst otherwise v low last vs m b fits.1 fine holds
        (part (same_code c) (grows_on inner (grows_on (put e _) top)) has)))))
