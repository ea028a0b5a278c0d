-- Statements over marked slots do without the marks the same as over slots.
use Rattle.std.proofs.Common.{ℕ, zero, ◌+◌, ℤ, pos, List, [], ◌∷◌, Bool, true, false, if◌then◌else◌, Option}
use Rattle.std.proofs.Common.{Some, None, Result, Ok, Err, refl, subst}
use Rattle.std.specs.Prelude.{slice_get, slice_set}
use Rattle.std.specs.List.{list_any}
use Rattle.st_types.specs.declared.fault.Fault.TheVariants.{ZeroStep}
use Rattle.st_types.specs.Values.{Datum}
use Rattle.st_meaning.specs.Failures.{Failure, StuckFaults, ill_typed, or_failure}
use Rattle.st_meaning.specs.Stores.{may_replace}
use Rattle.st_meaning.specs.Ticks.{Run, ◌>>=◌, give, attempt, proceed}
use Rattle.st_meaning.specs.Loops.{IterationOf, goes_on, exits, returns, again, over, stepped_on, nonzero}
use Rattle.st_meaning.specs.Execution.{label_holds}
use Rattle.machine_code.specs.Tracking.{Tracked, looked, replaced, assigned_slot}
use Rattle.slot_trees.specs.SlotTrees.{SlotExpr, Place, BlockCode, SlotArgument, given, copied, SlotStmt, empty, assign}
use Rattle.slot_trees.specs.SlotTrees.{invoke, IF, CASE, FOR, WHILE, REPEAT, EXIT, RETURN, SlotStmts, no_stmts}
use Rattle.slot_trees.specs.SlotTrees.{stmt_then, SlotArms, no_arms, arm_then, SlotCaseArms, no_case_arms}
use Rattle.slot_trees.specs.SlotTrees.{case_arm_then}
use Rattle.slot_trees.specs.SlotEvaluation.{SlotUnits, SlotScope, slot_at}
use Rattle.slot_trees.specs.SlotExecution.{Slots, SlotEnd, stored_over, stored_at, slot_inputs, stored_inputs}
use Rattle.slot_trees.specs.SlotExecution.{slot_outputs, slot_step, slot_runs_on, slot_stored, slot_step_on}
use Rattle.slot_trees.specs.SlotExecution.{slot_assigning, slot_invoking, slot_counting, slot_exec, slot_exec_all}
use Rattle.slot_trees.specs.SlotExecution.{slot_exec_arms, slot_exec_case}
use Rattle.slot_trees.specs.Alike.{RunEqually}
use Rattle.slot_trees.proofs.Sim.{Same, sim_give, sim_fault, sim_then, sim_same, sim_tick, sim_if, sim_attempt}
use Rattle.slot_trees.proofs.Sim.{ResultAlike}
use Rattle.slot_trees.proofs.LoopSim.{sim_behind}
use Rattle.machine_code.specs.MarkedEvaluation.{MarkedUnits, MarkedScope}
use Rattle.machine_code.specs.MarkedExecution.{MarkedEnd, marked_put, marked_inputs, marked_stored, marked_outputs}
use Rattle.machine_code.specs.MarkedExecution.{marked_step, marked_runs_on, marked_step_of, marked_step_on}
use Rattle.machine_code.specs.MarkedExecution.{marked_assigning, marked_invoking, marked_counting, marked_exec}
use Rattle.machine_code.specs.MarkedExecution.{marked_exec_all, marked_exec_arms, marked_exec_case}
use Rattle.machine_code.proofs.UnmarkedLoops.{Unmarked, ReadRun, StateRun, StmtsRun, StepAlike, StepRun}
use Rattle.machine_code.proofs.UnmarkedLoops.{ConditionRun, sim_read, sim_loop, sim_guarded, sim_until, no_step_sim}
use Rattle.machine_code.proofs.UnmarkedEvaluation.{UnitsAlike, look_sim, value_sim, place_sim, truth_sim}

module _ (t : StuckFaults) where
  write_by : (m : Tracked) (k : ℕ) (v : Datum) (go : Bool)
      → ResultAlike Unmarked (or_failure ill_typed (if go then Some (assigned_slot m k v) else None))
      (if go then Ok (slice_set m.values k v) else Err ill_typed)
  write_by m k v true = refl
  write_by m k v false = refl

  put_by : (m : Tracked) (k : ℕ) (v : Datum) (o : Option Datum)
      → ResultAlike Unmarked (or_failure ill_typed (replaced m k v o)) (stored_over o m.values k v)
  put_by m k v (Some old) = write_by m k v (may_replace old v)
  put_by m k v None = refl

  -- an assignment to a slot
  pub put_sim : (m : Tracked) (k : ℕ) (v : Datum) (vs : Slots) → Unmarked m vs
      → StateRun (marked_put t m k v) (attempt t (stored_at vs k v))
  put_sim m k v vs h =
      subst (λ us. StateRun (marked_put t m k v) (attempt t (stored_at us k v))) h
      (sim_attempt t (or_failure ill_typed (replaced m k v (slice_get m.values k))) (stored_at m.values k v)
      (put_by m k v (slice_get m.values k)))

  again_by : (vs : Slots) (x : Result Tracked Failure) (y : Result Slots Failure) → ResultAlike Unmarked x y
      → RunEqually (IterationOf Tracked) (Option Slots) (StepAlike vs) (attempt t x >>= (λ n. give (again n)))
      (attempt t (proceed y (λ us. Ok (Some us))))
  again_by vs (Ok n) (Ok us) h = sim_give (again n) (Some us) h
  again_by vs (Err e) (Err f) h =
      subst (λ g. RunEqually (IterationOf Tracked) (Option Slots) (StepAlike vs)
      (attempt t (Err e) >>= (λ n. give (again n))) (attempt t (proceed (Err g) (λ us. Ok (Some us))))) h (sim_fault _)
  again_by vs (Ok n) (Err f) h = absurd h
  again_by vs (Err e) (Ok us) h = absurd h

  -- the step of a control variable, if there is one
  step_by : (k : ℕ) (o : Option Datum) (m : Tracked)
      → RunEqually (IterationOf Tracked) (Option Slots) (StepAlike m.values) (marked_step_of t k o m)
      (attempt t (slot_stored m.values k o))
  step_by k None m = sim_give (over (goes_on m)) None refl
  step_by k (Some v) m =
      again_by m.values (or_failure ill_typed (replaced m k v (slice_get m.values k))) (stored_at m.values k v)
      (put_by m k v (slice_get m.values k))

  looked_step : (k : ℕ) (step : ℤ) (m : Tracked) (o : Option Datum)
      → RunEqually (IterationOf Tracked) (Option Slots) (StepAlike m.values)
      (attempt t (or_failure ill_typed (looked m k o)) >>= (λ r. marked_step_of t k (stepped_on step r.0) r.1))
      (attempt t (proceed (or_failure ill_typed o) (λ v. slot_stored m.values k (stepped_on step v))))
  looked_step k step m (Some v) = step_by k (stepped_on step v) _
  looked_step k step m None = sim_fault t.wrong

  step_on_sim : (k : ℕ) (step : ℤ) → StepRun (marked_step_on t k step) (slot_step_on t k step)
  unfolding marked_step_on slot_step_on
  step_on_sim k step m vs h =
      subst (λ us. RunEqually (IterationOf Tracked) (Option Slots) (StepAlike us) (marked_step_on t k step m)
      (slot_step_on t k step us)) h (looked_step k step m (slice_get m.values k))

  runs_on_sim : (k : ℕ) (limit step : ℤ) → ConditionRun (marked_runs_on t k limit step) (slot_runs_on t k limit step)
  unfolding marked_runs_on slot_runs_on
  runs_on_sim k limit step m vs h =
      sim_read _ _ (look_sim t ill_typed m k vs h) (λ v n g. sim_give (_, n) _ (refl, g))

  -- values that inputs take
  stored_sim : (at : ℕ) (xs : List (ℕ × Datum)) (m : Tracked) (vs : Slots) → Unmarked m vs
      → StateRun (marked_stored t at xs m) (stored_inputs t at xs vs)
  stored_sim at [] m vs h = sim_give m vs h
  stored_sim at (x ∷ xs) m vs h =
      sim_then (put_sim m (at + x.0) x.1 vs h) (λ n us g. stored_sim at xs n us g)

nonzero_sim : (n : ℤ) → RunEqually (Unit {0}) (Unit {0}) (Same (Unit {0})) (nonzero n) (nonzero n)
nonzero_sim (pos zero) = sim_fault ZeroStep
nonzero_sim _ = sim_give tt tt refl

module _ (t : StuckFaults) (units : MarkedUnits) (others : SlotUnits) (alike : UnitsAlike units others) (base : ℕ) where
  abbrev marking : MarkedScope
  marking = record { units = units; base = base; stuck_faults = t }

  abbrev plainly : SlotScope
  plainly = record { units = others; base = base; stuck_faults = t }

  inputs_sim : (xs : List SlotArgument) (m : Tracked) (vs : Slots) → Unmarked m vs
      → ReadRun (List (ℕ × Datum)) vs (marked_inputs marking m xs) (slot_inputs plainly vs xs)
  inputs_sim [] m vs h = sim_give ([], m) [] (refl, h)
  inputs_sim (given o e ∷ rest) m vs h =
      sim_read _ _ (value_sim t units others alike base e m vs h) (λ v n g.
      sim_read _ _ (inputs_sim rest n vs g) (λ xs k i. sim_give ((o, v) ∷ xs, k) ((o, v) ∷ xs) (refl, i)))
  inputs_sim (copied o p ∷ rest) m vs h = inputs_sim rest m vs h

  outputs_sim : (at : ℕ) (xs : List SlotArgument) (m : Tracked) (vs : Slots) → Unmarked m vs
      → StateRun (marked_outputs marking at xs m) (slot_outputs plainly at xs vs)
  outputs_sim at [] m vs h = sim_give m vs h
  outputs_sim at (given o e ∷ rest) m vs h = outputs_sim at rest m vs h
  outputs_sim at (copied o p ∷ rest) m vs h =
      sim_read _ _ (look_sim t ill_typed m (at + o) vs h) (λ v n g.
      sim_read _ _ (place_sim t units others alike base p n vs g) (λ k i e.
      sim_then (put_sim t i k v vs e) (λ j us d. outputs_sim at rest j us d)))

  step_sim : (o : Option SlotExpr) (m : Tracked) (vs : Slots) → Unmarked m vs
      → ReadRun ℤ vs (marked_step marking m o) (slot_step plainly vs o)
  step_sim None m vs h = sim_give (pos 1, m) (pos 1) (refl, h)
  step_sim (Some e) m vs h =
      sim_read _ _ (value_sim t units others alike base e m vs h) (λ v n g. sim_give (v.number, n) v.number (refl, g))

  assigning_sim : (p : Place) (e : SlotExpr) → StmtsRun (marked_assigning marking p e) (slot_assigning plainly p e)
  assigning_sim p e m vs h =
      sim_read _ _ (value_sim t units others alike base e m vs h) (λ x n g.
      sim_read _ _ (place_sim t units others alike base p n vs g) (λ k i d.
      sim_then (put_sim t i k x vs d) (λ j us f. sim_give (goes_on j) (goes_on us) f)))

  invoking_sim : (at : ℕ) (code : BlockCode) (arguments : List SlotArgument)
      → StmtsRun (marked_invoking marking at code arguments) (slot_invoking plainly at code arguments)
  invoking_sim at code arguments m vs h =
      sim_read _ _ (inputs_sim arguments m vs h) (λ xs n g.
      sim_then (stored_sim t at xs n vs g) (λ i us e.
      sim_then (alike.blocks code at i us e) (λ j ws d.
      sim_then (outputs_sim at arguments j ws d) (λ q zs f. sim_give (goes_on q) (goes_on zs) f))))

  counting_sim : (k : ℕ) (start limit : SlotExpr) (step : Option SlotExpr) (body : Tracked → Run MarkedEnd)
      (body' : Slots → Run SlotEnd) → StmtsRun body body'
      → StmtsRun (marked_counting marking k start limit step body) (slot_counting plainly k start limit step body')
  counting_sim k start limit step body body' b m vs h =
      sim_read _ _ (value_sim t units others alike base start m vs h) (λ i n g.
      sim_read _ _ (value_sim t units others alike base limit n vs g) (λ l j e.
      sim_read _ _ (step_sim step j vs e) (λ d q f. sim_same (nonzero_sim d) (λ _.
      sim_then (put_sim t q k i vs f) (λ o us c.
      sim_loop _ _ _ _ (sim_guarded _ _ _ _ (runs_on_sim t k l.number d) b) (step_on_sim t k d) o us c)))))

  mutual
    pub exec_sim : (x : SlotStmt) → StmtsRun (marked_exec marking x) (slot_exec plainly x)
    exec_sim empty m vs h = sim_tick (sim_give (goes_on m) (goes_on vs) h)
    exec_sim (assign p e) m vs h = sim_tick (assigning_sim p e m vs h)
    exec_sim (invoke a code arguments) m vs h = sim_tick (invoking_sim (slot_at base a) code arguments m vs h)
    exec_sim (IF arms otherwise) m vs h = sim_tick (arms_sim arms _ _ (exec_all_sim otherwise) m vs h)
    exec_sim (CASE e arms otherwise) m vs h =
        sim_tick (sim_read _ _ (value_sim t units others alike base e m vs h) (λ v n g.
        case_sim v.number arms _ _ (exec_all_sim otherwise) n vs g))
    exec_sim (FOR a start limit step body) m vs h =
        sim_tick (counting_sim (slot_at base a) start limit step _ _ (exec_all_sim body) m vs h)
    exec_sim (WHILE e body) m vs h =
        sim_tick (sim_loop _ _ _ _ (sim_guarded _ _ _ _ (truth_sim t units others alike base e) (exec_all_sim body))
        no_step_sim m vs h)
    exec_sim (REPEAT body e) m vs h =
        sim_tick (sim_loop _ _ _ _ (sim_until _ _ _ _ (truth_sim t units others alike base e) (exec_all_sim body))
        no_step_sim m vs h)
    exec_sim EXIT m vs h = sim_tick (sim_give (exits m) (exits vs) h)
    exec_sim RETURN m vs h = sim_tick (sim_give (returns m) (returns vs) h)

    pub exec_all_sim : (xs : SlotStmts) → StmtsRun (marked_exec_all marking xs) (slot_exec_all plainly xs)
    exec_all_sim no_stmts m vs h = sim_give (goes_on m) (goes_on vs) h
    exec_all_sim (stmt_then x xs) m vs h =
        sim_then (exec_sim x m vs h) (λ e f g.
        sim_behind Tracked Slots Unmarked e f (marked_exec_all marking xs) (slot_exec_all plainly xs) g
        (exec_all_sim xs))

    arms_sim : (arms : SlotArms) (otherwise : Tracked → Run MarkedEnd) (otherwise' : Slots → Run SlotEnd)
        → StmtsRun otherwise otherwise'
        → StmtsRun (marked_exec_arms marking arms otherwise) (slot_exec_arms plainly arms otherwise')
    arms_sim no_arms otherwise otherwise' k m vs h = k m vs h
    arms_sim (arm_then e body arms) otherwise otherwise' k m vs h =
        sim_read _ _ (truth_sim t units others alike base e m vs h) (λ go n g.
        sim_if go (exec_all_sim body n vs g) (arms_sim arms otherwise otherwise' k n vs g))

    case_sim : (n : ℤ) (arms : SlotCaseArms) (otherwise : Tracked → Run MarkedEnd) (otherwise' : Slots → Run SlotEnd)
        → StmtsRun otherwise otherwise'
        → StmtsRun (marked_exec_case marking n arms otherwise) (slot_exec_case plainly n arms otherwise')
    case_sim n no_case_arms otherwise otherwise' k m vs h = k m vs h
    case_sim n (case_arm_then labels body arms) otherwise otherwise' k m vs h =
        sim_if (list_any (label_holds n) labels) (exec_all_sim body m vs h)
        (case_sim n arms otherwise otherwise' k m vs h)
