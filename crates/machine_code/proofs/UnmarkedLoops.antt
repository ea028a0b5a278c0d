-- Runs over marked slots, and loops, that do without their marks the same as runs over slots.
use Rattle.std.proofs.Common.{◌≡◌, ℕ, zero, suc, Bool, true, false, if◌then◌else◌, Option, Some, None, Result, Ok, Err}
use Rattle.std.proofs.Common.{subst}
use Rattle.st_types.specs.declared.fault.Fault.{Fault}
use Rattle.st_types.specs.declared.fault.Fault.TheVariants.{Budget}
use Rattle.st_meaning.specs.Failures.{Failure, StuckFaults}
use Rattle.st_meaning.specs.Ticks.{Run, follow, ◌>>=◌, give, attempt, proceed}
use Rattle.st_meaning.specs.Loops.{goes_on, exits, returns, IterationOf, again, over, turned, resumed, go_back}
use Rattle.st_meaning.specs.Loops.{turns, looped, guarded, tested_after, until, no_step}
use Rattle.machine_code.specs.Tracking.{Tracked}
use Rattle.slot_trees.specs.SlotExecution.{Slots, SlotEnd}
use Rattle.slot_trees.specs.Alike.{EndEqually, RunEqually, EndsEqually}
use Rattle.slot_trees.proofs.Sim.{Same, sim_give, sim_fault, sim_then, sim_tick, sim_if}
use Rattle.slot_trees.proofs.LoopSim.{TurnsAlike}
use Rattle.machine_code.specs.MarkedExecution.{MarkedEnd, marked_on, marked_back, marked_turns, marked_loop}
use Rattle.machine_code.specs.MarkedExecution.{marked_guarded, marked_tested, marked_until, marked_no_step}

-- the marked slots have these values
abbrev pub Unmarked : Tracked → Slots → Type 0
Unmarked m vs = m.values ≡ vs

-- the same result, from which these values are left
abbrev pub SameFrom : (A : Type 0) → Slots → A × Tracked → A → Type 0
SameFrom A vs r a = (r.0 ≡ a) × Unmarked r.1 vs

abbrev pub ReadRun : (A : Type 0) → Slots → Run (A × Tracked) → Run A → Type 0
ReadRun A vs m n = RunEqually (A × Tracked) A (SameFrom A vs) m n

abbrev pub StateRun : Run Tracked → Run Slots → Type 0
StateRun m n = RunEqually Tracked Slots Unmarked m n

abbrev pub EndsRun : Run MarkedEnd → Run SlotEnd → Type 0
EndsRun m n = RunEqually MarkedEnd SlotEnd (EndsEqually Unmarked) m n

-- statements that do the same
abbrev pub StmtsRun : (Tracked → Run MarkedEnd) → (Slots → Run SlotEnd) → Type 0
StmtsRun f g = (m : Tracked) (vs : Slots) → Unmarked m vs → EndsRun (f m) (g vs)

-- the rest of a run after a part that only reads
pub sim_read : {A C D : Type 0} {R : C → D → Type 0} {vs : Slots} {m : Run (A × Tracked)} {n : Run A}
    (f : A × Tracked → Run C) (g : A → Run D) → ReadRun A vs m n
    → ((a : A) (k : Tracked) → Unmarked k vs → RunEqually C D R (f (a, k)) (g a)) → RunEqually C D R (m >>= f) (n >>= g)
sim_read {C = C} {D = D} {R = R} f g h next =
    sim_then h (λ r a e. subst (λ x. RunEqually C D R (f r) (g x)) e.0 (next r.0 r.1 e.1))

kept_alike : (A : Type 0) (k : Tracked) (vs : Slots) → Unmarked k vs → (x y : Result (A × ℕ) Fault)
    → EndEqually (Same A) x y → EndEqually (SameFrom A vs) (follow x (λ a. give (a, k))) y
kept_alike A k vs h (Ok r) (Ok t) e = ((e.0, h), e.1)
kept_alike A k vs h (Err f) (Err g) e = e
kept_alike A k vs h (Ok r) (Err g) e = absurd e
kept_alike A k vs h (Err f) (Ok t) e = absurd e

-- a part that leaves the slots as they are
pub sim_kept : {A : Type 0} {m n : Run A} (k : Tracked) (vs : Slots) → Unmarked k vs → RunEqually A A (Same A) m n
    → ReadRun A vs (m >>= (λ a. give (a, k))) n
sim_kept {A = A} {m = m} {n = n} k vs h e =
    record { alike = λ b. kept_alike A k vs h (m b) (n b) (e.alike b) }

-- parts that take no ticks, one after another
pub sim_proceed : {A B C : Type 0} {R : C → B → Type 0} {m : Run C} (t : StuckFaults) (x : Result A Failure)
    (f : A → Result B Failure) → RunEqually C B R m (attempt t x >>= (λ a. attempt t (f a)))
    → RunEqually C B R m (attempt t (proceed x f))
sim_proceed t (Ok a) f h = h
sim_proceed t (Err e) f h = h

abbrev pub TurnRun : (Tracked → Run (IterationOf Tracked)) → (Slots → Run (IterationOf Slots)) → Type 0
TurnRun f g = (m : Tracked) (vs : Slots) → Unmarked m vs
    → RunEqually (IterationOf Tracked) (IterationOf Slots) (TurnsAlike Tracked Slots Unmarked) (f m) (g vs)

-- the step that was made, or the end of the loop if none could be
abbrev pub StepAlike : Slots → IterationOf Tracked → Option Slots → Type 0
StepAlike vs (again m) (Some us) = Unmarked m us
StepAlike vs (over e) None = EndsEqually Unmarked e (goes_on vs)
StepAlike vs (again m) None = ⊥
StepAlike vs (over e) (Some us) = ⊥

abbrev pub StepRun : (Tracked → Run (IterationOf Tracked)) → (Slots → Run (Option Slots)) → Type 0
StepRun f g = (m : Tracked) (vs : Slots) → Unmarked m vs
    → RunEqually (IterationOf Tracked) (Option Slots) (StepAlike vs) (f m) (g vs)

-- conditions that are the same
abbrev pub ConditionRun : (Tracked → Run (Bool × Tracked)) → (Slots → Run Bool) → Type 0
ConditionRun f g = (m : Tracked) (vs : Slots) → Unmarked m vs → ReadRun Bool vs (f m) (g vs)

on_alike : (next : Tracked → Run MarkedEnd) (next' : Slots → Run SlotEnd) → StmtsRun next next' → (vs : Slots)
    (u : IterationOf Tracked) (o : Option Slots) → StepAlike vs u o → EndsRun (marked_on next u) (resumed next' vs o)
on_alike next next' k vs (again m) (Some us) x = k m us x
on_alike next next' k vs (over e) None x = sim_give e (goes_on vs) x
on_alike next next' k vs (again m) None x = absurd x
on_alike next next' k vs (over e) (Some us) x = absurd x

module _ (turn step : Tracked → Run (IterationOf Tracked)) (turn' : Slots → Run (IterationOf Slots))
    (step' : Slots → Run (Option Slots)) (h : TurnRun turn turn') (a : StepRun step step') where
  back_alike : (next : Tracked → Run MarkedEnd) (next' : Slots → Run SlotEnd) → StmtsRun next next'
      → (u : IterationOf Tracked) (v : IterationOf Slots) → TurnsAlike Tracked Slots Unmarked u v
      → EndsRun (marked_back step next u) (go_back step' next' v)
  back_alike next next' k (over e) (over f) x = sim_give e f x
  back_alike next next' k (again m) (again vs) x =
      sim_tick (sim_then (a m vs x) (λ u o y. on_alike next next' k vs u o y))
  back_alike next next' k (over e) (again vs) x = absurd x
  back_alike next next' k (again m) (over f) x = absurd x

  turns_alike : (n : ℕ) → StmtsRun (marked_turns n turn step) (turns n turn' step')
  unfolding marked_turns turns
  turns_alike zero m vs x = sim_fault Budget
  turns_alike (suc n) m vs x =
      sim_then (h m vs x) (λ u v y. back_alike (marked_turns n turn step) (turns n turn' step') (turns_alike n) u v y)

  pub sim_loop : StmtsRun (marked_loop turn step) (looped turn' step')
  unfolding marked_loop looped
  sim_loop m vs x = record { alike = λ b. (turns_alike (suc b) m vs x).alike b }

turned_alike : (e : MarkedEnd) (f : SlotEnd) → EndsEqually Unmarked e f
    → TurnsAlike Tracked Slots Unmarked (turned e) (turned f)
turned_alike (goes_on m) (goes_on vs) h = h
turned_alike (exits m) (exits vs) h = h
turned_alike (returns m) (returns vs) h = h
turned_alike (goes_on m) (exits vs) h = absurd h
turned_alike (goes_on m) (returns vs) h = absurd h
turned_alike (exits m) (goes_on vs) h = absurd h
turned_alike (exits m) (returns vs) h = absurd h
turned_alike (returns m) (goes_on vs) h = absurd h
turned_alike (returns m) (exits vs) h = absurd h

module _ (condition : Tracked → Run (Bool × Tracked)) (condition' : Slots → Run Bool) (body : Tracked → Run MarkedEnd)
    (body' : Slots → Run SlotEnd) (h : ConditionRun condition condition') (k : StmtsRun body body') where
  pub sim_guarded : TurnRun (marked_guarded condition body) (guarded condition' body')
  unfolding marked_guarded guarded
  sim_guarded m vs x =
      sim_read _ _ (h m vs x) (λ go n y. sim_if go
      (sim_then (k n vs y) (λ e f z. sim_give (turned e) (turned f) (turned_alike e f z)))
      (sim_give (over (goes_on n)) (over (goes_on vs)) y))

  stop_alike : (stop : Bool) (m : Tracked) (vs : Slots) → Unmarked m vs
      → TurnsAlike Tracked Slots Unmarked (if stop then over (goes_on m) else again m)
      (if stop then over (goes_on vs) else again vs)
  stop_alike true m vs x = x
  stop_alike false m vs x = x

  asked_alike : (e : MarkedEnd) (f : SlotEnd) → EndsEqually Unmarked e f
      → RunEqually (IterationOf Tracked) (IterationOf Slots) (TurnsAlike Tracked Slots Unmarked) (marked_tested condition e)
      (tested_after condition' f)
  asked_alike (goes_on m) (goes_on vs) x =
      sim_read _ _ (h m vs x) (λ stop n y. sim_give _ _ (stop_alike stop n vs y))
  asked_alike (exits m) (exits vs) x = sim_give (over (goes_on m)) (over (goes_on vs)) x
  asked_alike (returns m) (returns vs) x = sim_give (over (returns m)) (over (returns vs)) x
  asked_alike (goes_on m) (exits vs) x = absurd x
  asked_alike (goes_on m) (returns vs) x = absurd x
  asked_alike (exits m) (goes_on vs) x = absurd x
  asked_alike (exits m) (returns vs) x = absurd x
  asked_alike (returns m) (goes_on vs) x = absurd x
  asked_alike (returns m) (exits vs) x = absurd x

  pub sim_until : TurnRun (marked_until body condition) (until body' condition')
  unfolding marked_until until
  sim_until m vs x = sim_then (k m vs x) (λ e f y. asked_alike e f y)

pub no_step_sim : StepRun marked_no_step no_step
no_step_sim m vs x = sim_give (again m) (Some vs) x
