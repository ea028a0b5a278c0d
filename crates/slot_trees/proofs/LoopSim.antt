-- Ends of statements and loops over two related states.
use Rattle.std.proofs.Common.{ℕ, zero, suc, Bool, true, false, if◌then◌else◌, Option, Some, None}
use Rattle.st_types.specs.declared.fault.Fault.TheVariants.{Budget}
use Rattle.st_meaning.specs.Ticks.{Run}
use Rattle.st_meaning.specs.Loops.{EndOf, goes_on, exits, returns, continue_with, IterationOf, again, over, turned, resumed, go_back}
use Rattle.st_meaning.specs.Loops.{turns, looped, guarded, tested_after, until}
use Rattle.slot_trees.specs.Alike.{RunEqually, EndsEqually}
use Rattle.slot_trees.proofs.Sim.{Same, sim_give, sim_fault, sim_then, sim_same, sim_tick, sim_if}

module _ (S T : Type 0) (R : S → T → Type 0) where
  abbrev pub EndedRun : Run (EndOf S) → Run (EndOf T) → Type 0
  EndedRun m n = RunEqually (EndOf S) (EndOf T) (EndsEqually R) m n

  -- statements that have the same effect from related states on
  abbrev pub BodyRun : (S → Run (EndOf S)) → (T → Run (EndOf T)) → Type 0
  BodyRun f g = (s : S) (t : T) → R s t → EndedRun (f s) (g t)

  -- conditions that are the same for related states
  abbrev pub ConditionRun : (S → Run Bool) → (T → Run Bool) → Type 0
  ConditionRun f g = (s : S) (t : T) → R s t → RunEqually Bool Bool (Same Bool) (f s) (g t)

  pub sim_behind : (e : EndOf S) (f : EndOf T) (next : S → Run (EndOf S)) (next' : T → Run (EndOf T)) → EndsEqually R e f
      → BodyRun next next' → EndedRun (continue_with e next) (continue_with f next')
  sim_behind (goes_on s) (goes_on t) next next' h k = k s t h
  sim_behind (exits s) (exits t) next next' h k = sim_give (exits s) (exits t) h
  sim_behind (returns s) (returns t) next next' h k = sim_give (returns s) (returns t) h
  sim_behind (goes_on s) (exits t) next next' h k = absurd h
  sim_behind (goes_on s) (returns t) next next' h k = absurd h
  sim_behind (exits s) (goes_on t) next next' h k = absurd h
  sim_behind (exits s) (returns t) next next' h k = absurd h
  sim_behind (returns s) (goes_on t) next next' h k = absurd h
  sim_behind (returns s) (exits t) next next' h k = absurd h

  abbrev pub TurnsAlike : IterationOf S → IterationOf T → Type 0
  TurnsAlike (again s) (again t) = R s t
  TurnsAlike (over e) (over f) = EndsEqually R e f
  TurnsAlike (again s) (over f) = ⊥
  TurnsAlike (over e) (again t) = ⊥

  abbrev pub TurnRun : (S → Run (IterationOf S)) → (T → Run (IterationOf T)) → Type 0
  TurnRun f g = (s : S) (t : T) → R s t → RunEqually (IterationOf S) (IterationOf T) TurnsAlike (f s) (g t)

  abbrev pub StepAlike : Option S → Option T → Type 0
  StepAlike (Some s) (Some t) = R s t
  StepAlike None None = Unit {0}
  StepAlike (Some s) None = ⊥
  StepAlike None (Some t) = ⊥

  abbrev pub StepRun : (S → Run (Option S)) → (T → Run (Option T)) → Type 0
  StepRun f g = (s : S) (t : T) → R s t → RunEqually (Option S) (Option T) StepAlike (f s) (g t)

  turned_alike : (e : EndOf S) (f : EndOf T) → EndsEqually R e f → TurnsAlike (turned e) (turned f)
  turned_alike (goes_on s) (goes_on t) h = h
  turned_alike (exits s) (exits t) h = h
  turned_alike (returns s) (returns t) h = h
  turned_alike (goes_on s) (exits t) h = absurd h
  turned_alike (goes_on s) (returns t) h = absurd h
  turned_alike (exits s) (goes_on t) h = absurd h
  turned_alike (exits s) (returns t) h = absurd h
  turned_alike (returns s) (goes_on t) h = absurd h
  turned_alike (returns s) (exits t) h = absurd h

  resumed_alike : (next : S → Run (EndOf S)) (next' : T → Run (EndOf T)) → BodyRun next next' → (s : S) (t : T) → R s t
      → (o : Option S) (p : Option T) → StepAlike o p → EndedRun (resumed next s o) (resumed next' t p)
  resumed_alike next next' k s t h None None x = sim_give (goes_on s) (goes_on t) h
  resumed_alike next next' k s t h (Some u) (Some v) x = k u v x
  resumed_alike next next' k s t h None (Some v) x = absurd x
  resumed_alike next next' k s t h (Some u) None x = absurd x

  module _ (turn : S → Run (IterationOf S)) (turn' : T → Run (IterationOf T)) (step : S → Run (Option S))
      (step' : T → Run (Option T)) (h : TurnRun turn turn') (a : StepRun step step') where
    back_alike : (next : S → Run (EndOf S)) (next' : T → Run (EndOf T)) → BodyRun next next' → (u : IterationOf S)
        (v : IterationOf T) → TurnsAlike u v → EndedRun (go_back step next u) (go_back step' next' v)
    back_alike next next' k (over e) (over f) x = sim_give e f x
    back_alike next next' k (again s) (again t) x =
        sim_tick (sim_then (a s t x) (λ o p y. resumed_alike next next' k s t x o p y))
    back_alike next next' k (over e) (again t) x = absurd x
    back_alike next next' k (again s) (over f) x = absurd x

    turns_alike : (n : ℕ) → BodyRun (turns n turn step) (turns n turn' step')
    unfolding turns
    turns_alike zero s t x = sim_fault Budget
    turns_alike (suc n) s t x =
        sim_then (h s t x) (λ u v y. back_alike (turns n turn step) (turns n turn' step') (turns_alike n) u v y)

    pub sim_loop : BodyRun (looped turn step) (looped turn' step')
    unfolding looped
    sim_loop s t x = record { alike = λ b. (turns_alike (suc b) s t x).alike b }

  module _ (condition : S → Run Bool) (condition' : T → Run Bool) (body : S → Run (EndOf S))
      (body' : T → Run (EndOf T)) (h : ConditionRun condition condition') (k : BodyRun body body') where
    pub sim_guarded : TurnRun (guarded condition body) (guarded condition' body')
    unfolding guarded
    sim_guarded s t x =
        sim_same (h s t x) (λ go. sim_if go
        (sim_then (k s t x) (λ e f y. sim_give (turned e) (turned f) (turned_alike e f y)))
        (sim_give (over (goes_on s)) (over (goes_on t)) x))

    stop_alike : (stop : Bool) (s : S) (t : T) → R s t
        → TurnsAlike (if stop then over (goes_on s) else again s) (if stop then over (goes_on t) else again t)
    stop_alike true s t x = x
    stop_alike false s t x = x

    asked_alike : (e : EndOf S) (f : EndOf T) → EndsEqually R e f
        → RunEqually (IterationOf S) (IterationOf T) TurnsAlike (tested_after condition e) (tested_after condition' f)
    asked_alike (goes_on s) (goes_on t) x = sim_same (h s t x) (λ stop. sim_give _ _ (stop_alike stop s t x))
    asked_alike (exits s) (exits t) x = sim_give (over (goes_on s)) (over (goes_on t)) x
    asked_alike (returns s) (returns t) x = sim_give (over (returns s)) (over (returns t)) x
    asked_alike (goes_on s) (exits t) x = absurd x
    asked_alike (goes_on s) (returns t) x = absurd x
    asked_alike (exits s) (goes_on t) x = absurd x
    asked_alike (exits s) (returns t) x = absurd x
    asked_alike (returns s) (goes_on t) x = absurd x
    asked_alike (returns s) (exits t) x = absurd x

    pub sim_until : TurnRun (until body condition) (until body' condition')
    unfolding until
    sim_until s t x = sim_then (k s t x) (λ e f y. asked_alike e f y)
