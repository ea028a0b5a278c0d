-- Loops, whose turns and steps the machine makes.
use Rattle.std.proofs.Common.{◌≡◌, ℕ, zero, suc, ◌<◌, Bool, true, false, if◌then◌else◌}
use Rattle.std.proofs.Common.{arith}
use Rattle.st_meaning.specs.Ticks.{Run, ◌>>=◌, give}
use Rattle.st_meaning.specs.Loops.{EndOf, goes_on, exits, returns, IterationOf, again, over, turned}
use Rattle.slot_trees.specs.SlotRuns.{state_of}
use Rattle.machine_code.specs.Machine.{Ending, on_tick}
use Rattle.machine_code.specs.MarkedExecution.{marked_on, marked_back, marked_turns, marked_loop, marked_guarded}
use Rattle.machine_code.specs.MarkedExecution.{marked_tested, marked_until}
use Rattle.machine_code.proofs.Gives.{Gives, by_eq, given, bind, ticking}

module _ (S M : Type 0) (Fit : S → M → Type 0) where
  abbrev pub EndFit : EndOf S → M → Type 0
  EndFit e m = Fit (state_of e) m

  abbrev pub TurnFit : IterationOf S → M → Type 0
  TurnFit (again s) m = Fit s m
  TurnFit (over e) m = EndFit e m

  module _ (on : EndOf S → M → ℕ → Ending M) where
    -- how a run goes on after a turn or a step: at this place, or after the loop
    abbrev pub turn_on : (M → ℕ → Ending M) → IterationOf S → M → ℕ → Ending M
    turn_on at (again s) m a = at m a
    turn_on at (over e) m a = on e m a

    -- how a run goes on after a body whose condition is at the foot
    abbrev pub foot_on : (M → ℕ → Ending M) → EndOf S → M → ℕ → Ending M
    foot_on foot (goes_on s) m a = foot m a
    foot_on foot (exits s) m a = on (goes_on s) m a
    foot_on foot (returns s) m a = on (returns s) m a

    module _ (back : M → ℕ → Ending M) where
      -- a loop, whose turn runs from one place, its step from another, and which goes back from a third for a tick
      module _ (turn step : S → Run (IterationOf S)) (at head : M → ℕ → Ending M)
          (turning : (s : S) (m : M) (b : ℕ) → Fit s m → Gives (turn s b) b TurnFit (turn_on back) (at m b))
          (stepping : (s : S) (m : M) (b : ℕ) → Fit s m → Gives (step s b) b TurnFit (turn_on at) (head m b))
          (ticks : (m : M) (b : ℕ) → back m b ≡ on_tick b m (λ a. head m a)) where
        on_runs : (next : S → Run (EndOf S)) (u : IterationOf S) (m : M) (b : ℕ) → TurnFit u m
            → ((s : S) → Fit s m → Gives (next s b) b EndFit on (at m b))
            → Gives (marked_on next u b) b EndFit on (turn_on at u m b)
        on_runs next (again s) m b fit h = h s fit
        on_runs next (over e) m b fit h = given m fit

        back_runs : (next : S → Run (EndOf S)) (u : IterationOf S) (m : M) (b : ℕ) → TurnFit u m
            → ((s : S) (n : M) (c : ℕ) → c < b → Fit s n → Gives (next s c) c EndFit on (at n c))
            → Gives (marked_back step next u b) b EndFit on (turn_on back u m b)
        back_runs next (over e) m b fit h = given m fit
        back_runs next (again s) m b fit h =
            by_eq (ticks m b) (ticking (λ _. step s >>= marked_on next) b m (λ a. head m a) (λ c lt.
            bind (marked_on next) (stepping s m c fit) (λ u n a g le.
            on_runs next u n a g (λ v k. h v n a (omega arith) k))))

        turns_run : (n : ℕ) (s : S) (m : M) (b : ℕ) → b < n → Fit s m
            → Gives (marked_turns n turn step s b) b EndFit on (at m b)
        unfolding marked_turns
        turns_run zero s m b lt fit = absurd (omega arith)
        turns_run (suc n) s m b lt fit =
            bind (marked_back step (marked_turns n turn step)) (turning s m b fit) (λ u k c g le.
            back_runs (marked_turns n turn step) u k c g (λ v j a l h. turns_run n v j a (omega arith) h))

        pub loop_runs : (s : S) (m : M) (b : ℕ) → Fit s m → Gives (marked_loop turn step s b) b EndFit on (at m b)
        unfolding marked_loop
        loop_runs s m b fit = turns_run (suc b) s m b (omega arith) fit

      -- a turn with its condition at the head
      module _ (condition : S → Run (Bool × S)) (body : S → Run (EndOf S)) (inside at : M → ℕ → Ending M)
          (asking : (s : S) (m : M) (b : ℕ) → Fit s m → Gives (condition s b) b (λ go n. Fit go.1 n)
          (λ go n a. if go.0 then inside n a else on (goes_on go.1) n a) (at m b))
          (running : (s : S) (m : M) (b : ℕ) → Fit s m
          → Gives (body s b) b EndFit (λ e n a. turn_on back (turned e) n a) (inside m b)) where
        turned_fit : (e : EndOf S) (m : M) → EndFit e m → TurnFit (turned e) m
        turned_fit (goes_on s) m fit = fit
        turned_fit (exits s) m fit = fit
        turned_fit (returns s) m fit = fit

        go_runs : (go : Bool) (s : S) (m : M) (b : ℕ) → Fit s m
            → Gives ((if go then (body s >>= (λ e. give (turned e))) else give (over (goes_on s))) b) b TurnFit
            (turn_on back) (if go then inside m b else on (goes_on s) m b)
        go_runs true s m b fit = bind (λ e. give (turned e)) (running s m b fit) (λ e n c g le. given n
            (turned_fit e n g))
        go_runs false s m b fit = given m fit

        pub guarded_runs : (s : S) (m : M) (b : ℕ) → Fit s m
            → Gives (marked_guarded condition body s b) b TurnFit (turn_on back) (at m b)
        unfolding marked_guarded
        guarded_runs s m b fit = bind _ (asking s m b fit) (λ go n c g le. go_runs go.0 go.1 n c g)

      -- a turn with its condition at the foot: TRUE ends the loop
      module _ (condition : S → Run (Bool × S)) (body : S → Run (EndOf S)) (foot at : M → ℕ → Ending M)
          (asking : (s : S) (m : M) (b : ℕ) → Fit s m → Gives (condition s b) b (λ stop n. Fit stop.1 n)
          (λ stop n a. if stop.0 then on (goes_on stop.1) n a else back n a) (foot m b)) where
        stop_runs : (stop : Bool) (s : S) (m : M) (b : ℕ) → Fit s m
            → Gives (give (if stop then over (goes_on s) else again s) b) b TurnFit (turn_on back)
            (if stop then on (goes_on s) m b else back m b)
        stop_runs true s m b fit = given m fit
        stop_runs false s m b fit = given m fit

        asked_runs : (e : EndOf S) (m : M) (b : ℕ) → EndFit e m
            → Gives (marked_tested condition e b) b TurnFit (turn_on back) (foot_on foot e m b)
        asked_runs (goes_on s) m b fit = bind _ (asking s m b fit) (λ stop n c g le. stop_runs stop.0 stop.1 n c g)
        asked_runs (exits s) m b fit = given m fit
        asked_runs (returns s) m b fit = given m fit

        module _ (running : (s : S) (m : M) (b : ℕ) → Fit s m
            → Gives (body s b) b EndFit (foot_on foot) (at m b)) where
          pub until_runs : (s : S) (m : M) (b : ℕ) → Fit s m
              → Gives (marked_until body condition s b) b TurnFit (turn_on back) (at m b)
          unfolding marked_until
          until_runs s m b fit = bind (marked_tested condition) (running s m b fit) (λ e n c g le. asked_runs e n c g)
