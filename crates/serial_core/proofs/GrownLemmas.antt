-- A core after its engine has gone on.
use Rattle.std.proofs.Common.{◌≡◌, ℕ, ◌<◌, List, [], ◌∷◌, ◌++◌, length, Option, Some, None, Result, Ok, Err, refl, sym, ap}
use Rattle.std.proofs.Common.{subst, ◌∙◌, arith, length-append}
use Rattle.st_types.specs.Values.{Datum}
use Rattle.st_types.specs.Rows.{Latch}
use Rattle.st_types.specs.declared.entry.Activation.{Activation}
use Rattle.st_types.specs.declared.entry.Entry.{Entry}
use Rattle.st_types.specs.declared.entry.Entry.TheVariants.{Row, Done}
use Rattle.st_meaning.specs.declared.outcome.Outcome.{Outcome}
use Rattle.st_meaning.specs.Due.{Waits}
use Rattle.st_meaning.specs.Logs.{outcome_at, outcomes_of}
use Rattle.slot_run.specs.Effects.{Effect}
use Rattle.plan.specs.declared.plan.Plan.{Plan}
use Rattle.plan.specs.PlanViews.{plan_view}
use Rattle.ready_list.proofs.ReadyLemmas.{listed-waits, waits-listed}
use Rattle.core_engine.specs.declared.refusal.Answer.{Answer}
use Rattle.core_engine.specs.declared.refusal.Answer.TheVariants.{Committed, Stale}
use Rattle.core_engine.specs.declared.refusal.Refusal.{Refusal}
use Rattle.core_engine.specs.declared.refusal.Refusal.TheVariants.{Full, NotWaiting, Foreign, NotLater, NoMemory}
use Rattle.core_engine.specs.Steps.{State, Commits, Latches, grown, past_in, store_in, waits_in}
use Rattle.core_engine.specs.Quick.{CommitsOne, EndsAs}
use Rattle.core_engine.specs.Lived.{EngineView, InEachLife, IsEngineOf, GoesOnBy, life_in}
use Rattle.serial_core.specs.Kept.{SerialInvariant, log_after, outcomes_after}
use Rattle.serial_core.proofs.OutcomeLemmas.{outcomes_of-add, outcomes_long}

-- a core before a call and after it: its invariant is kept, its room is the same, and this is the step
pub record GoesOn (step : State → State → Type 0) (old new : EngineView) (start : List Datum) (log log' : List Entry)
    (outcomes' : List (Option Outcome)) : Type 0 where
  pub serial : SerialInvariant new start log' outcomes'
  pub room : new.room ≡ old.room
  pub does : step (life_in old start log) (life_in new start log')

-- as many outcomes as entries
pub outcomes_kept : {engine : EngineView} {start : List Datum} {log : List Entry} {outcomes : List (Option Outcome)}
    → SerialInvariant engine start log outcomes → length outcomes ≡ length log
outcomes_kept {engine} {start} {log} {outcomes} is = ap (λ (os : List (Option Outcome)). length os) is.outcomes_are
    ∙ outcomes_long (plan_view engine.plan) (store_in engine.plan start) log

module _ (old new : EngineView) (start : List Datum) (log longer : List Entry) (outcomes : List (Option Outcome))
    (was : SerialInvariant old start log outcomes) (lived : IsEngineOf start longer new) where
  -- by an entry, if the core has it with its outcome
  grown_on : (log' : List Entry) (outcomes' : List (Option Outcome)) (entry : Entry) (o : Option Outcome)
      → life_in new start longer ≡ grown (life_in old start log) entry → length log < old.room
      → log' ≡ log ++ entry ∷ [] → outcomes' ≡ outcomes ++ o ∷ []
      → outcome_at (plan_view old.plan) (past_in (life_in old start log)) entry ≡ o
      → GoesOn (λ a b. (b ≡ grown a entry) × (length longer ≡ length b.log)) old new start log log' outcomes'
  grown_on log' outcomes' entry o same below is more ended =
      let longer_is : longer ≡ log' = ap (λ (s : State). s.log) same ∙ sym is in
      let plan_is : new.plan ≡ old.plan = ap (λ (s : State). s.plan) same in
      let room_is : new.room ≡ old.room = ap (λ (s : State). s.room) same in
      record {
        serial = record {
          lived = subst (λ (l : List Entry). IsEngineOf start l new) longer_is lived;
          outcomes_are =
              more ∙ ap (λ (os : List (Option Outcome)). os ++ o ∷ []) was.outcomes_are
              ∙ ap (λ (x : Option Outcome). outcomes_of (plan_view old.plan) (store_in old.plan start) log ++ x ∷ [])
              (sym ended)
              ∙ sym (outcomes_of-add (plan_view old.plan) (store_in old.plan start) log entry)
              ∙ ap (outcomes_of (plan_view old.plan) (store_in old.plan start)) (sym is)
              ∙ ap (λ (p : Plan). outcomes_of (plan_view p) (store_in p start) log') (sym plan_is);
          within = omega (arith, below, room_is, ap length is, length-append log (entry ∷ []));
        };
        room = room_is;
        does = (
          ap (λ (l : List Entry). life_in new start l) (sym longer_is) ∙ same,
          ap length longer_is,
        );
      }

  -- by nothing
  same_on : life_in new start longer ≡ life_in old start log
      → GoesOn (λ a b. b ≡ a) old new start log log outcomes
  same_on same =
      let longer_is : longer ≡ log = ap (λ (s : State). s.log) same in
      let plan_is : new.plan ≡ old.plan = ap (λ (s : State). s.plan) same in
      let room_is : new.room ≡ old.room = ap (λ (s : State). s.room) same in
      record {
        serial = record {
          lived = subst (λ (l : List Entry). IsEngineOf start l new) longer_is lived;
          outcomes_are = was.outcomes_are
              ∙ ap (λ (p : Plan). outcomes_of (plan_view p) (store_in p start) log) (sym plan_is);
          within = omega (arith, was.within, room_is);
        };
        room = room_is;
        does = ap (λ (l : List Entry). life_in new start l) (sym longer_is) ∙ same;
      }

-- a commit in one step that is refused changes nothing
one_refused : (old new : State) (a : Activation) (r : Refusal) → CommitsOne old a (Err r) new → new ≡ old
one_refused old new a Full step = step.1
one_refused old new a NoMemory step = step
one_refused old new a NotWaiting step = absurd step
one_refused old new a Foreign step = absurd step
one_refused old new a NotLater step = absurd step

-- another step between the same lives
stepped : {step step' : State → State → Type 0} {old new : EngineView} {start : List Datum} {log log' : List Entry}
    {outcomes' : List (Option Outcome)} → GoesOn step old new start log log' outcomes'
    → (step (life_in old start log) (life_in new start log') → step' (life_in old start log) (life_in new start log'))
    → GoesOn step' old new start log log' outcomes'
stepped goes other = record { serial = goes.serial; room = goes.room; does = other goes.does }

module _ (old new : EngineView) (start : List Datum) (log : List Entry) (outcomes : List (Option Outcome))
    (was : SerialInvariant old start log outcomes) where
  -- a row that is latched
  pub row_on : (row : Latch) (n : ℕ) (log' : List Entry) (outcomes' : List (Option Outcome))
      → GoesOnBy (λ a b. Latches a row (Ok n) b) start log old new → log' ≡ log ++ Row row ∷ []
      → outcomes' ≡ outcomes ++ None ∷ [] → GoesOn (λ a b. Latches a row (Ok n) b) old new start log log' outcomes'
  row_on row n log' outcomes' (longer, step, lived) is more =
      stepped (grown_on old new start log longer outcomes was lived log' outcomes' (Row row) None step.4 step.0 is more
      refl) (λ s. (step.0, step.1, step.2, step.3, s.0))

  -- a Done that is committed in one step
  pub one_on : (a : Activation) (o : Outcome) (log' : List Entry) (outcomes' : List (Option Outcome))
      → GoesOnBy (λ b c. CommitsOne b a (Ok o) c) start log old new → log' ≡ log ++ Done a ∷ []
      → outcomes' ≡ outcomes ++ Some o ∷ [] → GoesOn (λ b c. CommitsOne b a (Ok o) c) old new start log log' outcomes'
  one_on a o log' outcomes' (longer, step, lived) is more =
      stepped (grown_on old new start log longer outcomes was lived log' outcomes' (Done a) (Some o) step.1 step.0 is
      more step.2) (λ s. (step.0, s.0, step.2))

  pub one_off : (a : Activation) (r : Refusal) → GoesOnBy (λ b c. CommitsOne b a (Err r) c) start log old new
      → GoesOn (λ b c. c ≡ b) old new start log log outcomes
  one_off a r (longer, step, lived) =
      same_on old new start log longer outcomes was lived
      (one_refused (life_in old start log) (life_in new start longer) a r step)

  -- an execution that is committed or not
  pub commit_on : (effect : Effect) (r : Result Answer Refusal) (a : Activation) (o : Outcome) (log' : List Entry)
      (outcomes' : List (Option Outcome)) → GoesOnBy (λ b c. Commits b effect r c) start log old new
      → ((n : ℕ) → r ≡ Ok (Committed n) → EndsAs (life_in old start log) effect.activation effect.outcome)
      → a ≡ effect.activation → o ≡ effect.outcome → log' ≡ log_after r log a → outcomes' ≡ outcomes_after r outcomes o
      → GoesOn (λ b c. Commits b effect r c) old new start log log' outcomes'
  commit_on effect (Ok (Committed n)) a o log' outcomes' (longer, step, lived) ends same ended is more =
      stepped (grown_on old new start log longer outcomes was lived log' outcomes' (Done effect.activation)
      (Some effect.outcome) step.1 step.0.0 (is ∙ ap (λ (b : Activation). log ++ Done b ∷ []) same)
      (more ∙ ap (λ (x : Outcome). outcomes ++ Some x ∷ []) ended) (ends n refl))
      (λ s. (step.0, s.0, step.2 ∙ s.1))
  commit_on effect (Ok Stale) a o log' outcomes' (longer, step, lived) ends same ended is more =
      subst (λ (l : List Entry). GoesOn (λ b c. Commits b effect (Ok Stale) c) old new start log l outcomes') (sym is)
      (subst (GoesOn (λ b c. Commits b effect (Ok Stale) c) old new start log log) (sym more)
      (stepped (same_on old new start log longer outcomes was lived step.1) (λ s. (step.0, s))))
  commit_on effect (Err r) a o log' outcomes' (longer, step, lived) ends same ended is more =
      subst (λ (l : List Entry). GoesOn (λ b c. Commits b effect (Err r) c) old new start log l outcomes') (sym is)
      (subst (GoesOn (λ b c. Commits b effect (Err r) c) old new start log log) (sym more)
      (stepped (same_on old new start log longer outcomes was lived step.1) (λ s. (step.0, s))))

  -- a commit has room
  pub commit_room : (effect : Effect) (r : Result Answer Refusal) (n : ℕ)
      → GoesOnBy (λ b c. Commits b effect r c) start log old new → r ≡ Ok (Committed n) → length log < old.room
  commit_room effect r n goes same =
      (subst (λ (x : Result Answer Refusal). GoesOnBy (λ b c. Commits b effect x c) start log old new) same goes).1.0.0

-- an activation that waits in one life of an engine waits in each
pub waits_always : (engine : EngineView) (start : List Datum) (log : List Entry) → IsEngineOf start log engine
    → (a : Activation) → waits_in (life_in engine start log) a → InEachLife engine (λ life. waits_in life a)
waits_always engine start log is a waits start' log' is' =
    let here = subst (λ ps. Waits ps (past_in (life_in engine start log)).history a) (sym is.kept.schedules) waits in
    let x = waits-listed is.kept.of_past.ready_is a here in
    subst (λ ps. Waits ps (past_in (life_in engine start' log')).history a) is'.kept.schedules
    (listed-waits is'.kept.of_past.ready_is a x.0 x.1)
