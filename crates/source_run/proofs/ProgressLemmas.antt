-- How a life goes on.
use Rattle.std.proofs.Common.{◌≡◌, ◌∙◌, ap, sym, refl, subst, ℕ, List, ◌++◌, Some, None}
use Rattle.st_types.specs.Rows.{Latch}
use Rattle.st_meaning.specs.Logs.{past_of, IsLegal}
use Rattle.plan.specs.declared.plan.Plan.{Plan}
use Rattle.plan.specs.PlanViews.{plan_view}
use Rattle.serial_core.specs.Steps.{State, past_in}
use Rattle.durable_core.specs.Starting.{IsNew}
use Rattle.durable_core.specs.Starting.{started}
use Rattle.durable_core.specs.Restart.{fresh_state, warm}
use Rattle.retain_records.specs.ContentLines.{kept_in}
use Rattle.durable_core.specs.declared.starting.StartMode.TheVariants as modes
use Rattle.run_lock.specs.Lives.{life_of}
use Rattle.retain_store.specs.Recovered.{Recovered, TooLong, Refused, Nothing, Found}
use Rattle.st_meaning.specs.Restarts.{warm_start}
use Rattle.source_run.specs.declared.job.Start.{Start}
use Rattle.source_run.specs.declared.job.Start.TheVariants.{Warm, Cold}
use Rattle.source_run.specs.Progress.{Resumes, BeginsAs, IsRunOf, mode_of}

-- a life that is the same except for its log, and has these rows more
pub goes_by_run : (s t : State) (rows : List Latch) → life_of t ≡ life_of s → (past_in t).rows ≡ (past_in s).rows ++ rows
    → Resumes s t rows
goes_by_run s t rows life latched = record {
  plan_is = ap (λ (x : State). x.plan) life;
  start_is = ap (λ (x : State). x.start) life;
  before_is = ap (λ (x : State). x.before) life;
  rows_are = latched;
}

-- the beginning of a life that goes on from the last record of its store, or anew
begins_warm : (plan : Plan) (room : ℕ) (asked : Start) (last : Recovered) → asked ≡ Warm
    → BeginsAs asked (started plan room (warm plan last))
begins_warm plan room asked TooLong is = record { told = None; cold = λ c. absurd (cc); store = refl; moment = refl }
begins_warm plan room asked Refused is = record { told = None; cold = λ c. absurd (cc); store = refl; moment = refl }
begins_warm plan room asked Nothing is = record { told = None; cold = λ c. absurd (cc); store = refl; moment = refl }
begins_warm plan room asked (Found g content) is =
    record { told = Some (kept_in content); cold = λ c. absurd (cc); store = refl; moment = refl }

pub begins : (plan : Plan) (room : ℕ) (asked : Start) (last : Recovered) (life : State)
    → (mode_of asked ≡ modes.Warm → life ≡ started plan room (warm plan last))
    → (mode_of asked ≡ modes.Cold → life ≡ fresh_state plan room) → BeginsAs asked life
begins plan room Warm last life on anew = subst (BeginsAs Warm) (sym (on refl)) (begins_warm plan room Warm last refl)
begins plan room Cold last life on anew = subst (BeginsAs Cold) (sym (anew refl))
    record { told = None; cold = λ c. refl; store = refl; moment = refl }

-- a life that goes on still has its beginning
begins_still : (asked : Start) (s t : State) (rows : List Latch) → Resumes s t rows → BeginsAs asked s → BeginsAs asked t
begins_still asked s t rows goes b = record {
  told = b.told;
  cold = b.cold;
  store = goes.start_is ∙ b.store ∙ ap (λ (p : Plan). (warm_start (plan_view p) b.told).store) (sym goes.plan_is);
  moment = goes.before_is ∙ b.moment ∙ ap (λ (p : Plan). (warm_start (plan_view p) b.told).moment) (sym goes.plan_is);
}

-- from a new life on, it is a run
pub run_of : (first s : State) (plan : Plan) (asked : Start) (rows : List Latch) (room : ℕ) → IsNew first plan room
    → BeginsAs asked first → Resumes first s rows → IsLegal (plan_view s.plan) s.start s.before s.log
    → IsRunOf plan asked rows s
run_of first s plan asked rows room new opens goes legal = record {
  plan_is = goes.plan_is ∙ new.plan_is;
  begins = begins_still asked first s rows goes opens;
  legal = legal;
  rows_are = goes.rows_are ∙ ap (λ log. (past_of (plan_view first.plan) first.start log).rows ++ rows) new.empty;
}
