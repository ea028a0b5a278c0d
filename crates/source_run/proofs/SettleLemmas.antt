-- When a life has nothing left to do.
use Rattle.std.proofs.Common.{◌≡◌, subst, ℕ, List, ◌++◌, Result, Ok, Err, OnOk, IfOk, Some}
use Rattle.serial_core.specs.Steps.{State, past_in}
use Rattle.durable_core.specs.Cores.{CoreView}
use Rattle.plan.specs.declared.plan.Plan.{Plan}
use Rattle.st_types.specs.Rows.{Latch}
use Rattle.image.specs.Plants.{AreRowsOf}
use Rattle.durable_core.specs.Starting.{IsNew, start_in}
use Rattle.source_run.specs.Lives.{IsReport}
use Rattle.source_run.specs.Runs.{IsReportOf}
use Rattle.st_meaning.specs.Logs.{IsLegal}
use Rattle.plan.specs.PlanViews.{plan_view}
use Rattle.source_run.specs.declared.job.Start.{Start}
use Rattle.source_run.specs.Progress.{BeginsAs, IsRunOf}
use Rattle.run_lock.specs.Lives.{life_of}
use Rattle.source_run.proofs.ProgressLemmas.{goes_by_run, run_of}
use Rattle.source_run.specs.Settling.{IsSettled}

-- a property of a report that is handed on
pub handed_on : {T E : Type 0} (P : T → Type 0) (r past_in : Result T E) → IfOk past_in (λ t. r ≡ Ok t) → IfOk r P
    → IfOk past_in P
handed_on P r (Ok t) is holds = subst (λ (x : Result _ _). IfOk x P) is holds
handed_on P r (Err e) is holds = tt

-- a report of a settled life that is the run of a plan over rows, by another name for the plan
pub reported : {D T E : Type 0} (items : T → List ℕ) (first : State) (life : CoreView D) (asked : Start)
    (rows : List Latch) (room : ℕ) (here plan : Plan) (r : Result T E) → here ≡ plan
    → AreRowsOf plan.inputs.items rows → IsNew first plan room → BeginsAs asked first
    → OnOk r (life_of life.state ≡ life_of first) → OnOk r ((past_in life.state).rows ≡ (past_in first).rows ++ rows)
    → OnOk r (IsSettled life here.resources)
    → IfOk r (λ t. IsLegal (plan_view life.state.plan) life.state.start life.state.before life.state.log)
    → IfOk r (λ t. IsReport life.state.plan (start_in life.state) life.state.log (Some life.acked) (items t))
    → IfOk r (λ t. IsReportOf D plan asked (items t))
reported items first life asked rows room here plan (Ok t) same are new opens same_life latched settles legal reports =
    let run : IsRunOf plan asked rows life.state = run_of first life.state plan asked rows room new opens
    (goes_by_run first life.state rows same_life latched) legal in record {
      life = life;
      rows = rows;
      rows_are = are;
      run = run;
      settled = subst (λ (p : Plan). IsSettled life p.resources) same settles;
      report = subst (λ (p : Plan). IsReport p (start_in life.state) life.state.log (Some life.acked) (items t))
          run.plan_is reports;
    }
reported items first life asked rows room here plan (Err e) same are new opens same_life latched settles legal reports =
    tt
