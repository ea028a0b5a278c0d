-- The facts about a life that an engine's fields keep.
use Rattle.std.specs.Prelude.{◌≡◌, ℕ, ◌<◌, IfSome, List, Bool, length, map, Option, Some}
use Rattle.st_types.specs.declared.limits.TheConstants.{MOMENT_LIMIT}
use Rattle.st_types.specs.Values.{Datum}
use Rattle.st_types.specs.declared.entry.Entry.{Entry}
use Rattle.st_meaning.specs.Plans.{schedules_of}
use Rattle.st_meaning.specs.Logs.{Past, past_of, row_at, last_moment, IsLegal}
use Rattle.plan.specs.declared.plan.Plan.{Plan}
use Rattle.plan.specs.PlanViews.{plan_view}
use Rattle.ready_list.specs.Ready.{Ready, IsReadyOf}
use Rattle.core_engine.specs.Steps.{store_in}

-- The fields are those after this past.
pub record IsOfPast (plan : Plan) (before : Option ℕ) (values : List Datum) (last : Option ℕ) (ready : Ready)
    (now : Past) : Type 0 where
  pub variables : store_in plan values ≡ now.store
  pub sampled_count : length now.history.sampled ≡ length now.rows
  pub images : (k : ℕ) → k < length now.rows
      → map (λ d. d.kind) (row_at now.rows k).image ≡ map (λ i. i.kind) plan.inputs.items
  pub last_is : last ≡ last_moment before now.rows
  pub later : 0 < ready.rows → last ≡ Some ready.last
  pub ready_is : IsReadyOf now.history ready

-- The log is legal, the variables are those after it, each variable and each input has its type, moments are within their
-- limit, and the ready list has all activations that wait.
pub record IsKept (plan : Plan) (start : List Datum) (before : Option ℕ) (values : List Datum) (samples : List Bool)
    (log : List Entry) (last : Option ℕ) (ready : Ready) : Type 0 where
  pub legal : IsLegal (plan_view plan) (store_in plan start) before log
  pub begun : length start ≡ length plan.variables.items
  pub sized : length values ≡ length plan.variables.items
  pub typed : map (λ d. d.kind) values ≡ map (λ v. v.initial.kind) plan.variables.items
  pub early : IfSome last (λ t. t < MOMENT_LIMIT)
  pub numbered : length samples ≡ length plan.tasks.items
  pub schedules : ready.schedules ≡ schedules_of (plan_view plan)
  pub tasks : length ready.samples ≡ length plan.tasks.items
  pub of_past : IsOfPast plan before values last ready (past_of (plan_view plan) (store_in plan start) log)
