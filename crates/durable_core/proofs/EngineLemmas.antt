-- The lives of an engine before its first entry, and the record of an engine.
use Rattle.std.proofs.Common.{◌≡◌, ◌∙◌, ℕ, List, [], Option, map, ap, sym, refl, subst}
use Rattle.st_types.specs.Values.{Datum}
use Rattle.st_types.specs.declared.entry.Entry.{Entry}
use Rattle.st_types.specs.declared.entry.Activation.{Activation}
use Rattle.st_meaning.specs.Stores.{Store}
use Rattle.st_meaning.specs.Restarts.{kept}
use Rattle.st_meaning.specs.Due.{Waits}
use Rattle.st_meaning.specs.Plans.{schedules_of}
use Rattle.st_meaning.specs.Logs.{IsLegal, past_of, row_at}
use Rattle.plan.specs.declared.plan.Plan.{Plan}
use Rattle.plan.specs.PlanViews.{plan_view}
use Rattle.core_engine.specs.Steps.{State, past_in, store_in}
use Rattle.core_engine.specs.Kept.{IsOfPast}
use Rattle.core_engine.specs.Lived.{EngineView, IsEngineOf, life_in}
use Rattle.core_engine.proofs.PlanSlots.{values_back}
use Rattle.durable_core.specs.Restart.{record_now, record_of}
use Rattle.durable_core.specs.Endless.{IsFirstEngine, engine_record, first_state}

-- the record of an engine is that of each life that it may be of
pub record_is : (engine : EngineView) (start : List Datum) (log : List Entry) → IsEngineOf start log engine
    → engine_record engine ≡ record_now (life_in engine start log)
record_is engine start log is =
    ap (λ (s : Store). record_of engine.plan s engine.last) is.kept.of_past.variables
    ∙ ap (record_of engine.plan (past_in (life_in engine start log)).store) is.kept.of_past.last_is

-- before the first entry the variables have the values of the start
pub own_start : (engine : EngineView) (start : List Datum) → IsEngineOf start [] engine
    → store_in engine.plan engine.values ≡ store_in engine.plan start
own_start engine start is = is.kept.of_past.variables

-- so an engine before its first entry is of the life that starts with the values that its variables have
pub new_engine : (engine : EngineView) (start : List Datum) → IsEngineOf start [] engine → IsFirstEngine engine
new_engine engine start is =
    let k = is.kept in
    let plan = plan_view engine.plan in
    let e = sym (own_start engine start is) in
    record {
      kept = record {
        legal = subst (λ (s : Store). IsLegal plan s engine.before []) e k.legal;
        begun = k.sized;
        sized = k.sized;
        typed = k.typed;
        early = k.early;
        numbered = k.numbered;
        schedules = k.schedules;
        tasks = k.tasks;
        of_past = subst (λ (s : Store). IsOfPast engine.plan engine.before engine.values engine.last engine.ready
            (past_of plan s [])) e k.of_past;
      };
      held = subst (λ (s : Store). (a : Activation) → Waits (schedules_of plan) (past_of plan s []).history a
          → row_at engine.held a.program ≡ row_at (past_of plan s []).rows a.row) e is.held;
      newest = is.newest;
      numbered = is.numbered;
      counted = is.counted;
    }

abbrev begun_so : EngineView → Store → State
begun_so engine s = record { plan = engine.plan; start = s; before = engine.before; log = []; room = engine.room }

-- and that life is the same
pub new_life_is : (engine : EngineView) (start : List Datum) → IsEngineOf start [] engine
    → first_state engine ≡ life_in engine start []
new_life_is engine start is = ap (begun_so engine) (own_start engine start is)

-- the values of such an engine are those of the variables of its life
pub new_values : (engine : EngineView) → IsFirstEngine engine
    → map (λ e. e.1) (past_in (first_state engine)).store ≡ engine.values
new_values engine is = values_back engine.plan.variables.items engine.plan.inputs.items engine.values is.kept.begun

-- the values kept of the start that an engine was given
pub resumed_kept : (plan : Plan) (engine : EngineView) (ds ws : List Datum) → IsEngineOf ds [] engine → engine.plan ≡ plan
    → map (λ e. e.1) (kept (plan_view plan) (store_in plan ds)) ≡ ws
    → map (λ e. e.1) (kept (plan_view plan) (first_state engine).start) ≡ ws
resumed_kept plan engine ds ws is same back =
    ap (λ (s : Store). map (λ e. e.1) (kept (plan_view plan) s))
    (own_start engine ds is ∙ ap (λ (p : Plan). store_in p ds) same) ∙ back
