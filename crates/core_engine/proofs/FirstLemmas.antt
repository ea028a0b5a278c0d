-- An engine before its first entry.
use Rattle.std.specs.Prelude.{IfSome}
use Rattle.std.proofs.Common.{◌≡◌, ℕ, ◌<◌, Bool, List, [], ◌∷◌, None, Option, length, map, refl, sym, ap, subst, ◌∙◌}
use Rattle.std.proofs.Common.{arith}
use Rattle.std.proofs.lemmas.List.{length-map, nil_from_length}
use Rattle.st_types.specs.declared.kind.Kind.{Kind}
use Rattle.st_types.specs.declared.limits.TheConstants.{MOMENT_LIMIT}
use Rattle.st_types.specs.declared.entry.Entry.{Entry}
use Rattle.st_types.specs.Values.{Datum}
use Rattle.st_types.specs.Rows.{Latch}
use Rattle.st_meaning.specs.declared.plan.PlanVariable.{PlanVariable}
use Rattle.st_meaning.specs.Due.{no_history}
use Rattle.st_meaning.specs.Plans.{schedules_of, initial_store}
use Rattle.st_meaning.proofs.DueLemmas.{Waits-there}
use Rattle.plan.specs.declared.plan.Plan.{Plan}
use Rattle.plan.specs.PlanViews.{plan_view}
use Rattle.ready_list.specs.Ready.{Ready, IsReadyOf}
use Rattle.core_engine.specs.Steps.{State, store_in, first_image}
use Rattle.core_engine.specs.Lived.{EngineView, IsEngineOf}
use Rattle.core_engine.proofs.VariableLemmas.{initial_stored}

kinds_first : (vs : List PlanVariable) → map (λ d. d.kind) (map (λ v. v.initial) vs) ≡ map (λ v. v.initial.kind) vs
kinds_first [] = refl
kinds_first (v ∷ vs) = ap (λ (ks : List Kind). v.initial.kind ∷ ks) (kinds_first vs)

-- the engine before its first entry
abbrev pub first_engine : Plan → List Datum → List Bool → Ready → List Latch → Latch → ℕ → EngineView
first_engine plan values samples ready held newest room = record {
  plan = plan;
  before = None;
  values = values;
  samples = samples;
  ready = ready;
  held = held;
  newest = newest;
  rows = 0;
  last = None;
  entries = 0;
  room = room;
}

pub lived_first : (plan : Plan) (values : List Datum) (samples : List Bool) (ready : Ready) (held : List Latch)
    (newest : Latch) (room : ℕ) → values ≡ map (λ v. v.initial) plan.variables.items
    → length samples ≡ length plan.tasks.items → ready.schedules ≡ schedules_of (plan_view plan)
    → length ready.samples ≡ length plan.tasks.items → ready.rows ≡ 0 → IsReadyOf no_history ready
    → newest.image ≡ first_image plan.inputs.items
    → IsEngineOf (map (λ v. v.initial) plan.variables.items) []
    (first_engine plan values samples ready held newest room)
lived_first plan values samples ready held newest room same numbered schedules tasks none ready_is shown =
    let sized : length (map (λ v. v.initial) plan.variables.items) ≡ length plan.variables.items =
    length-map plan.variables.items (λ v. v.initial) in
    record {
      kept = record {
        legal = tt;
        begun = sized;
        sized = ap length same ∙ sized;
        typed = ap (map (λ d. d.kind)) same ∙ kinds_first plan.variables.items;
        early = tt;
        numbered = numbered;
        schedules = schedules;
        tasks = tasks;
        of_past = record {
          variables = ap (store_in plan) same;
          sampled_count = refl;
          images = λ k h. absurd (omega (arith, h));
          last_is = refl;
          later = λ h. absurd (omega (arith, h, none));
          ready_is = ready_is;
        };
      };
      held = λ a w. absurd (omega (arith, (Waits-there (schedules_of (plan_view plan)) no_history a w).1));
      newest = shown;
      numbered = refl;
      counted = refl;
    }

-- its life
pub life_first : (plan : Plan) (room : ℕ)
    → ◌≡◌ {A = State}
    record {
      plan = plan;
      start = store_in plan (map (λ v. v.initial) plan.variables.items);
      before = None;
      log = [];
      room = room;
    }
    record { plan = plan; start = initial_store (plan_view plan); before = None; log = []; room = room }
life_first plan room = ap (λ st. record { plan = plan; start = st; before = None; log = []; room = room })
    (initial_stored plan.variables.items plan.inputs.items)

-- the engine with other values of its variables, and another moment that rows have to be later than
abbrev pub resumed : EngineView → List Datum → Option ℕ → EngineView
resumed engine values moment = record {
  plan = engine.plan;
  before = moment;
  values = values;
  samples = engine.samples;
  ready = engine.ready;
  held = engine.held;
  newest = engine.newest;
  rows = engine.rows;
  last = moment;
  entries = engine.entries;
  room = engine.room;
}

pub lived_again : (engine : EngineView) (start : List Datum) (log : List Entry) → IsEngineOf start log engine
    → engine.entries ≡ 0 → (values : List Datum) (moment : Option ℕ) → IfSome moment (λ t. t < MOMENT_LIMIT)
    → map (λ d. d.kind) values ≡ map (λ v. v.initial.kind) engine.plan.variables.items
    → IsEngineOf values [] (resumed engine values moment)
lived_again engine start log was empty values moment early typed =
    let none : log ≡ [] = nil_from_length log (sym was.counted ∙ empty) in
    let is : IsEngineOf start [] engine = subst (λ (l : List Entry). IsEngineOf start l engine) none was in
    let sized : length values ≡ length engine.plan.variables.items = sym (length-map values (λ d. d.kind))
    ∙ ap length typed ∙ length-map engine.plan.variables.items (λ v. v.initial.kind) in
    let rows : engine.ready.rows ≡ 0 = is.kept.of_past.ready_is.rows in
    record {
      kept = record {
        legal = tt;
        begun = sized;
        sized = sized;
        typed = typed;
        early = early;
        numbered = is.kept.numbered;
        schedules = is.kept.schedules;
        tasks = is.kept.tasks;
        of_past = record {
          variables = refl;
          sampled_count = refl;
          images = λ k h. absurd (omega (arith, h));
          last_is = refl;
          later = λ h. absurd (omega (arith, h, rows));
          ready_is = is.kept.of_past.ready_is;
        };
      };
      held = λ a w. absurd (omega (arith, (Waits-there (schedules_of (plan_view engine.plan)) no_history a w).1));
      newest = is.newest;
      numbered = is.numbered;
      counted = is.counted;
    }
