-- A core without its log when its engine goes on.
use Rattle.std.proofs.Common.{◌≡◌, ◌≤◌, ◌<◌, ℕ, List, [], length, Option, Some, None, Result, Ok, Err, false}
use Rattle.std.proofs.Common.{refl, sym, ap, subst, arith}
use Rattle.std.specs.Prelude.{IfSome}
use Rattle.st_types.specs.declared.limits.TheConstants.{MOMENT_LIMIT}
use Rattle.st_meaning.specs.Layouts.{record_length}
use Rattle.plan.specs.PlanViews.{plan_view}
use Rattle.st_types.specs.Values.{Datum}
use Rattle.st_types.specs.declared.entry.Entry.{Entry}
use Rattle.disk.specs.Runs.{started}
use Rattle.plan.specs.declared.plan.Plan.{Plan}
use Rattle.retain_store.specs.Areas.{IsEither}
use Rattle.retain_store.specs.Kept.{StoreView}
use Rattle.retain_store.specs.Recovered.{Recovered, recovered}
use Rattle.retain_store.specs.declared.fault.StoreFault.{StoreFault}
use Rattle.core_engine.specs.declared.refusal.Refusal.{Refusal as EngineRefusal}
use Rattle.core_engine.specs.Steps.{State}
use Rattle.core_engine.specs.Lived.{EachLifeGoesOn, EngineView, InEachLife, IsEngineOf, life_in}
use Rattle.durable_core.specs.declared.refusal.Refusal.{Refusal}
use Rattle.durable_core.specs.declared.refusal.Refusal.TheVariants.{StoreFailed, Serial}
use Rattle.durable_core.specs.Cores.{CoreView, Guards, IsLonger, Outlives, survives}
use Rattle.durable_core.specs.declared.starting.StartMode.{StartMode}
use Rattle.durable_core.specs.Restart.{Survives}
use Rattle.durable_core.specs.Starting.{IsStart, start_in}
use Rattle.durable_core.specs.Endless.{EachCoreGoesOn, EndlessView, InEachCore, IsEndless, IsCoreOf, IsFirstEngine, core_in}
use Rattle.durable_core.specs.Endless.{first_state, with_engine}
use Rattle.durable_core.proofs.CallLemmas.{kept_longer, longer_plan}
use Rattle.durable_core.proofs.SurvivalLemmas.{survives_either}

-- the answer of a core whose store works, by that of its engine
abbrev pub as_answer : {A : Type 0} → Result A EngineRefusal → Result A Refusal
as_answer (Ok a) = Ok a
as_answer (Err refusal) = Err (Serial refusal)

module _ {D : Type 0} (old : EndlessView D) (start : List Datum) (log : List Entry) (is : IsCoreOf start log old)
    (engine : EngineView) (longer : List Entry) (more : IsLonger (life_in old.engine start log) (life_in engine start longer))
    (lived : IsEngineOf start longer engine) where
  -- the life goes on with its engine
  pub life_on : IsCoreOf start longer (with_engine old engine)
  life_on = record {
    lived = lived;
    kept = kept_longer (core_in old start log) (life_in engine start longer) more is.kept;
  }

-- a file that is one of these survives
pub life_survives : {D : Type 0} (core : EndlessView D) (start : List Datum) (log : List Entry)
    → IsCoreOf start log core → (file : List ℕ) → IsEither core.store.last core.store.tried (recovered file)
    → survives (core_in core start log) (recovered file)
life_survives core start log is file either =
    let state = life_in core.engine start log in
    survives_either state.plan state.start state.before state.log core.acked core.store.last core.store.tried
    (recovered file) is.kept.last is.kept.tried either

-- the invariant, when the engine goes on
pub kept_on : {D : Type 0} (old : EndlessView D) (room : ℕ) (engine : EngineView) (step : State → State → Type 0)
    → ((a b : State) → step a b → IsLonger a b) → EachLifeGoesOn step old.engine engine → IsEndless old room
    → IsEndless (with_engine old engine) room
kept_on old room engine step longer goes k =
    let (start, log, is) = k.life in
    let (after, s, lived) = goes start log is.lived in
    let more = longer (life_in old.engine start log) (life_in engine start after) s in
    record {
      life = (start, after, life_on old start log is engine after more lived);
      room_is = subst (λ (p : Plan). length p.variables.items ≤ room)
          (sym (longer_plan (life_in old.engine start log) (life_in engine start after) more)) k.room_is;
    }

module _ {D : Type 0} (left_since : D → D → List ℕ → Type 0) (may_leave : D → List ℕ → Type 0) (tells : Type 0)
    (now : (d : D) (file : List ℕ) → tells → left_since d d file → may_leave d file) (old : EndlessView D)
    (left : tells → (file : List ℕ) → may_leave old.store.disk file
    → IsEither old.store.last old.store.tried (recovered file)) where
  -- each file that a stop may leave survives
  left_survives : (engine : EngineView) (start : List Datum) (log : List Entry)
      → IsCoreOf start log (with_engine old engine) → tells → (file : List ℕ) → may_leave old.store.disk file
      → survives (core_in (with_engine old engine) start log) (recovered file)
  left_survives engine start log is t file l =
      life_survives (with_engine old engine) start log is file (left t file l)

  -- a call that leaves the store alone
  outlives : (engine : EngineView) (start : List Datum) (log longer : List Entry) → IsCoreOf start log old
      → IsCoreOf start longer (with_engine old engine) → tells
      → Outlives left_since may_leave (core_in old start log) (core_in (with_engine old engine) start longer)
  outlives engine start log longer is new t = record {
    during = started left_since may_leave _ _ (λ file l. now _ file t l) (left_survives old.engine start log is t);
    after = left_survives engine start longer new t;
  }

  -- a call of the engine
  pub goes_on : {A : Type 0} (R : State → Result A EngineRefusal → State → Type 0)
      → ((a b : State) (r : Result A EngineRefusal) → R a r b → IsLonger a b) → old.failed ≡ None
      → (engine : EngineView) (r : Result A EngineRefusal) → EachLifeGoesOn (λ a b. R a r b) old.engine engine
      → EachCoreGoesOn (λ a b. Guards a (as_answer r) b (λ x. R a.state x b.state)
      × (tells → Outlives left_since may_leave a b)) old (with_engine old engine)
  goes_on R more none engine (Ok n) goes = λ start log is.
      let (longer, step, lived) = goes start log is.lived in
      let on = life_on old start log is engine longer
      (more (life_in old.engine start log) (life_in engine start longer) (Ok n) step) lived in
      (longer, ((none, refl, step), outlives engine start log longer is on), on)
  goes_on R more none engine (Err e) goes = λ start log is.
      let (longer, step, lived) = goes start log is.lived in
      let on = life_on old start log is engine longer
      (more (life_in old.engine start log) (life_in engine start longer) (Err e) step) lived in
      (longer, ((none, refl, step), outlives engine start log longer is on), on)

  -- a call when the store has failed
  pub refuses : {A : Type 0} (R : State → Result A EngineRefusal → State → Type 0) (cause : StoreFault)
      → old.failed ≡ Some cause
      → EachCoreGoesOn (λ a b. Guards a (Err (StoreFailed cause)) b (λ x. R a.state x b.state)
      × (tells → Outlives left_since may_leave a b)) old old
  refuses R cause has = λ start log is.
      (log, ((has, refl), outlives old.engine start log log is is), is)

-- a look at the engine
pub looks : {D A : Type 0} (old : EndlessView D) (R : State → Result A EngineRefusal → Type 0) → old.failed ≡ None
    → (r : Result A EngineRefusal) → InEachLife old.engine (λ life. R life r)
    → InEachCore old (λ core. Guards core (as_answer r) core (λ x. R core.state x))
looks old R none (Ok n) h = λ start log is. (none, refl, h start log is.lived)
looks old R none (Err e) h = λ start log is. (none, refl, h start log is.lived)

-- a core before its first entry whose record was saved
pub first_life : {D : Type 0} (mode : StartMode) (engine : EngineView) (store : StoreView D) → IsFirstEngine engine
    → IsStart engine.plan mode (start_in (first_state engine)) → IfSome engine.before (λ t. t < MOMENT_LIMIT)
    → Survives engine.plan (first_state engine).start engine.before [] 0 store.last → store.tried ≡ store.last
    → store.failed ≡ false
    → record_length (plan_view engine.plan).enumerations engine.plan.variables.items ≤ store.room
    → IsCoreOf engine.values [] (record { mode = mode; engine = engine; acked = 0; failed = None; store = store })
first_life mode engine store new start early survives tried works room = record {
  lived = new;
  kept = record {
    started = start;
    early = early;
    last = survives;
    tried = subst (λ (r : Recovered). Survives engine.plan (first_state engine).start engine.before [] 0 r) (sym tried) survives;
    few = omega arith;
    met = sym works;
    saves = room;
  };
}
