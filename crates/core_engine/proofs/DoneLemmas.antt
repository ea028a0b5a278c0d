-- An engine after a Done.
use Rattle.std.proofs.Common.{◌≡◌, ℕ, ◌+◌, ◌<◌, inl, inr, Bool, true, List, [], ◌∷◌, ◌++◌}
use Rattle.std.proofs.Common.{length, Ok, refl, sym, ap, subst, ◌∙◌, arith, length-append}
use Rattle.std.proofs.lemmas.Bool.Decides.{eqb_tells}
use Rattle.st_types.specs.Values.{Datum}
use Rattle.st_meaning.specs.declared.plan.Schedule.{Schedule}
use Rattle.st_types.specs.declared.entry.Entry.{Entry}
use Rattle.st_types.specs.declared.entry.Entry.TheVariants.{Done}
use Rattle.st_types.specs.declared.entry.Activation.{Activation}
use Rattle.st_meaning.specs.Due.{History, Waits, served, with_run}
use Rattle.st_meaning.specs.Plans.{schedules_of}
use Rattle.st_meaning.specs.Logs.{Past, row_at, past_of, with_entry}
use Rattle.st_meaning.proofs.DueLemmas.{Waits-there, served-add, done_waits_no_more}
use Rattle.st_meaning.proofs.LogLemmas.{past_of-add}
use Rattle.slot_run.specs.Effects.{Effect, IsTrueOf}
use Rattle.st_meaning.specs.Slots as slots
use Rattle.plan.specs.declared.slots.SlotPlace.{SlotPlace}
use Rattle.plan.specs.SlotPlaces.{written_variables}
use Rattle.plan.specs.PlanViews.{plan_view}
use Rattle.ready_list.specs.Ready.{Ready, IsReadyOf, Removes}
use Rattle.core_engine.specs.declared.refusal.Answer.TheVariants.{Committed}
use Rattle.core_engine.specs.Steps.{Commits, Judges, store_in, past_in, waits_in, first_image, last_image}
use Rattle.core_engine.specs.Quick.{EndsAs}
use Rattle.core_engine.specs.Lived.{EngineView, life_in, IsEngine, IsEngineOf, GoesOnBy, EachLifeGoesOn, InEachLife}
use Rattle.core_engine.proofs.CommitLemmas.{IsKept-commit}

-- an activation that waits after a run waited before it
waits_before : (schedules : List Schedule) (h : History) (p : ℕ) (a : Activation) → Waits schedules (with_run h p) a
    → Waits schedules h a
waits_before schedules h p a w = elim (eqb_tells p a.program) [
  | inl t ↦ absurd (done_waits_no_more schedules h a.program a.row
      (subst (λ (q : ℕ). Waits schedules (with_run h q) a) t.1 w))
  | inr f ↦
      let same : served a.program (h.runs ++ record { program = p; rows = length h.sampled } ∷ [])
      ≡ served a.program h.runs =
      served-add a.program h.runs record { program = p; rows = length h.sampled } ∙ rw f.0 refl in
      record {
        is = w.is;
        unserved = rw (sym same) w.unserved;
        first = λ k u l. w.first k (rw same u) l;
      }
]

-- an activation that waits has a place
pub held_there : (engine : EngineView) (start : List Datum) (log : List Entry) → IsEngineOf start log engine
    → length engine.held ≡ length engine.ready.schedules → (a : Activation) → waits_in (life_in engine start log) a
    → a.program < length engine.held
held_there engine start log is sized a w =
    let t = Waits-there (schedules_of (plan_view engine.plan)) (past_in (life_in engine start log)).history a w in
    omega (arith, t.0, sized, ap (λ (s : List Schedule). length s) is.kept.schedules)

-- the engine after a Done
abbrev pub after_done : EngineView → List Datum → Ready → EngineView
after_done engine values ready = record {
  plan = engine.plan;
  before = engine.before;
  values = values;
  samples = engine.samples;
  ready = ready;
  held = engine.held;
  newest = engine.newest;
  rows = engine.rows;
  last = engine.last;
  entries = engine.entries + 1;
  room = engine.room;
}

-- whatever the life was, it goes on by a commit of the execution, and the Done ends as the execution did
pub committed : (engine : EngineView) (start : List Datum) (log : List Entry) → IsEngineOf start log engine
    → (effect : Effect) (values' : List Datum) (ready' : Ready) (t : Bool)
    → Judges (life_in engine start log) effect (Ok true)
    → IsTrueOf effect.code effect.moment effect.budget effect.reads effect.writes effect.outcome
    → values' ≡ written_variables engine.plan.slots.items engine.values effect.writes
    → ready'.schedules ≡ engine.ready.schedules → length ready'.samples ≡ length engine.ready.samples
    → ready'.last ≡ engine.ready.last → ready'.rows ≡ engine.ready.rows
    → ((h : History) → IsReadyOf h engine.ready → Removes h engine.ready effect.activation t ready')
    → GoesOnBy (λ a b. Commits a effect (Ok (Committed (engine.entries + 1))) b) start log engine
    (after_done engine values' ready')
    × EndsAs (life_in engine start log) effect.activation effect.outcome
committed engine start log is effect values' ready' t judged true_of written schedules tasks latest number remove =
    let plan = plan_view engine.plan in
    let now = past_of plan (store_in engine.plan start) log in
    let a = effect.activation in
    let next : past_of plan (store_in engine.plan start) (log ++ Done a ∷ []) ≡ with_entry plan now (Done a) =
    past_of-add plan (store_in engine.plan start) log (Done a) in
    let counted : engine.entries + 1 ≡ length (log ++ Done a ∷ []) =
    ap (λ (n : ℕ). n + 1) is.counted ∙ sym (length-append log (Done a ∷ [])) in
    let it = IsKept-commit is.kept effect ready' values' t judged.1 judged.2 true_of judged.3 written schedules tasks
    latest number remove in
    let lived : IsEngineOf start (log ++ Done a ∷ []) (after_done engine values' ready') = record {
      kept = it.0;
      held = λ b w. is.held b (waits_before (schedules_of plan) now.history a.program b
          (subst (λ (p : Past). Waits (schedules_of plan) p.history b) next w))
          ∙ sym (ap (λ (p : Past). row_at p.rows b.row) next);
      newest = is.newest ∙ sym (ap (λ (p : Past). last_image (first_image engine.plan.inputs.items) p.rows) next);
      numbered = is.numbered ∙ sym (ap (λ (p : Past). length p.rows) next);
      counted = counted;
    } in (
      (log ++ Done a ∷ [], (judged, refl, counted), lived),
      it.2,
    )

-- the engine has gone on by the Done of an execution
pub record HasCommitted (old : EngineView) (effect : Effect) (new : EngineView) : Type 0 where
  pub engine : IsEngine new
  pub goes : EachLifeGoesOn (λ a b. Commits a effect (Ok (Committed (old.entries + 1))) b) old new
  pub ends : InEachLife old (λ life. EndsAs life effect.activation effect.outcome)

pub has_committed : (engine : EngineView) → IsEngine engine → (effect : Effect) (a : Activation)
    (places : List SlotPlace) (writes : List slots.Cell) (values' : List Datum) (ready' : Ready) (t : Bool)
    → InEachLife engine (λ life. Judges life effect (Ok true))
    → IsTrueOf effect.code effect.moment effect.budget effect.reads effect.writes effect.outcome
    → a ≡ effect.activation → places ≡ engine.plan.slots.items → writes ≡ effect.writes
    → values' ≡ written_variables places engine.values writes
    → ready'.schedules ≡ engine.ready.schedules → length ready'.samples ≡ length engine.ready.samples
    → ready'.last ≡ engine.ready.last → ready'.rows ≡ engine.ready.rows
    → ((h : History) → IsReadyOf h engine.ready → Removes h engine.ready a t ready')
    → HasCommitted engine effect (after_done engine values' ready')
has_committed engine is effect a places writes values' ready' t judged true_of same at cells vs schedules tasks latest
    number remove =
    let written : values' ≡ written_variables engine.plan.slots.items engine.values effect.writes = vs
    ∙ ap (λ (ps : List SlotPlace). written_variables ps engine.values writes) at
    ∙ ap (written_variables engine.plan.slots.items engine.values) cells in
    let gone = subst (λ (b : Activation). (h : History) → IsReadyOf h engine.ready → Removes h engine.ready b t ready')
    same remove in
    let goes = λ (start : List Datum) (log : List Entry) (lived : IsEngineOf start log engine).
    committed engine start log lived effect values' ready' t (judged start log lived) true_of written schedules tasks
    latest number gone in
    let (start, log, lived) = is.live in
    let (longer, step, next) = (goes start log lived).0 in
    record {
      engine = record {
        live = (start, longer, next);
        places = is.places ∙ sym (ap (λ (s : List Schedule). length s) schedules);
        wide = is.wide;
        newest_wide = is.newest_wide;
        few_rows = omega (arith, is.few_rows);
        within = omega (arith, step.0.0, lived.counted);
      };
      goes = λ start log lived. (goes start log lived).0;
      ends = λ start log lived. (goes start log lived).1;
    }
