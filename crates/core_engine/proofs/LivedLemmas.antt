-- An engine after a row.
use Rattle.std.proofs.Common.{◌≡◌, ℕ, ◌+◌, ◌<◌, inl, inr, Bool, true, if◌then◌else◌, List, [], ◌∷◌, ◌++◌}
use Rattle.std.proofs.Common.{length, map, Option, Some, Ok, refl, sym, ap, subst, ◌∙◌, arith, length-append}
use Rattle.std.proofs.lemmas.List.{get_or_append_left}
use Rattle.std.proofs.Math.Seq.{get_or-append_seam}
use Rattle.std.proofs.lemmas.Bool.{eq-eqb}
use Rattle.std.proofs.lemmas.Bool.Decides.{eqb_tells}
use Rattle.st_types.specs.Values.{Datum}
use Rattle.st_meaning.specs.declared.plan.Schedule.{Schedule}
use Rattle.st_types.specs.declared.entry.Entry.{Entry}
use Rattle.st_types.specs.declared.entry.Entry.TheVariants.{Row}
use Rattle.st_types.specs.declared.entry.Activation.{Activation}
use Rattle.st_types.specs.Rows.{Latch}
use Rattle.st_meaning.specs.Due.{History, Waits, with_row}
use Rattle.st_meaning.specs.Plans.{schedules_of, samples_of, fits}
use Rattle.st_meaning.specs.Logs.{Past, row_at, past_of, with_entry, is_later}
use Rattle.st_meaning.proofs.DueLemmas.{Waits-there}
use Rattle.st_meaning.proofs.LogLemmas.{past_of-add}
use Rattle.st_meaning.proofs.OverrunLemmas.{waited_before}
use Rattle.plan.specs.PlanViews.{plan_view}
use Rattle.ready_list.specs.Ready.{Ready, IsReadyOf}
use Rattle.core_engine.specs.Samples.{sample_task}
use Rattle.core_engine.specs.Steps.{Latches, store_in, first_image, last_image}
use Rattle.core_engine.proofs.RowLemmas.{as_many_inputs}
use Rattle.core_engine.proofs.LatchLemmas.{image_typed, kept_latched, sampled}
use Rattle.core_values.specs.Held.{HoldsNew, IsWide}
use Rattle.core_engine.specs.Lived.{EngineView, IsEngine, IsEngineOf, GoesOnBy, EachLifeGoesOn}

row-old : (rows : List Latch) (row : Latch) (k : ℕ) → k < length rows → row_at (rows ++ row ∷ []) k ≡ row_at rows k
row-old rows row k l = get_or_append_left rows (row ∷ []) record { moment = 0; image = [] } k l

row-new : (rows : List Latch) (row : Latch) → row_at (rows ++ row ∷ []) (length rows) ≡ row
row-new rows row = get_or-append_seam rows row [] record { moment = 0; image = [] }

-- each activation that waits after a row is held in its program's place
held_more : (schedules : List Schedule) (h : History) (rows : List Latch) (row : Latch) (ss : List Bool)
    (held held' : List Latch) (number : ℕ) → length held ≡ length schedules → number ≡ length h.sampled
    → length h.sampled ≡ length rows
    → HoldsNew schedules (with_row h row.moment ss) held held' number row (length held)
    → ((a : Activation) → Waits schedules h a → row_at held a.program ≡ row_at rows a.row)
    → (a : Activation) → Waits schedules (with_row h row.moment ss) a
    → row_at held' a.program ≡ row_at (rows ++ row ∷ []) a.row
held_more schedules h rows row ss held held' number sized numbered latched holds was a w =
    let there = Waits-there schedules (with_row h row.moment ss) a w in
    let e = holds a.program a.row (omega (arith, there.0, sized)) w in
    e ∙ elim (eqb_tells a.row number) [
      | inl t ↦ ap (λ (b : Bool). if b then row else row_at held a.program) (eq-eqb a.row number t.1)
          ∙ sym (ap (row_at (rows ++ row ∷ [])) (t.1 ∙ numbered ∙ latched) ∙ row-new rows row)
      | inr f ↦
          let before : a.row < length h.sampled = omega (
            arith,
            f.1,
            numbered,
            there.1,
            length-append h.sampled (record { moment = row.moment; samples = ss } ∷ []),
          ) in
          ap (λ (b : Bool). if b then row else row_at held a.program) f.0
          ∙ was a (waited_before schedules h row.moment ss a.program a.row before w)
          ∙ sym (row-old rows row a.row (omega (arith, before, latched)))
    ]

last_image-add : (im : List Datum) (rows : List Latch) (row : Latch) → last_image im (rows ++ row ∷ []) ≡ row.image
last_image-add im [] row = refl
last_image-add im (r ∷ rows) row = last_image-add r.image rows row

-- the engine after a row
abbrev pub after_row : EngineView → Latch → ℕ → List Bool → Ready → List Latch → EngineView
after_row engine newest moment samples ready held = record {
  plan = engine.plan;
  before = engine.before;
  values = engine.values;
  samples = samples;
  ready = ready;
  held = held;
  newest = newest;
  rows = engine.rows + 1;
  last = Some moment;
  entries = engine.entries + 1;
  room = engine.room;
}

lived_row : (engine : EngineView) (start : List Datum) (log : List Entry) → IsEngineOf start log engine → (row : Latch)
    (samples' : List Bool) (ready' : Ready) (held' : List Latch)
    → fits (plan_view engine.plan) row ≡ true → is_later engine.last row.moment ≡ true
    → samples' ≡ map (sample_task engine.values row.image) engine.plan.tasks.items
    → ready'.schedules ≡ engine.ready.schedules → length ready'.samples ≡ length engine.ready.samples
    → ready'.last ≡ row.moment
    → ((h : History) → IsReadyOf h engine.ready → IsReadyOf (with_row h row.moment samples') ready')
    → ((h : History) → IsReadyOf h ready'
    → HoldsNew ready'.schedules h engine.held held' engine.rows row (length engine.held))
    → length engine.held ≡ length engine.ready.schedules
    → IsEngineOf start (log ++ Row row ∷ []) (after_row engine row row.moment samples' ready' held')
lived_row engine start log is row samples' ready' held' fit later e schedules tasks latest due holds sized =
    let plan = plan_view engine.plan in
    let now = past_of plan (store_in engine.plan start) log in
    let next : past_of plan (store_in engine.plan start) (log ++ Row row ∷ []) ≡ with_entry plan now (Row row) =
    past_of-add plan (store_in engine.plan start) log (Row row) in
    let ss = samples_of plan now.store row.image in
    let got : samples' ≡ ss = e ∙ sampled is.kept row in
    let h' = with_row now.history row.moment ss in
    let ready_is : IsReadyOf h' ready' = subst (λ (x : List Bool). IsReadyOf (with_row now.history row.moment x) ready')
    got (due now.history is.kept.of_past.ready_is) in
    let place = subst (λ (s : List Schedule). HoldsNew s h' engine.held held' engine.rows row (length engine.held))
    (schedules ∙ is.kept.schedules) (holds h' ready_is) in
    record {
      kept = kept_latched is.kept row samples' ready' fit later e schedules tasks latest due;
      held = λ a w.
          held_more (schedules_of plan) now.history now.rows row ss engine.held held' engine.rows
          (sized ∙ ap (λ (s : List Schedule). length s) is.kept.schedules)
          (is.numbered ∙ sym is.kept.of_past.sampled_count) is.kept.of_past.sampled_count place is.held a
          (subst (λ (p : Past). Waits (schedules_of plan) p.history a) next w)
          ∙ sym (ap (λ (p : Past). row_at p.rows a.row) next);
      newest = sym (ap (λ (p : Past). last_image (first_image engine.plan.inputs.items) p.rows) next
          ∙ last_image-add (first_image engine.plan.inputs.items) now.rows row);
      numbered = ap (λ (n : ℕ). n + 1) is.numbered ∙ sym (length-append now.rows (row ∷ []))
          ∙ sym (ap (λ (p : Past). length p.rows) next);
      counted = ap (λ (n : ℕ). n + 1) is.counted ∙ sym (length-append log (Row row ∷ []));
    }

-- whatever the life was, it goes on by the row
pub latched : (engine : EngineView) (start : List Datum) (log : List Entry) → IsEngineOf start log engine → (row : Latch)
    (newest : Latch) (moment : ℕ) (samples' : List Bool) (ready' : Ready) (held' : List Latch)
    → newest ≡ row → moment ≡ row.moment → engine.entries < engine.room
    → fits (plan_view engine.plan) row ≡ true → is_later engine.last moment ≡ true
    → samples' ≡ map (sample_task engine.values row.image) engine.plan.tasks.items
    → ready'.schedules ≡ engine.ready.schedules → length ready'.samples ≡ length engine.ready.samples
    → ready'.last ≡ moment
    → ((h : History) → IsReadyOf h engine.ready → IsReadyOf (with_row h moment samples') ready')
    → ((h : History) → IsReadyOf h ready'
    → HoldsNew ready'.schedules h engine.held held' engine.rows row (length engine.held))
    → length engine.held ≡ length engine.ready.schedules
    → GoesOnBy (λ a b. Latches a row (Ok engine.rows) b) start log engine
    (after_row engine newest moment samples' ready' held')
latched engine start log is row newest moment samples' ready' held' new same below fit later e schedules tasks latest
    due holds sized =
    let later_row : is_later engine.last row.moment ≡ true = ap (is_later engine.last) (sym same) ∙ later in
    let due_row = subst (λ (m : ℕ). (h : History) → IsReadyOf h engine.ready → IsReadyOf (with_row h m samples') ready')
    same due in
    let lived = lived_row engine start log is row samples' ready' held' fit later_row e schedules tasks (latest ∙ same)
    due_row holds sized in
    let renamed = subst (λ (m : ℕ). IsEngineOf start (log ++ Row row ∷ []) (after_row engine newest m samples' ready' held'))
    (sym same) (subst (λ (r : Latch). IsEngineOf start (log ++ Row row ∷ [])
    (after_row engine r row.moment samples' ready' held')) (sym new) lived) in (
      log ++ Row row ∷ [],
      (
        omega (arith, below, is.counted),
        fit,
        ap (λ (o : Option ℕ). is_later o row.moment) (sym is.kept.of_past.last_is) ∙ later_row,
        is.numbered,
        refl,
      ),
      renamed,
    )

-- the engine has gone on by a row
pub record HasLatched (old : EngineView) (row : Latch) (new : EngineView) : Type 0 where
  pub engine : IsEngine new
  pub goes : EachLifeGoesOn (λ a b. Latches a row (Ok old.rows) b) old new

pub has_latched : (engine : EngineView) → IsEngine engine → (row newest : Latch) (moment : ℕ) (samples' : List Bool)
    (ready' : Ready) (held' : List Latch) → newest ≡ row → moment ≡ row.moment → engine.entries < engine.room
    → fits (plan_view engine.plan) row ≡ true → is_later engine.last moment ≡ true
    → samples' ≡ map (sample_task engine.values row.image) engine.plan.tasks.items
    → ready'.schedules ≡ engine.ready.schedules → length ready'.samples ≡ length engine.ready.samples
    → ready'.last ≡ moment
    → ((h : History) → IsReadyOf h engine.ready → IsReadyOf (with_row h moment samples') ready')
    → ((h : History) → IsReadyOf h ready'
    → HoldsNew ready'.schedules h engine.held held' engine.rows row (length engine.held))
    → length held' ≡ length engine.held → IsWide (length row.image) held'
    → HasLatched engine row (after_row engine newest moment samples' ready' held')
has_latched engine is row newest moment samples' ready' held' new same below fit later e schedules tasks latest due holds
    long wide =
    let width = as_many_inputs engine.plan.inputs.items row.image (image_typed engine.plan row fit) in
    let goes = λ (start : List Datum) (log : List Entry) (lived : IsEngineOf start log engine).
    latched engine start log lived row newest moment samples' ready' held' new same below fit later e schedules tasks
    latest due holds is.places in
    let (start, log, lived) = is.live in
    let (longer, step, next) = goes start log lived in
    record {
      engine = record {
        live = (start, longer, next);
        places = long ∙ is.places ∙ sym (ap (λ (s : List Schedule). length s) schedules);
        wide = λ p l. wide p l ∙ width;
        newest_wide = ap (λ (r : Latch). length r.image) new ∙ width;
        few_rows = omega (arith, is.few_rows);
        within = omega (arith, below);
      };
      goes = goes;
    }
