-- The facts that an engine keeps, after a row.
use Rattle.std.proofs.Common.{◌≡◌, ℕ, ◌+◌, ◌<◌, inl, inr, Bool, true, List, [], ◌∷◌, ◌++◌, length}
use Rattle.std.proofs.Common.{map, Option, Some, None, slice_get, refl, sym, ap, subst, ◌∙◌, arith}
use Rattle.std.proofs.Common.{length-append}
use Rattle.std.specs.List.{list_all}
use Rattle.std.proofs.lemmas.List.{get_or_append_left, length-map}
use Rattle.std.proofs.Math.Seq.{get_or-append_seam}
use Rattle.std.proofs.lemmas.Bool.Decides.{eqb_tells}
use Rattle.std.proofs.lemmas.Bool.{ltb-true}
use Rattle.st_types.specs.declared.limits.TheConstants.{MOMENT_LIMIT}
use Rattle.st_types.specs.Values.{Datum}
use Rattle.st_types.specs.declared.entry.Entry.{Entry}
use Rattle.st_types.specs.declared.entry.Entry.TheVariants.{Row}
use Rattle.st_meaning.specs.declared.plan.PlanVariable.{PlanVariable}
use Rattle.st_meaning.specs.declared.plan.PlanInput.{PlanInput}
use Rattle.st_types.specs.Rows.{Latch}
use Rattle.st_meaning.specs.Slots.{IsLayout, variables_with}
use Rattle.st_meaning.specs.Layouts.{layout_of}
use Rattle.st_meaning.specs.Due.{History, with_row}
use Rattle.st_meaning.specs.Plans.{samples_of, sample_of, is_on, fits}
use Rattle.st_meaning.specs.Logs.{past_of, row_at, is_later, row_follows}
use Rattle.st_meaning.proofs.LogLemmas.{past_of-add, IsLegal-add, last_moment-add}
use Rattle.plan.specs.declared.task.Trigger.{Trigger}
use Rattle.plan.specs.declared.task.Trigger.TheVariants.{Absent, Input, Variable}
use Rattle.plan.specs.declared.task.Task.{Task}
use Rattle.plan.specs.declared.plan.Plan.{Plan}
use Rattle.plan.specs.PlanViews.{plan_view, task_view, trigger_view, single_of}
use Rattle.plan.specs.Sound.{is_sound_trigger, is_boolean_variable}
use Rattle.ready_list.specs.Ready.{Ready, IsReadyOf}
use Rattle.core_engine.specs.Samples.{sample_at, sample_task}
use Rattle.core_engine.specs.Steps.{store_in}
use Rattle.core_engine.specs.Kept.{IsOfPast, IsKept}
use Rattle.core_engine.proofs.RowLemmas.{kinds_held}
use Rattle.core_engine.proofs.VariableLemmas.{get_in}
use Rattle.st_types.proofs.TestLemmas.{and_first, and_second}

pub image_typed : (plan : Plan) (row : Latch) → fits (plan_view plan) row ≡ true
    → map (λ v. v.kind) row.image ≡ map (λ i. i.kind) plan.inputs.items
image_typed plan row e = kinds_held plan.inputs.items row.image (and_first _ _ e)

moment_low : (plan : Plan) (row : Latch) → fits (plan_view plan) row ≡ true → row.moment < MOMENT_LIMIT
moment_low plan row e = ltb-true row.moment MOMENT_LIMIT (and_second _ _ e)

-- the samples by slots are those by paths
variable_same :
    (vs : List PlanVariable) (ins : List PlanInput) (ds image : List Datum) (k : ℕ) (o : Option PlanVariable)
    → IsLayout (layout_of vs ins) → length ds ≡ length vs → slice_get vs k ≡ o → is_boolean_variable o ≡ true
    → is_on (slice_get ds k) ≡ sample_of (variables_with (layout_of vs ins) ds) image (single_of o)
variable_same vs ins ds image k None layout sized at b = absurd (cc)
variable_same vs ins ds image k (Some v) layout sized at b = ap is_on (sym (get_in vs ins ds k v layout sized at))

sample_same : (vs : List PlanVariable) (ins : List PlanInput) (ds image : List Datum) (t : Trigger)
    → IsLayout (layout_of vs ins) → length ds ≡ length vs → is_sound_trigger vs ins t ≡ true
    → sample_at ds image t ≡ sample_of (variables_with (layout_of vs ins) ds) image (trigger_view vs t)
sample_same vs ins ds image Absent layout sized s = refl
sample_same vs ins ds image (Input i) layout sized s = refl
sample_same vs ins ds image (Variable k) layout sized s =
    variable_same vs ins ds image k (slice_get vs k) layout sized refl s

pub samples_same : (vs : List PlanVariable) (ins : List PlanInput) (ds image : List Datum) (tasks : List Task)
    → IsLayout (layout_of vs ins) → length ds ≡ length vs
    → list_all (λ t. is_sound_trigger vs ins t.single) tasks ≡ true
    → map (sample_task ds image) tasks
    ≡ map (λ t. sample_of (variables_with (layout_of vs ins) ds) image t.single) (map (task_view vs) tasks)
samples_same vs ins ds image [] layout sized s = refl
samples_same vs ins ds image (t ∷ tasks) layout sized s =
    let a = sample_same vs ins ds image t.single layout sized (and_first _ _ s) in
    let b = samples_same vs ins ds image tasks layout sized (and_second _ _ s) in
    rw (a, b) refl

module _ {plan : Plan} {start values : List Datum} {before : Option ℕ} {samples : List Bool} {log : List Entry}
    {last : Option ℕ} {ready : Ready} (kept : IsKept plan start before values samples log last ready) where
  pub sampled : (row : Latch) → map (sample_task values row.image) plan.tasks.items
      ≡ samples_of (plan_view plan) (past_of (plan_view plan) (store_in plan start) log).store row.image
  sampled row =
      samples_same plan.variables.items plan.inputs.items values row.image plan.tasks.items plan.sound.layout kept.sized
      plan.sound.singles
      ∙ ap (λ s. samples_of (plan_view plan) s row.image) kept.of_past.variables

  images_then : (row : Latch) → map (λ v. v.kind) row.image ≡ map (λ i. i.kind) plan.inputs.items → (k : ℕ)
      → k < length ((past_of (plan_view plan) (store_in plan start) log).rows ++ row ∷ [])
      → map (λ v. v.kind) (row_at ((past_of (plan_view plan) (store_in plan start) log).rows ++ row ∷ []) k).image
      ≡ map (λ i. i.kind) plan.inputs.items
  images_then row e k h = elim (eqb_tells k (length (past_of (plan_view plan) (store_in plan start) log).rows)) [
    | inl t ↦
        let r : row_at ((past_of (plan_view plan) (store_in plan start) log).rows ++ row ∷ []) k ≡ row =
        ap (row_at ((past_of (plan_view plan) (store_in plan start) log).rows ++ row ∷ [])) t.1 ∙ get_or-append_seam
        (past_of (plan_view plan) (store_in plan start) log).rows row [] record { moment = 0; image = [] } in
        ap (λ (x : Latch). map (λ v. v.kind) x.image) r ∙ e
    | inr f ↦
        let below : k < length (past_of (plan_view plan) (store_in plan start) log).rows =
        omega (arith, f.1, h, length-append (past_of (plan_view plan) (store_in plan start) log).rows (row ∷ [])) in
        let r : row_at ((past_of (plan_view plan) (store_in plan start) log).rows ++ row ∷ []) k
        ≡ row_at (past_of (plan_view plan) (store_in plan start) log).rows k =
        get_or_append_left (past_of (plan_view plan) (store_in plan start) log).rows (row ∷ [])
        record { moment = 0; image = [] } k below in
        ap (λ (x : Latch). map (λ v. v.kind) x.image) r ∙ kept.of_past.images k below
  ]

  pub kept_latched : (row : Latch) (samples' : List Bool) (ready' : Ready)
      → fits (plan_view plan) row ≡ true
      → is_later last row.moment ≡ true
      → samples' ≡ map (sample_task values row.image) plan.tasks.items
      → ready'.schedules ≡ ready.schedules → length ready'.samples ≡ length ready.samples → ready'.last ≡ row.moment
      → ((h : History) → IsReadyOf h ready → IsReadyOf (with_row h row.moment samples') ready')
      → IsKept plan start before values samples' (log ++ Row row ∷ []) (Some row.moment) ready'
  kept_latched row samples' ready' fit later e schedules tasks latest due =
      let now = past_of (plan_view plan) (store_in plan start) log in
      let got : samples' ≡ samples_of (plan_view plan) now.store row.image = e ∙ sampled row in
      record {
        legal = IsLegal-add (plan_view plan) (store_in plan start) before log (Row row) kept.legal
            (row_follows row fit (ap (λ o. is_later o row.moment) (sym kept.of_past.last_is) ∙ later));
        begun = kept.begun;
        sized = kept.sized;
        typed = kept.typed;
        early = moment_low plan row fit;
        numbered = ap length e ∙ length-map plan.tasks.items (sample_task values row.image);
        schedules = schedules ∙ kept.schedules;
        tasks = tasks ∙ kept.tasks;
        of_past =
            subst (IsOfPast plan before values (Some row.moment) ready')
            (sym (past_of-add (plan_view plan) (store_in plan start) log (Row row))) record {
              variables = kept.of_past.variables;
              sampled_count = length-append now.history.sampled
                  (record { moment = row.moment; samples = samples_of (plan_view plan) now.store row.image } ∷ [])
                  ∙ ap (λ n. n + 1) kept.of_past.sampled_count ∙ sym (length-append now.rows (row ∷ []));
              images = images_then row (image_typed plan row fit);
              last_is = sym (last_moment-add before now.rows row);
              later = λ s. ap (λ m. Some m) (sym latest);
              ready_is = subst (λ ss. IsReadyOf (with_row now.history row.moment ss) ready') got
                  (due now.history kept.of_past.ready_is);
            };
      }
