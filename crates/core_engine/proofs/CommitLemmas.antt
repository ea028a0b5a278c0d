-- The facts that an engine keeps, after an execution is committed.
use Rattle.std.proofs.Common.{◌≡◌, ℕ, Bool, true, false, IsTrue, ◌↔◌, List, [], ◌∷◌, ◌++◌, length, map, Option, Some}
use Rattle.std.proofs.Common.{None, option_map, slice_get, refl, sym, ap, subst, ◌∙◌, arith}
use Rattle.std.proofs.lemmas.Option.{slice_get-map}
use Rattle.st_types.specs.Values.{Datum}
use Rattle.st_types.specs.declared.entry.Entry.{Entry}
use Rattle.st_types.specs.declared.entry.Entry.TheVariants.{Done}
use Rattle.st_types.specs.declared.entry.Activation.{Activation}
use Rattle.st_meaning.specs.declared.outcome.Outcome.{Outcome}
use Rattle.st_types.specs.Rows.{Latch}
use Rattle.st_types.specs.declared.kind.Kind.{Kind}
use Rattle.st_meaning.specs.declared.plan.PlanVariable.{PlanVariable}
use Rattle.st_meaning.specs.declared.plan.PlanInput.{PlanInput}
use Rattle.st_meaning.specs.Stores.{Store, shape_of}
use Rattle.st_meaning.proofs.RunLemmas.{store_after_shape}
use Rattle.st_meaning.specs.Runs.{outcome_of, store_after}
use Rattle.std.proofs.lemmas.List.{length-map}
use Rattle.st_meaning.specs.Slots.{agrees, variables_with, inputs_in}
use Rattle.st_meaning.specs.Layouts.{layout_of}
use Rattle.st_meaning.specs.Due.{History, Waits, with_run}
use Rattle.st_meaning.specs.Plans as plans
use Rattle.st_meaning.specs.Plans.{schedules_of, image_of, program_at, after_run}
use Rattle.st_meaning.specs.Logs.{Past, past_of, row_at, outcome_at, done_follows}
use Rattle.st_meaning.proofs.LogLemmas.{past_of-add, IsLegal-add}
use Rattle.slot_code.specs.declared.code.Code.{Code}
use Rattle.slot_code.specs.Codes.{CodeView, code_view}
use Rattle.slot_code.specs.Meanings.{Means}
use Rattle.slot_run.specs.Effects.{Effect, IsTrueOf}
use Rattle.st_types.specs.SourceViews.{source_view}
use Rattle.plan.specs.Sources.{program_numbered}
use Rattle.plan.specs.SlotPlaces.{merged, slots_among, written_variables}
use Rattle.plan.proofs.SlotLemmas.{from_first, inputs_merged, length_written, typed_merged, variables_merged}
use Rattle.plan.proofs.SlotLemmas.{variables_written}
use Rattle.st_meaning.specs.Layouts.{input_slot}
use Rattle.plan.specs.declared.plan.Plan.{Plan}
use Rattle.plan.specs.declared.task.ProgramInstance.{ProgramInstance}
use Rattle.plan.specs.PlanViews.{plan_view, program_view}
use Rattle.ready_list.specs.Ready.{Ready, IsReadyOf, Removes}
use Rattle.core_engine.specs.Steps.{store_in, code_at, IsOwnOf}
use Rattle.core_engine.specs.Kept.{IsOfPast, IsKept}
use Rattle.core_engine.proofs.PlanSlots.{values_back}
use Rattle.core_engine.proofs.TakeLemmas.{found, values_are, waits-row}

-- a program runs alike from equal stores
same_run : (X : Type 0) (f : ℕ → Store → Store → ℕ → X) (b b' : ℕ) (s s' i i' : Store) (m m' : ℕ) → b ≡ b' → s ≡ s'
    → i ≡ i' → m ≡ m' → f b s i m ≡ f b' s' i' m'
same_run X f b b' s s' i i' m m' eb es ei em =
    ap (λ x. f x s i m) eb ∙ ap (λ x. f b' x i m) es ∙ ap (λ x. f b' s' x m) ei ∙ ap (λ x. f b' s' i' x) em

-- an activation's own program
pub record IsProgram (plan : Plan) (p : ℕ) (code : CodeView) : Type 0 where
  pub program : ProgramInstance
  pub at : slice_get plan.programs.items p ≡ Some program
  pub text : code_view program.code.value ≡ code

own_program : (plan : Plan) (row : Latch) (effect : Effect) → IsOwnOf plan row effect
    → IsProgram plan effect.activation.program effect.code
own_program plan row effect own =
    let f = found Code CodeView code_view (code_at plan effect.activation.program) effect.code own.text in
    let g = found ProgramInstance Code (λ q. q.code.value) (slice_get plan.programs.items effect.activation.program) f.0
    f.1 in
    record { program = g.0; at = g.1; text = ap code_view g.2 ∙ f.2 }

program_found : (plan : Plan) (p : ℕ) (q : ProgramInstance) → slice_get plan.programs.items p ≡ Some q
    → program_at (plan_view plan) p ≡ Some (program_view (source_view plan.text.value) q)
program_found plan p q at = slice_get-map (program_view (source_view plan.text.value)) plan.programs.items p
    ∙ ap (option_map (program_view (source_view plan.text.value))) at

own_means : (plan : Plan) (p : ℕ) (code : CodeView) → (is : IsProgram plan p code)
    → Means (slots_among plan.slots.items plan.variables.items plan.inputs.items) code
    (program_numbered (source_view plan.text.value) is.program.number)
own_means plan p code is =
    subst (λ (t : CodeView). Means (slots_among plan.slots.items plan.variables.items plan.inputs.items) t
    (program_numbered (source_view plan.text.value) is.program.number)) is.text
    (plan.sound.codes p is.program is.at).means

-- if the reads are current, the run is that of the plan's program
pub record Ran (plan : Plan) (values : List Datum) (row : Latch) (store : Store) (effect : Effect) : Type 0 where
  pub after : after_run (plan_view plan) (program_at (plan_view plan) effect.activation.program) store row
      ≡ store_in plan (written_variables plan.slots.items values effect.writes)
  pub outcome : (past : Past) → past.store ≡ store → row_at past.rows effect.activation.row ≡ row
      → outcome_at (plan_view plan) past (Done effect.activation) ≡ Some effect.outcome

ran_outcome :
    (plan : plans.Plan) (past : Past) (row : Latch) (store : Store) (a : Activation) (q : plans.ProgramInstance)
    (o : Outcome) → program_at plan a.program ≡ Some q → row_at past.rows a.row ≡ row → past.store ≡ store
    → outcome_of q.code plan.budget store (image_of plan.inputs row.image) row.moment ≡ o
    → outcome_at plan past (Done a) ≡ Some o
ran_outcome plan past row store a q o at r s is =
    ap (option_map (λ p. outcome_of p.code plan.budget past.store (image_of plan.inputs (row_at past.rows a.row).image)
    (row_at past.rows a.row).moment)) at
    ∙ ap (λ (x : Latch). Some (outcome_of q.code plan.budget past.store (image_of plan.inputs x.image) x.moment)) r
    ∙ ap (λ x. Some (outcome_of q.code plan.budget x (image_of plan.inputs row.image) row.moment)) s
    ∙ ap (λ x. Some x) is

pub ran : (plan : Plan) (values : List Datum) (row : Latch) (store : Store) (effect : Effect)
    → length values ≡ length plan.variables.items
    → map (λ d. d.kind) values ≡ map (λ v. v.initial.kind) plan.variables.items
    → map (λ d. d.kind) row.image ≡ map (λ i. i.kind) plan.inputs.items → store_in plan values ≡ store
    → IsOwnOf plan row effect
    → IsTrueOf effect.code effect.moment effect.budget effect.reads effect.writes effect.outcome
    → agrees (merged plan.slots.items values row.image) effect.reads ≡ true → Ran plan values row store effect
ran plan values row store effect sized typed imaged is own true_of stands =
    let xs = plan.variables.items in
    let ins = plan.inputs.items in
    let ps = plan.slots.items in
    let layout = slots_among ps xs ins in
    let all = merged ps values row.image in
    let counted : length row.image ≡ length ins = sym (length-map row.image (λ (d : Datum). d.kind)) ∙ ap length imaged
    ∙ length-map ins (λ (i : PlanInput). i.kind) in
    let numbers = from_first ps (length xs) (length ins) plan.sound.numbered in
    let q = own_program plan row effect own in
    let program = program_numbered (source_view plan.text.value) q.program.number in
    let known = program_found plan effect.activation.program q.program q.at in
    let runs = true_of.run layout program all (own_means plan effect.activation.program effect.code q)
    (typed_merged ps xs ins values row.image typed imaged) stands in
    let s : store ≡ variables_with layout all = sym is
    ∙ sym (variables_merged (map input_slot ins) ps 0 0 xs ins values row.image numbers sized counted) in
    let i : image_of ins row.image ≡ inputs_in layout all =
    sym (inputs_merged ps 0 0 xs ins values row.image numbers sized counted) in
    record {
      after =
          ap (λ o. after_run (plan_view plan) o store row) known
          ∙ same_run Store (store_after program) plan.budget effect.budget store _ _ _ row.moment effect.moment
          (sym own.budget) s i (sym own.moment)
          ∙ runs.1
          ∙ variables_written ps xs ins effect.writes values row.image plan.sound.numbered sized counted;
      outcome = λ past e r. ran_outcome (plan_view plan) past row store effect.activation
          (program_view (source_view plan.text.value) q.program) effect.outcome known r e
          (same_run Outcome (outcome_of program) plan.budget effect.budget store _ _ _ row.moment effect.moment
          (sym own.budget) s i (sym own.moment) ∙ runs.0);
    }

-- a run changes no variable's type
pub run_shape : (plan : plans.Plan) (o : Option plans.ProgramInstance) (s : Store) (row : Latch)
    → shape_of (after_run plan o s row) ≡ shape_of s
run_shape plan None s row = refl
run_shape plan (Some p) s row = store_after_shape p.code plan.budget s (image_of plan.inputs row.image) row.moment

kinds_in : (s : Store) → map (λ e. e.1) (shape_of s) ≡ map (λ d. d.kind) (map (λ e. e.1) s)
kinds_in [] = refl
kinds_in (e ∷ s) = ap (λ (ks : List Kind). e.1.kind ∷ ks) (kinds_in s)

pub typed_same : (xs : List PlanVariable) (is : List PlanInput) (ds es : List Datum) → length ds ≡ length xs
    → length es ≡ length xs
    → shape_of (variables_with (layout_of xs is) es) ≡ shape_of (variables_with (layout_of xs is) ds)
    → map (λ d. d.kind) es ≡ map (λ d. d.kind) ds
typed_same xs is ds es d e same =
    sym (kinds_in (variables_with (layout_of xs is) es) ∙ ap (map (λ d. d.kind)) (values_back xs is es e))
    ∙ ap (map (λ e. e.1)) same
    ∙ kinds_in (variables_with (layout_of xs is) ds) ∙ ap (map (λ d. d.kind)) (values_back xs is ds d)

-- the activation that was taken away from the ready list
removed : (h : History) (old new : Ready) (a : Activation) (t : Bool) → Removes h old a t new → Waits old.schedules h a
    → IsReadyOf (with_run h a.program) new
removed h old new a true r w = r.1
removed h old new a false r w = absurd (r.0 w)

pub IsTrueOf-same : (e e' : Effect) → e ≡ e' → IsTrueOf e.code e.moment e.budget e.reads e.writes e.outcome
    → IsTrueOf e'.code e'.moment e'.budget e'.reads e'.writes e'.outcome
IsTrueOf-same e e' same h = subst (λ (x : Effect). IsTrueOf x.code x.moment x.budget x.reads x.writes x.outcome) same h

module _ {plan : Plan} {start values : List Datum} {before : Option ℕ} {samples : List Bool} {log : List Entry}
    {last : Option ℕ} {ready : Ready} (kept : IsKept plan start before values samples log last ready) where
  -- with a Done of an activation that waits
  IsKept-done : (a : Activation) (values' : List Datum) (ready' : Ready)
      → Waits (schedules_of (plan_view plan)) (past_of (plan_view plan) (store_in plan start) log).history a
      → length values' ≡ length values
      → store_in plan values' ≡ after_run (plan_view plan) (program_at (plan_view plan) a.program)
      (past_of (plan_view plan) (store_in plan start) log).store
      (row_at (past_of (plan_view plan) (store_in plan start) log).rows a.row)
      → ready'.schedules ≡ ready.schedules → length ready'.samples ≡ length ready.samples → ready'.last ≡ ready.last
      → ready'.rows ≡ ready.rows
      → IsReadyOf (with_run (past_of (plan_view plan) (store_in plan start) log).history a.program) ready'
      → IsKept plan start before values' samples (log ++ Done a ∷ []) last ready'
  IsKept-done a values' ready' waits same store schedules tasks latest number ready_is =
      let now = past_of (plan_view plan) (store_in plan start) log in
      record {
        legal =
            IsLegal-add (plan_view plan) (store_in plan start) before log (Done a) kept.legal (done_follows a waits);
        begun = kept.begun;
        sized = same ∙ kept.sized;
        typed = typed_same plan.variables.items plan.inputs.items values values' kept.sized (same ∙ kept.sized)
            (ap shape_of store ∙ run_shape (plan_view plan) (program_at (plan_view plan) a.program) now.store
            (row_at now.rows a.row) ∙ ap shape_of (sym kept.of_past.variables)) ∙ kept.typed;
        early = kept.early;
        numbered = kept.numbered;
        schedules = schedules ∙ kept.schedules;
        tasks = tasks ∙ kept.tasks;
        of_past = subst (IsOfPast plan before values' last ready')
            (sym (past_of-add (plan_view plan) (store_in plan start) log (Done a))) record {
              variables = store;
              sampled_count = kept.of_past.sampled_count;
              images = kept.of_past.images;
              last_is = kept.of_past.last_is;
              later = λ s. kept.of_past.later (omega (arith, s, number)) ∙ ap (λ m. Some m) (sym latest);
              ready_is = ready_is;
            };
      }

  pub waits_told : (a : Activation) (t : Bool)
      → ((h : History) → IsReadyOf h ready → IsTrue t ↔ Waits ready.schedules h a) → IsTrue t
      ↔ Waits (schedules_of (plan_view plan)) (past_of (plan_view plan) (store_in plan start) log).history a
  waits_told a t tells =
      subst (λ ps. IsTrue t ↔ Waits ps (past_of (plan_view plan) (store_in plan start) log).history a) kept.schedules
      (tells _ kept.of_past.ready_is)

  -- with an execution whose reads are current, and how its Done ends
  pub IsKept-commit : (effect : Effect) (ready' : Ready) (values' : List Datum) (t : Bool)
      → Waits (schedules_of (plan_view plan)) (past_of (plan_view plan) (store_in plan start) log).history
      effect.activation
      → IsOwnOf plan (row_at (past_of (plan_view plan) (store_in plan start) log).rows effect.activation.row) effect
      → IsTrueOf effect.code effect.moment effect.budget effect.reads effect.writes effect.outcome
      → agrees (merged plan.slots.items
      (map (λ e. e.1) (past_of (plan_view plan) (store_in plan start) log).store)
      (row_at (past_of (plan_view plan) (store_in plan start) log).rows effect.activation.row).image)
      effect.reads ≡ true
      → values' ≡ written_variables plan.slots.items values effect.writes
      → ready'.schedules ≡ ready.schedules → length ready'.samples ≡ length ready.samples → ready'.last ≡ ready.last
      → ready'.rows ≡ ready.rows
      → ((h : History) → IsReadyOf h ready → Removes h ready effect.activation t ready')
      → IsKept plan start before values' samples (log ++ Done effect.activation ∷ []) last ready'
      × IsReadyOf (with_run (past_of (plan_view plan) (store_in plan start) log).history effect.activation.program)
      ready'
      × (outcome_at (plan_view plan) (past_of (plan_view plan) (store_in plan start) log) (Done effect.activation)
      ≡ Some effect.outcome)
  IsKept-commit effect ready' values' t waits own true_of current is schedules tasks latest number remove =
      let now = past_of (plan_view plan) (store_in plan start) log in
      let row = row_at now.rows effect.activation.row in
      let imaged = kept.of_past.images effect.activation.row (waits-row kept effect.activation waits) in
      let agree : agrees (merged plan.slots.items values row.image) effect.reads ≡ true =
      ap (λ xs. agrees (merged plan.slots.items xs row.image) effect.reads) (values_are kept) ∙ current in
      let it =
      ran plan values row now.store effect kept.sized kept.typed imaged kept.of_past.variables own true_of agree in
      let gone = removed now.history ready ready' effect.activation t (remove now.history kept.of_past.ready_is)
      (subst (λ ps. Waits ps now.history effect.activation) (sym kept.schedules) waits) in (
        IsKept-done effect.activation values' ready' waits
            (ap length is ∙ length_written plan.slots.items values effect.writes)
            (ap (store_in plan) is ∙ sym it.after) schedules tasks latest number gone,
        gone,
        it.outcome now refl refl,
      )
