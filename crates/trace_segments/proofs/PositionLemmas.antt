-- A position after a row, and after an execution.
use Rattle.std.proofs.Common.{◌≡◌, ◌∙◌, ℕ, zero, suc, ◌+◌, ◌<◌, ◌≤◌, ◌^◌, Bool, true, false, List, [], ◌∷◌, length, map, Option, Some, None}
use Rattle.std.proofs.Common.{min, sum_by, take, get_or, IfSome, option_map, slice_get, slice_set, length-set, refl, sym, ap, subst, arith, IsTrue, ◌↔◌}
use Rattle.std.specs.List.{AllByRecursion}
use Rattle.std.proofs.lemmas.List.{length-map}
use Rattle.std.proofs.lemmas.List.Sums.{sum_by_more}
use Rattle.std.proofs.lemmas.Bool.{ltb-true}
use Rattle.st_types.specs.declared.limits.TheConstants.{MOMENT_LIMIT}
use Rattle.st_types.specs.Values.{Datum}
use Rattle.st_types.specs.Rows.{Latch}
use Rattle.st_types.specs.declared.entry.Activation.{Activation}
use Rattle.st_types.specs.declared.entry.Entry.TheVariants.{Row, Done}
use Rattle.st_types.proofs.TestLemmas.{and_first, and_second}
use Rattle.st_meaning.specs.declared.plan.Schedule.{Schedule}
use Rattle.st_meaning.specs.declared.outcome.Outcome.{Outcome}
use Rattle.st_meaning.specs.Stores.{Store, shape_of}
use Rattle.st_meaning.specs.Due.{no_history}
use Rattle.st_meaning.specs.Plans as plans
use Rattle.st_meaning.specs.Plans.{after_run, fits, image_of, program_at, samples_of, schedules_of}
use Rattle.st_meaning.specs.Runs.{outcome_of}
use Rattle.st_meaning.specs.Slots.{agrees}
use Rattle.st_meaning.specs.Logs.{Past, is_later, outcome_at, row_at}
use Rattle.plan.specs.declared.plan.Plan.{Plan}
use Rattle.plan.specs.PlanViews.{plan_view}
use Rattle.plan.specs.SlotPlaces.{are_numbered, merged, written_variables}
use Rattle.plan.proofs.SlotLemmas.{typed_merged}
use Rattle.slot_code.specs.declared.code.Code.{Code}
use Rattle.slot_run.specs.Effects.{Effect, IsTrueOf}
use Rattle.slot_run.specs.Executions.{IsEffectOf}
use Rattle.slot_run.specs.declared.snapshot.Snapshot.{Snapshot}
use Rattle.slot_code.specs.Codes.{code_view}
use Rattle.ready_list.specs.Ready.{is_due_at}
use Rattle.ready_list.specs.declared.program_state.NewRow.{NewRow}
use Rattle.checkpoints.specs.Checkpoints.{Checkpoint, ProgramProgress, WaitingRow, moment_before_next, progress_at}
use Rattle.checkpoints.specs.Compaction.{all_progress, compact_done, compact_row, due_with, first_moment, moment_or}
use Rattle.checkpoints.specs.Compaction.{own_row, progress_with, row_waiting}
use Rattle.checkpoints.specs.Continuation.{IsWaitingWith, MayContinue, outcome_after}
use Rattle.core_engine.specs.Steps.{IsOwnOf, code_at, store_in}
use Rattle.core_engine.proofs.TakeLemmas.{kinds_at}
use Rattle.core_engine.specs.Samples.{sample_task}
use Rattle.core_engine.proofs.LatchLemmas.{image_typed, samples_same}
use Rattle.core_engine.proofs.CommitLemmas.{ran, run_shape, typed_same}
use Rattle.core_engine.proofs.ReadLemmas.{reads_stand}
use Rattle.trace_segments.specs.Positions.{HasRun, IsPosition, IsTyped, PositionView, WaitsWith, checkpoint_at, most_rows}
use Rattle.trace_segments.proofs.MarkLemmas.{all_at, all_marked, all_set, all_weaker, length_marked}

-- ---- values by slots

pub values_sized : (position : PositionView) → IsPosition position
    → length position.values ≡ length position.plan.variables.items
values_sized position is = sym (length-map position.values (λ (d : Datum). d.kind)) ∙ ap length is.typed
    ∙ length-map position.plan.variables.items _

pub samples_here : (position : PositionView) → IsPosition position → (image : List Datum)
    → map (sample_task position.values image) position.plan.tasks.items
    ≡ samples_of (plan_view position.plan) (checkpoint_at position).store image
samples_here position is image = samples_same position.plan.variables.items position.plan.inputs.items position.values image
    position.plan.tasks.items position.plan.sound.layout (values_sized position is) position.plan.sound.singles

-- ---- overruns

-- those of one program more, in all
pub overruns_next : (ps : List ProgramProgress) (i : ℕ) (p : ProgramProgress) (old n new limit : ℕ) → i < length ps
    → p ≡ get_or ps i p → old ≡ min (sum_by (λ q. q.overruns) (take i ps)) limit → n ≡ p.overruns
    → new ≡ min (old + n) limit → new ≡ min (sum_by (λ q. q.overruns) (take (i + 1) ps)) limit
overruns_next ps i p old n new limit small at so_far is sum =
    let more = sum_by_more (λ (q : ProgramProgress). q.overruns) ps i p small in
    let this : (get_or ps i p).overruns ≡ n = ap (λ (q : ProgramProgress). q.overruns) (sym at) ∙ sym is in
    omega (arith, so_far, more, this, sum)

-- ---- a row

-- the position after a row
abbrev pub after_row : PositionView → Latch → ℕ → List Bool → List ProgramProgress → PositionView
after_row old row first samples programs = record {
  plan = old.plan;
  before = old.before;
  values = old.values;
  rows = old.rows + 1;
  first = first;
  last_row = Some row;
  samples = samples;
  programs = programs;
}

pub row_after : (old : PositionView) (row : Latch) (new : NewRow) (schedules : List Schedule) (samples : List Bool)
    (programs : List ProgramProgress)
    → new ≡ record {
      number = old.rows;
      first = first_moment (checkpoint_at old) row;
      last = moment_or row.moment old.last_row;
      moment = row.moment;
    }
    → schedules ≡ schedules_of (plan_view old.plan)
    → samples ≡ samples_of (plan_view old.plan) (checkpoint_at old).store row.image
    → programs ≡ all_progress (λ s. is_due_at new s old.samples samples) schedules old.programs
    record { number = new.number; row = row }
    → checkpoint_at (after_row old row new.first samples programs) ≡ compact_row (plan_view old.plan) (checkpoint_at old) row
row_after old row new schedules samples programs is scheduled sampled marked = rw (marked, sampled, scheduled, is) refl

waiting_with : (plan : Plan) (number : ℕ) (row : Latch) (p : ProgramProgress) (due : Bool) → IsTyped plan row
    → IfSome p.waiting (λ (w : WaitingRow). IsTyped plan w.row)
    → IfSome (progress_with p due record { number = number; row = row }).waiting (λ (w : WaitingRow). IsTyped plan w.row)
waiting_with plan number row p false typed was = was
waiting_with plan number row p true typed was = by_case p.waiting was
  where
    by_case : (waiting : Option WaitingRow) → IfSome waiting (λ (w : WaitingRow). IsTyped plan w.row)
        → IfSome (due_with waiting p.overruns record { number = number; row = row }).waiting (λ (w : WaitingRow). IsTyped plan w.row)
    by_case None was = typed
    by_case (Some w) was = was

overruns_with : (rows : ℕ) (new : WaitingRow) (p : ProgramProgress) (due : Bool) → p.overruns ≤ rows
    → (progress_with p due new).overruns ≤ rows + 1
overruns_with rows new p false few = omega (arith, few)
overruns_with rows new p true few = by_case p.waiting
  where
    by_case : (waiting : Option WaitingRow) → (due_with waiting p.overruns new).overruns ≤ rows + 1
    by_case None = omega (arith, few)
    by_case (Some w) = omega (arith, few)

-- rows are few, and later
rows_few : (before : Option ℕ) (rows moment : ℕ) (last : Option Latch) → rows ≤ most_rows last
    → is_later (moment_before_next before last) moment ≡ true → rows + 1 ≤ moment + 1
rows_few before rows moment None few later = omega (arith, few)
rows_few before rows moment (Some row) few later = omega (arith, few, ltb-true row.moment moment later)

pub IsPosition-row : (old : PositionView) (row : Latch) (first : ℕ) (schedules : List Schedule) (samples : List Bool)
    (is_due : Schedule → Bool) (number : ℕ) (programs : List ProgramProgress) → IsPosition old
    → MayContinue (plan_view old.plan) old.before (checkpoint_at old) (Row row)
    → schedules ≡ schedules_of (plan_view old.plan)
    → programs ≡ all_progress is_due schedules old.programs record { number = number; row = row }
    → IsPosition (after_row old row first samples programs)
IsPosition-row old row first schedules samples is_due number programs is may scheduled marked =
    let new : WaitingRow = record { number = number; row = row } in
    let typed = image_typed old.plan row may.0 in
    let long : length old.programs ≡ length schedules =
    is.placed ∙ sym (ap length scheduled ∙ length-map _ _ ∙ length-map _ _) in record {
      typed = is.typed;
      placed = ap length marked ∙ length_marked is_due new schedules old.programs long ∙ is.placed;
      waiting = subst (AllByRecursion (λ p. IfSome p.waiting (λ (w : WaitingRow). IsTyped old.plan w.row))) (sym marked)
          (all_marked (λ p. IfSome p.waiting (λ (w : WaitingRow). IsTyped old.plan w.row))
          (λ p. IfSome p.waiting (λ (w : WaitingRow). IsTyped old.plan w.row)) is_due new schedules old.programs
          (λ p due was. waiting_with old.plan number row p due typed was) is.waiting);
      overruns = subst (AllByRecursion (λ p. p.overruns ≤ old.rows + 1)) (sym marked)
          (all_marked (λ p. p.overruns ≤ old.rows) (λ p. p.overruns ≤ old.rows + 1) is_due new schedules old.programs
          (λ p due few. overruns_with old.rows new p due few) is.overruns);
      few = rows_few old.before old.rows row.moment old.last_row is.few may.1;
      early = ltb-true row.moment MOMENT_LIMIT (and_second _ _ may.0);
    }

-- there is room to count on
pub rows_low : (old : PositionView) → IsPosition old → old.rows ≤ MOMENT_LIMIT
rows_low old is = by_last old.last_row is.few is.early
  where
    by_last : (last : Option Latch) → old.rows ≤ most_rows last → IfSome last (λ row. row.moment < MOMENT_LIMIT)
        → old.rows ≤ MOMENT_LIMIT
    by_last None few early = omega (arith, few)
    by_last (Some row) few early = omega (arith, few, early)

pub overruns_low : (old : PositionView) → IsPosition old → AllByRecursion (λ p. p.overruns < 2 ^ 63) old.programs
overruns_low old is = all_weaker (λ p. p.overruns ≤ old.rows) (λ p. p.overruns < 2 ^ 63) old.programs
    (λ p few. omega (arith, few, rows_low old is)) is.overruns

-- ---- an execution

-- the position after an execution
abbrev pub after_done : PositionView → List Datum → List ProgramProgress → PositionView
after_done old values programs = record {
  plan = old.plan;
  before = old.before;
  values = values;
  rows = old.rows;
  first = old.first;
  last_row = old.last_row;
  samples = old.samples;
  programs = programs;
}

pub done_after : (old : PositionView) (a : Activation) (effect : Effect) (values : List Datum)
    (programs : List ProgramProgress) → HasRun old a effect
    → values ≡ written_variables old.plan.slots.items old.values effect.writes
    → programs ≡ slice_set old.programs a.program
    record { waiting = None; overruns = (progress_at old.programs a.program).overruns }
    → checkpoint_at (after_done old values programs) ≡ compact_done (plan_view old.plan) (checkpoint_at old) a.program
done_after old a effect values programs has written ended =
    let store : store_in old.plan values ≡ after_run (plan_view old.plan) (program_at (plan_view old.plan) a.program)
    (checkpoint_at old).store (own_row (checkpoint_at old) a.program) = ap (store_in old.plan) written ∙ has.after in
    rw (ended, store) refl

pub IsPosition-done : (old : PositionView) (a : Activation) (effect : Effect) (values : List Datum)
    (programs : List ProgramProgress) → IsPosition old → HasRun old a effect
    → values ≡ written_variables old.plan.slots.items old.values effect.writes → length values ≡ length old.values
    → a.program < length old.programs
    → programs ≡ slice_set old.programs a.program
    record { waiting = None; overruns = (progress_at old.programs a.program).overruns }
    → (progress_at old.programs a.program).overruns ≤ old.rows
    → IsPosition (after_done old values programs)
IsPosition-done old a effect values programs is has written same there ended few =
    let rested : ProgramProgress = record { waiting = None; overruns = (progress_at old.programs a.program).overruns } in
    let sized = values_sized old is in
    let store : store_in old.plan values ≡ after_run (plan_view old.plan) (program_at (plan_view old.plan) a.program)
    (checkpoint_at old).store (own_row (checkpoint_at old) a.program) = ap (store_in old.plan) written ∙ has.after in
    record {
      typed = typed_same old.plan.variables.items old.plan.inputs.items old.values values sized (same ∙ sized)
          (ap shape_of store ∙ run_shape (plan_view old.plan) (program_at (plan_view old.plan) a.program)
          (checkpoint_at old).store (own_row (checkpoint_at old) a.program)) ∙ is.typed;
      placed = ap length ended ∙ length-set old.programs a.program rested ∙ is.placed;
      waiting = subst (AllByRecursion (λ p. IfSome p.waiting (λ (w : WaitingRow). IsTyped old.plan w.row))) (sym ended)
          (all_set (λ p. IfSome p.waiting (λ (w : WaitingRow). IsTyped old.plan w.row)) old.programs a.program rested
          is.waiting tt);
      overruns = subst (AllByRecursion (λ p. p.overruns ≤ old.rows)) (sym ended)
          (all_set (λ p. p.overruns ≤ old.rows) old.programs a.program rested is.overruns few);
      few = is.few;
      early = is.early;
    }

-- so many rows, of which the last is this one
abbrev rows_to : ℕ → Latch → List Latch
rows_to zero row = row ∷ []
rows_to (suc n) row = row ∷ rows_to n row

last_of : (n : ℕ) (row : Latch) → row_at (rows_to n row) n ≡ row
last_of zero row = refl
last_of (suc n) row = last_of n row

-- a program that waits is there
pub waits_there : (programs : List ProgramProgress) (p k : ℕ) → IsWaitingWith (progress_at programs p).waiting k
    → p < length programs
waits_there [] p k waits = absurd waits
waits_there (q ∷ programs) zero k waits = omega arith
waits_there (q ∷ programs) (suc p) k waits =
    let there = waits_there programs p k waits in omega (arith, there)

-- the row of a program that waits has its types
row_typed : (plan : Plan) (o : Option WaitingRow) (k : ℕ) → IfSome o (λ (w : WaitingRow). IsTyped plan w.row)
    → IsWaitingWith o k → IsTyped plan (row_waiting o)
row_typed plan None k typed waits = absurd waits
row_typed plan (Some w) k typed waits = typed

pub position_row : (position : PositionView) → IsPosition position → (a : Activation) (row : Latch)
    → WaitsWith position.programs a row → IsTyped position.plan row
position_row position is a row waits = subst (IsTyped position.plan) waits.1
    (row_typed position.plan (progress_at position.programs a.program).waiting a.row
    (all_at (λ p. IfSome p.waiting (λ (w : WaitingRow). IsTyped position.plan w.row)) position.programs a.program is.waiting
    (waits_there position.programs a.program a.row waits.0)) waits.0)

-- the values of slots are numbered and typed as the plan's
pub slots_there : (position : PositionView) → IsPosition position → (row : Latch) → IsTyped position.plan row
    → are_numbered 0 0 position.plan.slots.items (length position.values) (length row.image) ≡ true
slots_there position is row typed =
    let plan = position.plan in
    let sized = values_sized position is in
    let counted : length row.image ≡ length plan.inputs.items =
    sym (length-map row.image (λ (d : Datum). d.kind)) ∙ ap length typed ∙ length-map plan.inputs.items _ in
    ap (λ n. are_numbered 0 0 plan.slots.items n (length row.image)) sized
    ∙ ap (are_numbered 0 0 plan.slots.items (length plan.variables.items)) counted ∙ plan.sound.numbered

pub slots_typed : (position : PositionView) → IsPosition position → (p : ℕ) (row : Latch) (code : Code)
    → IsTyped position.plan row → code_at position.plan p ≡ Some code
    → map (λ d. d.kind) (merged position.plan.slots.items position.values row.image) ≡ code.kinds.value.items
slots_typed position is p row code typed at =
    typed_merged position.plan.slots.items position.plan.variables.items position.plan.inputs.items position.values row.image
    is.typed typed ∙ kinds_at position.plan p code at

-- an effect of a snapshot of a position is an execution there
pub effect_ran : (position : PositionView) → IsPosition position → (a : Activation) (row : Latch) (snapshot : Snapshot)
    (effect : Effect) → WaitsWith position.programs a row → code_at position.plan a.program ≡ Some snapshot.code.value
    → snapshot.activation ≡ a → snapshot.moment ≡ row.moment → snapshot.budget ≡ position.plan.budget
    → snapshot.slots.items ≡ merged position.plan.slots.items position.values row.image → IsEffectOf snapshot effect
    → IsTrueOf effect.code effect.moment effect.budget effect.reads effect.writes effect.outcome
    → HasRun position a effect
effect_ran position is a row snapshot effect waits code act moment budget slots of true_of =
    let plan = position.plan in
    let store = (checkpoint_at position).store in
    let k = effect.activation.row in
    let same : effect.activation ≡ a = of.activation ∙ act in
    let sized = values_sized position is in
    let typed = position_row position is a row waits in
    let own : IsOwnOf plan row effect = record {
      text = ap (λ (x : Activation). option_map code_view (code_at plan x.program)) same
          ∙ ap (option_map code_view) code ∙ ap Some (sym of.code);
      moment = of.moment ∙ moment;
      budget = of.budget ∙ budget;
    } in
    let current : agrees (merged plan.slots.items position.values row.image) effect.reads ≡ true =
    ap (λ xs. agrees xs effect.reads) (sym slots) ∙ reads_stand snapshot effect of in
    let it = ran plan position.values row store effect sized is.typed typed refl own true_of current in
    let ended : Latch → plans.ProgramInstance → Outcome = λ r p. outcome_of p.code plan.budget store
    (image_of plan.inputs.items r.image) r.moment in
    record {
      after = sym it.after
          ∙ ap (λ (x : Activation). after_run (plan_view plan) (program_at (plan_view plan) x.program) store row) same
          ∙ ap (after_run (plan_view plan) (program_at (plan_view plan) a.program) store) (sym waits.1);
      outcome = ap (λ (r : Latch). option_map (ended r) (program_at (plan_view plan) a.program)) waits.1
          ∙ ap (λ (x : Activation). option_map (ended row) (program_at (plan_view plan) x.program)) (sym same)
          ∙ ap (λ (r : Latch). option_map (ended r) (program_at (plan_view plan) effect.activation.program))
          (sym (last_of k row))
          ∙ it.outcome record { rows = rows_to k row; history = no_history; store = store } refl (last_of k row);
    }
