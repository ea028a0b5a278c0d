-- The checkpoint that an engine has in its fields.
use Rattle.std.proofs.Common.{◌≡◌, ◌∙◌, ◌<◌, ℕ, zero, suc, List, [], ◌∷◌, length, Option, Some, None}
use Rattle.std.proofs.Common.{refl, sym, ap, subst, arith}
use Rattle.std.specs.Prelude.{unwrap_or}
use Rattle.std.proofs.lemmas.List.{length-map}
use Rattle.st_types.specs.Rows.{Latch}
use Rattle.st_types.specs.Values.{Datum}
use Rattle.st_meaning.specs.declared.plan.Schedule.{Schedule}
use Rattle.st_meaning.specs.Due.{History, Waits}
use Rattle.st_meaning.specs.Plans.{schedules_of}
use Rattle.st_meaning.specs.Logs.{Log, last_moment, row_at}
use Rattle.plan.specs.PlanViews.{plan_view}
use Rattle.ready_list.specs.declared.program_state.ProgramState.{ProgramState}
use Rattle.ready_list.specs.Ready.{IsProgramState, state_at}
use Rattle.checkpoints.specs.Checkpoints.{ProgramProgress, WaitingRow, moment_before_next, progress_at}
use Rattle.checkpoints.specs.CheckpointsOfPasts.{HasProgress, IsCheckpointOf, last_row_from}
use Rattle.core_engine.specs.Steps.{past_in, last_image, first_image}
use Rattle.core_engine.specs.Lived.{EngineView, IsEngine, IsEngineOf, life_in}
use Rattle.core_engine.specs.Checkpointed.{checkpoint_of, last_row_of, progress_of, progress_of_each}

-- the progress of a program among all
progress_in : (states : List ProgramState) (held : List Latch) (p : ℕ) → p < length held
    → progress_at (progress_of_each states held) p ≡ progress_of (state_at states p) (row_at held p)
progress_in states [] p there = absurd (omega (arith, there))
progress_in [] (row ∷ held) zero there = refl
progress_in (s ∷ states) (row ∷ held) zero there = refl
progress_in [] (row ∷ held) (suc p) there = progress_in [] held p (omega (arith, there))
progress_in (s ∷ states) (row ∷ held) (suc p) there = progress_in states held p (omega (arith, there))

each_long : (states : List ProgramState) (held : List Latch) → length (progress_of_each states held) ≡ length held
each_long states [] = refl
each_long [] (row ∷ held) = ap suc (each_long [] held)
each_long (s ∷ states) (row ∷ held) = ap suc (each_long states held)

some_is : (a b : WaitingRow) → ◌≡◌ {A = Option WaitingRow} (Some a) (Some b) → a ≡ b
some_is a b e = cc

-- the progress of a program is right if its state is, and it waits with the row in its place
progress_right : (schedules : List Schedule) (h : History) (rows : List Latch) (p : ℕ) (waiting : Option ℕ) (overruns : ℕ)
    (row : Latch) → IsProgramState schedules h p (record { waiting = waiting; overruns = overruns })
    → ((k : ℕ) → Waits schedules h (record { program = p; row = k }) → row ≡ row_at rows k)
    → HasProgress schedules h rows p (progress_of (record { waiting = waiting; overruns = overruns }) row)
progress_right schedules h rows p None overruns row is own = record {
  some = λ w e. absurd (cc);
  none = λ e. is.none refl;
  count = is.count;
  within = is.within;
}
progress_right schedules h rows p (Some k) overruns row is own = record {
  some = λ w e. subst (λ (x : WaitingRow). Waits schedules h (record { program = p; row = x.number })
      × (x.row ≡ row_at rows x.number)) (some_is (record { number = k; row = row }) w e) (is.some k refl, own k (is.some k refl));
  none = λ e. absurd (cc);
  count = is.count;
  within = is.within;
}

last_from : (row : Latch) (rows : List Latch)
    → ◌≡◌ {A = Option Latch} (Some (record {
      moment = unwrap_or (last_moment (Some row.moment) rows) 0;
      image = last_image row.image rows;
    })) (last_row_from (Some row) rows)
last_from row [] = refl
last_from row (next ∷ rows) = last_from next rows

-- the last row, by its moment and its inputs
last_is : (image : List Datum) (before : Option ℕ) (rows : List Latch) (n : ℕ) (last : Option ℕ) (newest : List Datum)
    → n ≡ length rows → last ≡ last_moment before rows → newest ≡ last_image image rows
    → last_row_of n last newest ≡ last_row_from None rows
last_is image before [] n last newest long l i = rw long refl
last_is image before (row ∷ rows) n last newest long l i = rw (long, l, i) (last_from row rows)

next_is : (n : ℕ) (last : Option ℕ) (image : List Datum) (m : ℕ) → 0 < n → last ≡ Some m
    → moment_before_next None (last_row_of n last image) ≡ Some m
next_is zero last image m some l = absurd (omega (arith, some))
next_is (suc n) last image m some l = rw l refl

-- an engine has the checkpoint of its past
pub has_checkpoint : (engine : EngineView) (start : List Datum) (log : Log) → IsEngine engine → IsEngineOf start log engine
    → IsCheckpointOf (plan_view engine.plan) (past_in (life_in engine start log)) (checkpoint_of engine)
has_checkpoint engine start log is of =
    let past = past_in (life_in engine start log) in
    let now = of.kept.of_past in
    let ready = now.ready_is in
    let same = of.kept.schedules in
    let long : length engine.held ≡ length (schedules_of (plan_view engine.plan)) = is.places ∙ ap length same in
    record {
      store = now.variables;
      rows = of.numbered ∙ sym now.sampled_count;
      latched = now.sampled_count;
      first = λ some. ready.first;
      last_row = last_is (first_image engine.plan.inputs.items) engine.before past.rows engine.rows engine.last
          engine.newest.image of.numbered now.last_is of.newest;
      last_moment = λ some. next_is engine.rows engine.last engine.newest.image engine.ready.last
          (omega (arith, some, of.numbered, now.sampled_count)) (now.later (omega (arith, some, ready.rows)))
          ∙ ap (λ (m : ℕ). Some m) ready.last;
      samples = ready.samples;
      sized = each_long engine.ready.states engine.held ∙ long;
      placed = λ p there.
          let at = subst (λ (s : List Schedule). IsProgramState s past.history p (state_at engine.ready.states p)) same
          (ready.placed p (omega (arith, there, ap length same))) in
          subst (λ (q : ProgramProgress). HasProgress (schedules_of (plan_view engine.plan)) past.history past.rows p q)
          (sym (progress_in engine.ready.states engine.held p (omega (arith, there, long))))
          (progress_right (schedules_of (plan_view engine.plan)) past.history past.rows p
          (state_at engine.ready.states p).waiting (state_at engine.ready.states p).overruns (row_at engine.held p) at
          (λ k waits. of.held (record { program = p; row = k }) waits));
    }

-- each program has a place for the row that it waits with
held_long : (engine : EngineView) → IsEngine engine → length engine.held ≡ length engine.plan.programs.items
held_long engine is =
    let (start, log, of) = is.live in
    is.places ∙ ap (λ (s : List Schedule). length s) of.kept.schedules ∙ length-map _ _ ∙ length-map _ _

-- each program has its progress
pub progress_long : (engine : EngineView) → IsEngine engine
    → length (checkpoint_of engine).programs ≡ length engine.plan.programs.items
progress_long engine is = each_long engine.ready.states engine.held ∙ held_long engine is

-- the overruns of a program are those of its progress
pub progress_told : (engine : EngineView) → IsEngine engine → (p n : ℕ) → n ≡ (state_at engine.ready.states p).overruns
    → p < length engine.plan.programs.items → n ≡ (progress_at (checkpoint_of engine).programs p).overruns
progress_told engine is p n told there =
    let long = held_long engine is in
    told ∙ sym (ap (λ (q : ProgramProgress). q.overruns)
    (progress_in engine.ready.states engine.held p (omega (arith, there, long))))
