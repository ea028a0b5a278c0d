-- The checkpoint of a life without entries, and what a row makes of a checkpoint.
use Rattle.std.proofs.Common.{◌≡◌, ℕ, zero, suc, ◌+◌, ◌-◌, ◌<◌, ◌==◌, Bool, true, false, if◌then◌else◌, List, [], ◌∷◌}
use Rattle.std.proofs.Common.{◌++◌, length, map, Option, Some, None, refl, sym, ap, subst, ◌∙◌, arith, length-append}
use Rattle.std.proofs.lemmas.Bool.{eq-eqb}
use Rattle.std.proofs.lemmas.Bool.Decides.{nat_tests}
use Rattle.st_types.specs.declared.entry.Entry.TheVariants.{Row}
use Rattle.st_types.specs.Rows.{Latch}
use Rattle.st_meaning.specs.declared.plan.Schedule.{Schedule}
use Rattle.st_meaning.specs.Stores.{Store}
use Rattle.st_meaning.specs.Plans.{Plan, ProgramInstance, schedule_of, schedules_of, samples_of}
use Rattle.st_meaning.specs.Logs.{Past, with_entry, beginning}
use Rattle.st_meaning.specs.Due.{SampledRow, History, sample, sampled_at, rule, schedule_at, due, with_row}
use Rattle.st_meaning.proofs.DueLemmas.{due-past, due-new, is_due-new, row_now-old, row_now-new}
use Rattle.checkpoints.specs.Checkpoints.{WaitingRow, ProgramProgress, Checkpoint, no_progress, progress_at}
use Rattle.checkpoints.specs.Checkpoints.{moment_before_next, first_checkpoint}
use Rattle.checkpoints.specs.Compaction.{first_moment, moment_or, is_due_next, progress_with, all_progress, compact_row}
use Rattle.checkpoints.specs.CheckpointsOfPasts.{last_row_from, HasProgress, IsCheckpointOf}
use Rattle.checkpoints.proofs.ProgressLemmas.{HasProgress-row}

-- ---- lists

progress_there : (is_due : Schedule → Bool) (schedules : List Schedule) (programs : List ProgramProgress)
    (new : WaitingRow) (p : ℕ) → length programs ≡ length schedules → p < length schedules
    → progress_at (all_progress is_due schedules programs new) p
    ≡ progress_with (progress_at programs p) (is_due (schedule_at schedules p)) new
progress_there is_due [] programs new p e l = absurd (omega (arith, l))
progress_there is_due (s ∷ schedules) [] new p e l = absurd (omega (arith, e))
progress_there is_due (s ∷ schedules) (x ∷ programs) new zero e l = refl
progress_there is_due (s ∷ schedules) (x ∷ programs) new (suc p) e l =
    progress_there is_due schedules programs new p (omega (arith, e)) (omega (arith, l))

pub progress_sized : (is_due : Schedule → Bool) (schedules : List Schedule) (programs : List ProgramProgress)
    (new : WaitingRow) → length programs ≡ length schedules
    → length (all_progress is_due schedules programs new) ≡ length schedules
progress_sized is_due [] programs new e = refl
progress_sized is_due (s ∷ schedules) [] new e = absurd (omega (arith, e))
progress_sized is_due (s ∷ schedules) (x ∷ programs) new e =
    ap suc (progress_sized is_due schedules programs new (omega (arith, e)))

no_last_row : (rows : List Latch) → length rows ≡ 0 → last_row_from None rows ≡ None
no_last_row [] e = refl
no_last_row (row ∷ rows) e = absurd (omega (arith, e))

moment_is_or : (row : Option Latch) (moment last : ℕ) → moment_before_next None row ≡ Some last
    → moment_or moment row ≡ last
moment_is_or None moment last e = absurd (cc)
moment_is_or (Some row) moment last e = cc

last_row-add : (last : Option Latch) (rows : List Latch) (row : Latch)
    → last_row_from last (rows ++ row ∷ []) ≡ Some row
last_row-add last [] row = refl
last_row-add last (x ∷ rows) row = last_row-add (Some x) rows row

pub no_progress_at : (ps : List ProgramInstance) (p : ℕ)
    → progress_at (map (λ q. record { waiting = None; overruns = 0 }) ps) p ≡ no_progress
no_progress_at [] p = refl
no_progress_at (q ∷ ps) zero = refl
no_progress_at (q ∷ ps) (suc p) = no_progress_at ps p

none_sized : (plan : Plan) (ps : List ProgramInstance)
    → ◌≡◌ {A = ℕ} (length (map {B = ProgramProgress} (λ q. record { waiting = None; overruns = 0 }) ps))
    (length (map (schedule_of plan.tasks) ps))
none_sized plan [] = refl
none_sized plan (q ∷ ps) = ap suc (none_sized plan ps)

-- ---- at first

nothing_placed : (schedules : List Schedule) (start : Store) (p : ℕ)
    → HasProgress schedules (beginning start).history [] p no_progress
nothing_placed schedules start p = record {
  some = λ x w. cc;
  none = λ w k u. due-past schedules p [] k (omega arith);
  count = refl;
  within = omega arith;
}

pub checkpoint_at_first : (plan : Plan) (start : Store)
    → IsCheckpointOf plan (beginning start) (first_checkpoint plan start)
checkpoint_at_first plan start = record {
  store = refl;
  rows = refl;
  latched = refl;
  first = λ l. absurd (omega (arith, l));
  last_row = refl;
  last_moment = λ l. absurd (omega (arith, l));
  samples = λ t. refl;
  sized = none_sized plan plan.programs;
  placed = λ p l. subst (HasProgress (schedules_of plan) (beginning start).history [] p)
      (sym (no_progress_at plan.programs p)) (nothing_placed (schedules_of plan) start p);
}

-- ---- a row

module _ (plan : Plan) (past : Past) (c : Checkpoint) (is : IsCheckpointOf plan past c) (row : Latch) where
  abbrev h : History
  h = past.history

  abbrev schedules : List Schedule
  schedules = schedules_of plan

  abbrev samples : List Bool
  samples = samples_of plan past.store row.image

  abbrev new : SampledRow
  new = record { moment = row.moment; samples = samples }

  longer_by : length (h.sampled ++ new ∷ []) ≡ length h.sampled + 1
  longer_by = length-append h.sampled (new ∷ [])

  sampled_last : sampled_at (h.sampled ++ new ∷ []) (length (h.sampled ++ new ∷ []) - 1) ≡ new
  sampled_last = let i : length (h.sampled ++ new ∷ []) - 1 ≡ length h.sampled = omega (arith, longer_by) in
      ap (sampled_at (h.sampled ++ new ∷ [])) i ∙ row_now-new h.sampled new

  zero_rows : length h.sampled ≡ 0 → (c.rows == 0) ≡ true
  zero_rows e = eq-eqb c.rows 0 (is.rows ∙ e)

  some_rows : 0 < length h.sampled → (c.rows == 0) ≡ false
  some_rows l = let e = is.rows in grind (arith, nat_tests)

  first_at_first : length h.sampled ≡ 0 → first_moment c row ≡ row.moment
  first_at_first e = ap (λ b. if b then row.moment else c.first) (zero_rows e)

  first_later : 0 < length h.sampled → first_moment c row ≡ (sampled_at h.sampled 0).moment
  first_later l = ap (λ b. if b then row.moment else c.first) (some_rows l) ∙ is.first l

  last_at_first : length h.sampled ≡ 0 → moment_or row.moment c.last_row ≡ row.moment
  last_at_first e = ap (moment_or row.moment) (is.last_row ∙ no_last_row past.rows (omega (arith, e, is.latched)))

  last_later : 0 < length h.sampled
      → moment_or row.moment c.last_row ≡ (sampled_at h.sampled (length h.sampled - 1)).moment
  last_later l = moment_is_or c.last_row row.moment _ (is.last_moment l)

  -- the checkpoint answers whether the program is due at the new row
  pub due_next : (p : ℕ) → p < length schedules
      → due schedules p (h.sampled ++ new ∷ []) (length h.sampled) ≡ is_due_next c row samples (schedule_at schedules p)
  due_next p l =
      let schedule = schedule_at schedules p in
      due-new h.sampled new schedules p l
      ∙ is_due-new schedule h.sampled new (sample c.samples schedule.task) (first_moment c row)
      (moment_or row.moment c.last_row) (is.samples schedule.task) first_at_first first_later last_at_first last_later
      ∙ ap (λ (n : ℕ). rule schedule.interval record {
        is_first = n == 0;
        single_before = sample c.samples schedule.task;
        single = sample samples schedule.task;
        first = first_moment c row;
        last = moment_or row.moment c.last_row;
        moment = row.moment;
      }) (sym is.rows)

  abbrev progress_over : Store → ℕ → ℕ → ProgramProgress
  progress_over s n p = progress_with (progress_at c.programs p)
      (is_due_next c row (samples_of plan s row.image) (schedule_at schedules p)) record { number = n; row = row }

  progress_as : (p : ℕ) → p < length schedules
      → progress_at (compact_row plan c row).programs p ≡ progress_over past.store (length h.sampled) p
  progress_as p l =
      progress_there (is_due_next c row (samples_of plan c.store row.image)) schedules c.programs
      record { number = c.rows; row = row } p is.sized l
      ∙ ap (λ (s : Store). progress_over s c.rows p) is.store
      ∙ ap (λ (n : ℕ). progress_over past.store n p) is.rows

  progress_of_row : (p : ℕ) → p < length schedules
      → HasProgress schedules (with_row h row.moment samples) (past.rows ++ row ∷ []) p
      (progress_at (compact_row plan c row).programs p)
  progress_of_row p l =
      subst (HasProgress schedules (with_row h row.moment samples) (past.rows ++ row ∷ []) p) (sym (progress_as p l))
      (HasProgress-row schedules h past.rows p is.latched samples row (progress_at c.programs p) (is.placed p l) _
      (due_next p l))

  first_is : (n : ℕ) → length h.sampled ≡ n → first_moment c row ≡ (sampled_at (h.sampled ++ new ∷ []) 0).moment
  first_is zero e = first_at_first e ∙ sym (ap (λ (t : SampledRow). t.moment)
      (ap (sampled_at (h.sampled ++ new ∷ [])) (sym e) ∙ row_now-new h.sampled new))
  first_is (suc n) e = first_later (omega arith)
      ∙ sym (ap (λ (t : SampledRow). t.moment) (row_now-old h.sampled new 0 (omega arith)))

  pub checkpoint_of_row : IsCheckpointOf plan (with_entry plan past (Row row)) (compact_row plan c row)
  checkpoint_of_row = record {
    store = is.store;
    rows = omega (arith, is.rows, longer_by);
    latched = omega (arith, is.latched, longer_by, length-append past.rows (row ∷ []));
    first = λ l. first_is (length h.sampled) refl;
    last_row = sym (last_row-add None past.rows row);
    last_moment = λ l. ap (λ (t : SampledRow). Some t.moment) (sym sampled_last);
    samples = λ t.
        let z : (length (h.sampled ++ new ∷ []) == 0) ≡ false = grind (arith, nat_tests, longer_by) in
        rw (z, sampled_last) (ap (λ (s : Store). sample (samples_of plan s row.image) t) is.store);
    sized = progress_sized (is_due_next c row (samples_of plan c.store row.image)) schedules c.programs
        record { number = c.rows; row = row } is.sized;
    placed = progress_of_row;
  }
