-- A checkpoint answers all questions about its past, now and whatever follows.
use Rattle.std.proofs.Common.{◌≡◌, ℕ, ◌<◌, inl, inr, List, [], ◌∷◌, ◌++◌, length, Option, Some, None, refl, sym, ap}
use Rattle.std.proofs.Common.{◌∙◌, arith, ◌↔◌}
use Rattle.std.specs.Prelude.{fold, option_map}
use Rattle.std.proofs.lemmas.Bool.Decides.{leb_tells}
use Rattle.std.proofs.lemmas.List.{get_or_past}
use Rattle.std.proofs.lemmas.List.Sums.{fold-append}
use Rattle.st_types.specs.declared.entry.Entry.{Entry}
use Rattle.st_types.specs.declared.entry.Entry.TheVariants.{Row, Done}
use Rattle.st_types.specs.declared.entry.Activation.{Activation}
use Rattle.st_types.specs.Rows.{Latch}
use Rattle.st_meaning.specs.declared.plan.Schedule.{Schedule}
use Rattle.st_meaning.specs.Stores.{Store}
use Rattle.st_meaning.specs.Plans.{Plan, ProgramInstance, schedules_of, program_at}
use Rattle.st_meaning.specs.Logs.{Log, Past, with_entry, beginning, past_of, MayFollow, row_follows, done_follows}
use Rattle.st_meaning.specs.Logs.{IsLegal, IsLegalFrom, last_moment, is_later, outcome_at, outcomes_from, ended_by}
use Rattle.st_meaning.specs.Due.{Waits, NoneWaits, IsBest, HasOverruns}
use Rattle.checkpoints.specs.Checkpoints.{WaitingRow, ProgramProgress, Checkpoint, no_progress, progress_at}
use Rattle.checkpoints.specs.Checkpoints.{moment_before_next, first_checkpoint}
use Rattle.checkpoints.specs.Compaction.{own_row, compact_entry, compacted}
use Rattle.checkpoints.specs.CheckpointsOfPasts.{last_row_from, IsCheckpointOf}
use Rattle.checkpoints.specs.Continuation.{IsWaitingWith, IsWaitingIn, IsBestWaiting, NoneIsWaitingIn, MayContinue}
use Rattle.checkpoints.specs.Continuation.{IsLegalAfter, outcome_after, outcomes_after}
use Rattle.checkpoints.proofs.ProgressLemmas.{waiting_of_progress, overruns_of_progress}
use Rattle.checkpoints.proofs.RowLemmas.{checkpoint_at_first}
use Rattle.checkpoints.proofs.DoneLemmas.{checkpoint_of_entry, waits_in_it, row_of_it}

last_from : (before : Option ℕ) (last : Option Latch) (rows : List Latch)
    → last_moment (moment_before_next before last) rows ≡ moment_before_next before (last_row_from last rows)
last_from before last [] = refl
last_from before last (row ∷ rows) = last_from before (Some row) rows

no_number : (w : Option WaitingRow) (k : ℕ) → w ≡ None → IsWaitingWith w k → ⊥
no_number None k e n = n
no_number (Some x) k e n = absurd (cc)

module _ (plan : Plan) (past : Past) (c : Checkpoint) (is : IsCheckpointOf plan past c) where
  abbrev schedules : List Schedule
  schedules = schedules_of plan

  abbrev progress : ℕ → ProgramProgress
  progress p = progress_at c.programs p

  waits_before : (a : Activation) → IsWaitingIn c a → Waits schedules past.history a
  waits_before a n = elim (leb_tells (length c.programs) a.program) [
    | inl past_end ↦ absurd (no_number (progress a.program).waiting a.row
        (ap (λ (x : ProgramProgress). x.waiting) (get_or_past c.programs a.program no_progress past_end.1)) n)
    | inr within ↦ waiting_of_progress schedules past.history past.rows a.program (progress a.program).waiting
        (progress a.program).overruns a.row (is.placed a.program (omega (arith, within.1, is.sized))) n
  ]

  pub waits_iff : (a : Activation) → IsWaitingIn c a ↔ Waits schedules past.history a
  waits_iff a = (waits_before a, waits_in_it plan past c is a)

  pub best_iff : (resource : ℕ) (a : Activation)
      → IsBestWaiting plan c resource a ↔ IsBest schedules past.history resource a
  best_iff resource a = (
    λ b. record {
      waits = waits_before a b.waits;
      here = b.here;
      best = λ x w. b.best x (waits_in_it plan past c is x w);
    },
    λ b. record {
      waits = waits_in_it plan past c is a b.waits;
      here = b.here;
      best = λ x w. b.best x (waits_before x w);
    },
  )

  pub none_iff : (resource : ℕ) → NoneIsWaitingIn plan c resource ↔ NoneWaits schedules past.history resource
  none_iff resource = (
    λ n a w. n a (waits_in_it plan past c is a w),
    λ n a w. n a (waits_before a w),
  )

  pub overruns_are : (p : ℕ) → p < length schedules → HasOverruns schedules past.history p (progress p).overruns
  overruns_are p l = overruns_of_progress schedules past.history past.rows p (progress p).waiting (progress p).overruns
      (is.placed p l)

  pub moment_is : (before : Option ℕ) → last_moment before past.rows ≡ moment_before_next before c.last_row
  moment_is before = last_from before None past.rows ∙ ap (moment_before_next before) (sym is.last_row)

  continues : (before : Option ℕ) (e : Entry) → MayFollow plan before past e → MayContinue plan before c e
  continues before (Row row) (row_follows _ fit late) =
      (fit, ap (λ m. is_later m row.moment) (sym (moment_is before)) ∙ late)
  continues before (Done a) (done_follows _ w) = waits_in_it plan past c is a w

  follows : (before : Option ℕ) (e : Entry) → MayContinue plan before c e → MayFollow plan before past e
  follows before (Row row) m = row_follows row m.0 (ap (λ m. is_later m row.moment) (moment_is before) ∙ m.1)
  follows before (Done a) m = done_follows a (waits_before a m)

  pub follows_iff : (before : Option ℕ) (e : Entry) → MayContinue plan before c e ↔ MayFollow plan before past e
  follows_iff before e = (follows before e, continues before e)

  abbrev past_with : Store → Past
  past_with s = record { rows = past.rows; history = past.history; store = s }

  outcome_is : (before : Option ℕ) (e : Entry) → MayFollow plan before past e
      → outcome_after plan c e ≡ outcome_at plan past e
  outcome_is before (Row row) m = refl
  outcome_is before (Done a) (done_follows _ w) =
      ap (λ (s : Store). option_map (λ (p : ProgramInstance). ended_by plan (past_with s) (own_row c a.program) p)
      (program_at plan a.program)) is.store
      ∙ ap (λ (row : Latch). option_map (λ (p : ProgramInstance). ended_by plan past row p) (program_at plan a.program))
      (row_of_it plan past c is a w)

-- ---- whatever follows

pub checkpoint_goes_on : (plan : Plan) (before : Option ℕ) (past : Past) (c : Checkpoint) (rest : Log)
    → IsCheckpointOf plan past c → IsLegalFrom plan before past rest
    → IsCheckpointOf plan (fold (with_entry plan) past rest) (fold (compact_entry plan) c rest)
checkpoint_goes_on plan before past c [] is legal = is
checkpoint_goes_on plan before past c (e ∷ rest) is legal =
    checkpoint_goes_on plan before (with_entry plan past e) (compact_entry plan c e) rest
    (checkpoint_of_entry plan before past c e is legal.0) legal.1

pub checkpoint_is : (plan : Plan) (start : Store) (before : Option ℕ) (log : Log) → IsLegal plan start before log
    → IsCheckpointOf plan (past_of plan start log) (compacted plan start log)
checkpoint_is plan start before log legal =
    checkpoint_goes_on plan before (beginning start) (first_checkpoint plan start) log
    (checkpoint_at_first plan start) legal

legal_after : (plan : Plan) (before : Option ℕ) (past : Past) (c : Checkpoint) (rest : Log)
    → IsCheckpointOf plan past c → IsLegalFrom plan before past rest → IsLegalAfter plan before c rest
legal_after plan before past c [] is legal = tt
legal_after plan before past c (e ∷ rest) is legal = (
  (follows_iff plan past c is before e).1 legal.0,
  legal_after plan before (with_entry plan past e) (compact_entry plan c e) rest
      (checkpoint_of_entry plan before past c e is legal.0) legal.1,
)

legal_from : (plan : Plan) (before : Option ℕ) (past : Past) (c : Checkpoint) (rest : Log)
    → IsCheckpointOf plan past c → IsLegalAfter plan before c rest → IsLegalFrom plan before past rest
legal_from plan before past c [] is legal = tt
legal_from plan before past c (e ∷ rest) is legal =
    let m = (follows_iff plan past c is before e).0 legal.0 in (
      m,
      legal_from plan before (with_entry plan past e) (compact_entry plan c e) rest
          (checkpoint_of_entry plan before past c e is m) legal.1,
    )

pub legal_iff : (plan : Plan) (before : Option ℕ) (past : Past) (c : Checkpoint) (rest : Log)
    → IsCheckpointOf plan past c → IsLegalAfter plan before c rest ↔ IsLegalFrom plan before past rest
legal_iff plan before past c rest is = (legal_from plan before past c rest is, legal_after plan before past c rest is)

pub outcomes_are : (plan : Plan) (before : Option ℕ) (past : Past) (c : Checkpoint) (rest : Log)
    → IsCheckpointOf plan past c → IsLegalFrom plan before past rest
    → outcomes_after plan c rest ≡ outcomes_from plan past rest
outcomes_are plan before past c [] is legal = refl
outcomes_are plan before past c (e ∷ rest) is legal = rw (
  outcome_is plan past c is before e legal.0,
  outcomes_are plan before (with_entry plan past e) (compact_entry plan c e) rest
      (checkpoint_of_entry plan before past c e is legal.0) legal.1,
) refl

-- ---- a log in two parts

pub legal_parts : (plan : Plan) (before : Option ℕ) (past : Past) (front rest : Log)
    → IsLegalFrom plan before past (front ++ rest)
    → IsLegalFrom plan before past front × IsLegalFrom plan before (fold (with_entry plan) past front) rest
legal_parts plan before past [] rest legal = (tt, legal)
legal_parts plan before past (e ∷ front) rest legal =
    let more = legal_parts plan before (with_entry plan past e) front rest legal.1 in ((legal.0, more.0), more.1)

pub compacted_in_parts : (plan : Plan) (start : Store) (front rest : Log)
    → compacted plan start (front ++ rest) ≡ fold (compact_entry plan) (compacted plan start front) rest
compacted_in_parts plan start front rest = fold-append (compact_entry plan) (first_checkpoint plan start) front rest
