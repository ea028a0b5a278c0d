-- A checkpoint grows with the plan and not with its log.
use Rattle.std.proofs.Common.{◌≡◌, ℕ, zero, suc, Bool, true, false, List, [], ◌∷◌, length, slice_set}
use Rattle.std.proofs.Common.{Option, Some, None, refl, sym, ap, subst, ◌∙◌, arith}
use Rattle.std.specs.Prelude.{fold}
use Rattle.std.proofs.lemmas.List.{length-map}
use Rattle.st_types.specs.declared.entry.Entry.{Entry}
use Rattle.st_types.specs.declared.entry.Entry.TheVariants.{Row, Done}
use Rattle.st_types.specs.Rows.{Latch}
use Rattle.st_meaning.specs.declared.plan.Schedule.{Schedule}
use Rattle.st_meaning.specs.Stores.{Store, shape_of}
use Rattle.st_meaning.specs.Plans.{Plan, ProgramInstance, schedule_of, schedules_of, samples_of, sample_of, image_of}
use Rattle.st_meaning.specs.Plans.{fits, program_at, after_run}
use Rattle.st_meaning.specs.Logs.{Log, Past, with_entry, beginning, MayFollow, row_follows, IsLegal, IsLegalFrom}
use Rattle.st_meaning.proofs.RunLemmas.{store_after_shape}
use Rattle.checkpoints.specs.Checkpoints.{WaitingRow, ProgramProgress, Checkpoint, progress_at, first_checkpoint}
use Rattle.checkpoints.specs.Compaction.{is_due_next, due_with, progress_with, all_progress, own_row, compact_row}
use Rattle.checkpoints.specs.Compaction.{compact_done, compact_entry, compacted}
use Rattle.checkpoints.specs.Sizes.{HasBoundedSize}
use Rattle.checkpoints.proofs.RowLemmas.{progress_sized, no_progress_at}
use Rattle.checkpoints.proofs.DoneLemmas.{set_sized}

same_row : (x y : WaitingRow) → ◌≡◌ {A = Option WaitingRow} (Some x) (Some y) → x ≡ y
same_row x y e = cc

-- ---- a row

-- a program waits with a row that it waited with, or with the new one
due_row : (w : Option WaitingRow) (n : ℕ) (new x : WaitingRow) (fit : WaitingRow → Type 0)
    → ((y : WaitingRow) → w ≡ Some y → fit y) → fit new → (due_with w n new).waiting ≡ Some x → fit x
due_row None n new x fit old is e = subst fit (same_row new x e) is
due_row (Some y) n new x fit old is e = old x e

progress_row : (s : ProgramProgress) (b : Bool) (new x : WaitingRow) (fit : WaitingRow → Type 0)
    → ((y : WaitingRow) → s.waiting ≡ Some y → fit y) → fit new → (progress_with s b new).waiting ≡ Some x → fit x
progress_row s true new x fit old is e = due_row s.waiting s.overruns new x fit old is e
progress_row s false new x fit old is e = old x e

all_rows : (is_due : Schedule → Bool) (schedules : List Schedule) (programs : List ProgramProgress) (new : WaitingRow)
    (fit : WaitingRow → Type 0)
    → ((p : ℕ) (y : WaitingRow) → (progress_at programs p).waiting ≡ Some y → fit y) → fit new
    → (p : ℕ) (x : WaitingRow) → (progress_at (all_progress is_due schedules programs new) p).waiting ≡ Some x → fit x
all_rows is_due [] programs new fit old is p x e = absurd (cc)
all_rows is_due (s ∷ schedules) [] new fit old is p x e = absurd (cc)
all_rows is_due (s ∷ schedules) (q ∷ programs) new fit old is zero x e =
    progress_row q (is_due s) new x fit (λ y f. old 0 y f) is e
all_rows is_due (s ∷ schedules) (q ∷ programs) new fit old is (suc p) x e =
    all_rows is_due schedules programs new fit (λ k y f. old (suc k) y f) is p x e

-- a program that rests waited with no row, and the others wait with theirs
rests_there : (programs : List ProgramProgress) (p q n : ℕ) (x : WaitingRow)
    → (progress_at (slice_set programs p record { waiting = None; overruns = n }) q).waiting ≡ Some x
    → (progress_at programs q).waiting ≡ Some x
rests_there [] p q n x e = e
rests_there (s ∷ programs) zero zero n x e = absurd (cc)
rests_there (s ∷ programs) zero (suc q) n x e = e
rests_there (s ∷ programs) (suc p) zero n x e = e
rests_there (s ∷ programs) (suc p) (suc q) n x e = rests_there programs p q n x e

same_latch : (x y : Latch) → ◌≡◌ {A = Option Latch} (Some x) (Some y) → x ≡ y
same_latch x y e = cc

module _ (plan : Plan) (start : Store) (c : Checkpoint) (is : HasBoundedSize plan start c) where
  scheduled : length (schedules_of plan) ≡ length plan.programs
  scheduled = length-map plan.programs (schedule_of plan.tasks)

  size_of_row : (row : Latch) → fits plan row ≡ true → HasBoundedSize plan start (compact_row plan c row)
  size_of_row row fit = record {
    variables = is.variables;
    samples = let e : length (samples_of plan c.store row.image) ≡ length plan.tasks
        = length-map plan.tasks (λ t. sample_of c.store row.image t.single) in omega (arith, e);
    programs = progress_sized (is_due_next c row (samples_of plan c.store row.image)) (schedules_of plan) c.programs
        record { number = c.rows; row = row } (is.programs ∙ sym scheduled) ∙ scheduled;
    last_row = λ x e. ap (fits plan) (sym (same_latch row x e)) ∙ fit;
    waiting = all_rows (is_due_next c row (samples_of plan c.store row.image)) (schedules_of plan) c.programs
        record { number = c.rows; row = row } (λ (w : WaitingRow). fits plan w.row ≡ true) is.waiting fit;
  }

  -- ---- a Done

  shape_of_run : (o : Option ProgramInstance) (row : Latch) → shape_of (after_run plan o c.store row) ≡ shape_of c.store
  shape_of_run None row = refl
  shape_of_run (Some p) row =
      store_after_shape p.code plan.budget c.store (image_of plan.inputs row.image) row.moment

  size_of_done : (p : ℕ) → HasBoundedSize plan start (compact_done plan c p)
  size_of_done p = record {
    variables = shape_of_run (program_at plan p) (own_row c p) ∙ is.variables;
    samples = is.samples;
    programs = set_sized c.programs p record { waiting = None; overruns = (progress_at c.programs p).overruns }
        ∙ is.programs;
    last_row = is.last_row;
    waiting = λ q x e. is.waiting q x (rests_there c.programs p q (progress_at c.programs p).overruns x e);
  }

size_of_entry : (plan : Plan) (start : Store) (before : Option ℕ) (past : Past) (c : Checkpoint) (e : Entry)
    → HasBoundedSize plan start c → MayFollow plan before past e → HasBoundedSize plan start (compact_entry plan c e)
size_of_entry plan start before past c (Row row) is (row_follows _ fit late) = size_of_row plan start c is row fit
size_of_entry plan start before past c (Done a) is m = size_of_done plan start c is a.program

size_goes_on : (plan : Plan) (start : Store) (before : Option ℕ) (past : Past) (c : Checkpoint) (log : Log)
    → HasBoundedSize plan start c → IsLegalFrom plan before past log
    → HasBoundedSize plan start (fold (compact_entry plan) c log)
size_goes_on plan start before past c [] is legal = is
size_goes_on plan start before past c (e ∷ log) is legal =
    size_goes_on plan start before (with_entry plan past e) (compact_entry plan c e) log
    (size_of_entry plan start before past c e is legal.0) legal.1

size_at_first : (plan : Plan) (start : Store) → HasBoundedSize plan start (first_checkpoint plan start)
size_at_first plan start = record {
  variables = refl;
  samples = omega arith;
  programs = length-map plan.programs (λ p. record { waiting = None; overruns = 0 });
  last_row = λ row e. absurd (cc);
  waiting = λ p w e. let none = ap (λ (s : ProgramProgress). s.waiting) (no_progress_at plan.programs p) in absurd (cc);
}

pub size_is_bounded : (plan : Plan) (start : Store) (before : Option ℕ) (log : Log) → IsLegal plan start before log
    → HasBoundedSize plan start (compacted plan start log)
size_is_bounded plan start before log legal =
    size_goes_on plan start before (beginning start) (first_checkpoint plan start) log (size_at_first plan start) legal
