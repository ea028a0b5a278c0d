-- The marking of all programs, step by step.
use Rattle.std.proofs.Common.{◌≡◌, ◌∙◌, ℕ, zero, suc, ◌+◌, ◌<◌, Bool, List, [], ◌∷◌, length, slice_set, None, refl, ap, arith}
use Rattle.std.specs.List.{AllByRecursion}
use Rattle.st_meaning.specs.declared.plan.Schedule.{Schedule}
use Rattle.st_meaning.specs.Due.{schedule_at}
use Rattle.checkpoints.specs.Checkpoints.{ProgramProgress, WaitingRow, progress_at}
use Rattle.checkpoints.specs.Compaction.{all_progress, progress_with}

module _ (is_due : Schedule → Bool) (new : WaitingRow) where
  -- the programs below a number are marked, and the others are as before
  abbrev pub marked_below : ℕ → List Schedule → List ProgramProgress → List ProgramProgress
  marked_below zero schedules programs = programs
  marked_below (suc n) [] programs = programs
  marked_below (suc n) (s ∷ schedules) [] = []
  marked_below (suc n) (s ∷ schedules) (p ∷ programs) =
      progress_with p (is_due s) new ∷ marked_below n schedules programs

  pub marked_long : (n : ℕ) (schedules : List Schedule) (programs : List ProgramProgress)
      → length (marked_below n schedules programs) ≡ length programs
  marked_long zero schedules programs = refl
  marked_long (suc n) [] programs = refl
  marked_long (suc n) (s ∷ schedules) [] = refl
  marked_long (suc n) (s ∷ schedules) (p ∷ programs) = ap suc (marked_long n schedules programs)

  -- one that isn't marked yet is as before
  pub marked_at : (n : ℕ) (schedules : List Schedule) (programs : List ProgramProgress)
      → progress_at (marked_below n schedules programs) n ≡ progress_at programs n
  marked_at zero schedules programs = refl
  marked_at (suc n) [] programs = refl
  marked_at (suc n) (s ∷ schedules) [] = refl
  marked_at (suc n) (s ∷ schedules) (p ∷ programs) = marked_at n schedules programs

  marked_next : (n : ℕ) (schedules : List Schedule) (programs : List ProgramProgress) → n < length schedules
      → n < length programs
      → slice_set (marked_below n schedules programs) n
      (progress_with (progress_at (marked_below n schedules programs) n) (is_due (schedule_at schedules n)) new)
      ≡ marked_below (suc n) schedules programs
  marked_next n [] programs small few = absurd (omega (arith, small))
  marked_next n (s ∷ schedules) [] small few = absurd (omega (arith, few))
  marked_next zero (s ∷ schedules) (p ∷ programs) small few = refl
  marked_next (suc n) (s ∷ schedules) (p ∷ programs) small few =
      ap (λ (ps : List ProgramProgress). progress_with p (is_due s) new ∷ ps)
      (marked_next n schedules programs (omega (arith, small)) (omega (arith, few)))

  pub marked_step : (n : ℕ) (schedules : List Schedule) (programs : List ProgramProgress) → n < length schedules
      → n < length programs
      → slice_set (marked_below n schedules programs) n
      (progress_with (progress_at (marked_below n schedules programs) n) (is_due (schedule_at schedules n)) new)
      ≡ marked_below (n + 1) schedules programs
  marked_step n schedules programs small few = marked_next n schedules programs small few
      ∙ (let next : suc n ≡ n + 1 = omega arith in ap (λ (k : ℕ). marked_below k schedules programs) next)

  pub marked_all : (n : ℕ) (schedules : List Schedule) (programs : List ProgramProgress) → n ≡ length schedules
      → length programs ≡ length schedules → marked_below n schedules programs ≡ all_progress is_due schedules programs new
  marked_all zero [] [] all same = refl
  marked_all zero [] (p ∷ programs) all same = absurd (omega (arith, same))
  marked_all (suc n) [] programs all same = absurd (omega (arith, all))
  marked_all zero (s ∷ schedules) programs all same = absurd (omega (arith, all))
  marked_all (suc n) (s ∷ schedules) [] all same = absurd (omega (arith, same))
  marked_all (suc n) (s ∷ schedules) (p ∷ programs) all same =
      ap (λ (ps : List ProgramProgress). progress_with p (is_due s) new ∷ ps)
      (marked_all n schedules programs (omega (arith, all)) (omega (arith, same)))

-- of each program, so of one
pub all_at : (P : ProgramProgress → Type 0) (programs : List ProgramProgress) (n : ℕ) → AllByRecursion P programs
    → n < length programs → P (progress_at programs n)
all_at P [] n each small = absurd (omega (arith, small))
all_at P (p ∷ programs) zero each small = each.0
all_at P (p ∷ programs) (suc n) each small = all_at P programs n each.1 (omega (arith, small))

-- what holds of each program before a row, and of one that is marked, holds of each after it
pub all_marked : (P Q : ProgramProgress → Type 0) (is_due : Schedule → Bool) (new : WaitingRow) (schedules : List Schedule)
    (programs : List ProgramProgress)
    → ((p : ProgramProgress) (due : Bool) → P p → Q (progress_with p due new)) → AllByRecursion P programs
    → AllByRecursion Q (all_progress is_due schedules programs new)
all_marked P Q is_due new [] programs step each = tt
all_marked P Q is_due new (s ∷ schedules) [] step each = tt
all_marked P Q is_due new (s ∷ schedules) (p ∷ programs) step each =
    (step p (is_due s) each.0, all_marked P Q is_due new schedules programs step each.1)

pub length_marked : (is_due : Schedule → Bool) (new : WaitingRow) (schedules : List Schedule)
    (programs : List ProgramProgress) → length programs ≡ length schedules
    → length (all_progress is_due schedules programs new) ≡ length programs
length_marked is_due new [] [] same = refl
length_marked is_due new [] (p ∷ programs) same = absurd (omega (arith, same))
length_marked is_due new (s ∷ schedules) [] same = absurd (omega (arith, same))
length_marked is_due new (s ∷ schedules) (p ∷ programs) same =
    ap suc (length_marked is_due new schedules programs (omega (arith, same)))

-- what follows for each program
pub all_weaker : (P Q : ProgramProgress → Type 0) (programs : List ProgramProgress)
    → ((p : ProgramProgress) → P p → Q p) → AllByRecursion P programs → AllByRecursion Q programs
all_weaker P Q [] step each = tt
all_weaker P Q (p ∷ programs) step each = (step p each.0, all_weaker P Q programs step each.1)

-- one program is another
pub all_set : (P : ProgramProgress → Type 0) (programs : List ProgramProgress) (n : ℕ) (p : ProgramProgress)
    → AllByRecursion P programs → P p → AllByRecursion P (slice_set programs n p)
all_set P [] n p each it = tt
all_set P (q ∷ programs) zero p each it = (it, each.1)
all_set P (q ∷ programs) (suc n) p each it = (each.0, all_set P programs n p each.1 it)
