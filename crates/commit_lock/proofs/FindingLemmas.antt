-- The counts over a log.
use Rattle.std.proofs.Common.{◌≡◌, ◌∙◌, ap, arith, ℕ, ◌+◌, ◌<◌, min, sum, ◌++◌, Bool, true, false, List, [], ◌∷◌, length}
use Rattle.std.proofs.Common.{take, get_or, count_by, option_map, slice_get, unwrap_or, inl, inr}
use Rattle.std.proofs.lemmas.List.Sums.{count_by_more_no, count_by_more_yes, sum_by-append}
use Rattle.std.proofs.lemmas.List.{get_or_append_left, get_or_push, length-append}
use Rattle.std.proofs.lemmas.Bool.{cases_lt}
use Rattle.std.proofs.lemmas.Option.{slice_get_cases}
use Rattle.st_meaning.specs.Due.{HasOverruns}
use Rattle.st_meaning.specs.Plans.{schedules_of}
use Rattle.plan.specs.PlanViews.{plan_view}
use Rattle.serial_core.specs.Steps.{State, past_in}

-- a list has one more that passes if the next one passes, and no more if it doesn't
pub count_yes : {X : Type 0} (p : X → Bool) (xs : List X) (i : ℕ)
    → unwrap_or (option_map p (slice_get xs i)) false ≡ true → count_by p (take (i + 1) xs) ≡ count_by p (take i xs) + 1
count_yes p xs i is = elim (slice_get_cases xs i).1 [
  | inl (x, small, found, at) ↦ count_by_more_yes p xs i x small (rw at (rw found at is))
  | inr (past, none) ↦ let bad : false ≡ true = rw none at is in cc
]

pub count_no : {X : Type 0} (p : X → Bool) (xs : List X) (i : ℕ) → i < length xs
    → unwrap_or (option_map p (slice_get xs i)) false ≡ false → count_by p (take (i + 1) xs) ≡ count_by p (take i xs)
count_no p xs i small is = elim (slice_get_cases xs i).1 [
  | inl (x, less, found, at) ↦ count_by_more_no p xs i x small (rw at (rw found at is))
  | inr (past, none) ↦ absurd (omega arith)
]

-- the overruns of the first `programs` programs, one after another
pub record AreOverruns (life : State) (programs : ℕ) (each : List ℕ) : Type 0 where
  pub number : length each ≡ programs
  pub overruns : (p : ℕ) → p < programs → HasOverruns (schedules_of (plan_view life.plan)) (past_in life).history p
      (get_or each p 0)

-- the overruns of one more program
pub overruns_more : (life : State) (i n : ℕ) (each : List ℕ) → AreOverruns life i each
    → HasOverruns (schedules_of (plan_view life.plan)) (past_in life).history i n
    → AreOverruns life (i + 1) (each ++ n ∷ [])
overruns_more life i n each are has =
    let last : get_or (each ++ n ∷ []) i 0 ≡ n = get_or_push each n 0 i are.number in
    record {
      number = length-append each (n ∷ []) ∙ ap (λ k. k + 1) are.number;
      overruns = λ p less. elim (cases_lt p i) [
        | inl before ↦ rw (get_or_append_left each (n ∷ []) 0 p (rw are.number before)) (are.overruns p before)
        | inr behind ↦ let at : p ≡ i = omega arith in rw (at, last) has
      ];
    }

-- a sum that stops at a limit, with one number more
pub sum_more : (each : List ℕ) (n total limit : ℕ) → total ≡ min (sum each) limit
    → min (total + n) limit ≡ min (sum (each ++ n ∷ [])) limit
sum_more each n total limit so_far =
    let more : sum (each ++ n ∷ []) ≡ sum each + (0 + n) = sum_by-append (λ x. x) each (n ∷ []) in
    rw (so_far, more) (omega arith)
