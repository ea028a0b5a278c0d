-- The order of three programs over four rows.
use Rattle.std.proofs.Common.{◌≡◌, ℕ, zero, suc, ◌≤◌, false, length, refl, arith}
use Rattle.std.proofs.lemmas.Bool.Decides.{nat_tests}
use Rattle.st_meaning.specs.Due.{History, served, Waits, NoneWaits, IsBest, sooner, HasOverruns}
use Rattle.st_meaning.specs.PlanExamples.{three_programs, four_rows, of, ran_3, ran_3_1, ran_all}
use Rattle.st_meaning.proofs.DueLemmas.{due-there}

-- there are three programs
no_fourth : (h : History) (p k : ℕ) → Waits three_programs h (of (suc (suc (suc p))) k) → ⊥
no_fourth h p k w = let t = due-there three_programs (suc (suc (suc p))) h.sampled k w.is in absurd (omega (arith, t.0))

-- a program that has run after all four rows does not wait
no_more : (h : History) (p k : ℕ) → Waits three_programs h (of p k) → length h.sampled ≡ 4 → served p h.runs ≡ 4 → ⊥
no_more h p k w rows runs =
    let t = due-there three_programs p h.sampled k w.is in
    let u : served p h.runs ≤ k = w.unserved in
    absurd (omega (arith, t.1))

first_is : (p k : ℕ) → Waits three_programs four_rows (of p k) → sooner three_programs (of p k) (of 2 1) ≡ false
first_is zero k w = refl
first_is (suc zero) k w = refl
first_is (suc (suc zero)) zero w = let e = w.is in absurd (cc)
first_is (suc (suc zero)) (suc k) w = grind (arith, nat_tests)
first_is (suc (suc (suc p))) k w = absurd (no_fourth four_rows p k w)

second_is : (p k : ℕ) → Waits three_programs ran_3 (of p k) → sooner three_programs (of p k) (of 0 0) ≡ false
second_is zero k w = grind (arith, nat_tests)
second_is (suc zero) k w = grind (arith, nat_tests)
second_is (suc (suc zero)) k w = absurd (no_more ran_3 2 k w refl refl)
second_is (suc (suc (suc p))) k w = absurd (no_fourth ran_3 p k w)

third_is : (p k : ℕ) → Waits three_programs ran_3_1 (of p k) → sooner three_programs (of p k) (of 1 0) ≡ false
third_is zero k w = absurd (no_more ran_3_1 0 k w refl refl)
third_is (suc zero) k w = grind (arith, nat_tests)
third_is (suc (suc zero)) k w = absurd (no_more ran_3_1 2 k w refl refl)
third_is (suc (suc (suc p))) k w = absurd (no_fourth ran_3_1 p k w)

last_is : (p k : ℕ) → Waits three_programs ran_all (of p k) → ⊥
last_is zero k w = no_more ran_all 0 k w refl refl
last_is (suc zero) k w = no_more ran_all 1 k w refl refl
last_is (suc (suc zero)) k w = no_more ran_all 2 k w refl refl
last_is (suc (suc (suc p))) k w = no_fourth ran_all p k w

pub first : IsBest three_programs four_rows 0 (of 2 1)
first = record {
  waits = record { is = refl; unserved = omega arith; first = λ k le lt. let e : k ≡ 0 = omega arith in rw e refl };
  here = refl;
  best = λ b w h. first_is b.program b.row w;
}

pub second : IsBest three_programs ran_3 0 (of 0 0)
second = record {
  waits = record { is = refl; unserved = omega arith; first = λ k le lt. absurd (omega arith) };
  here = refl;
  best = λ b w h. second_is b.program b.row w;
}

pub third : IsBest three_programs ran_3_1 0 (of 1 0)
third = record {
  waits = record { is = refl; unserved = omega arith; first = λ k le lt. absurd (omega arith) };
  here = refl;
  best = λ b w h. third_is b.program b.row w;
}

pub then_none : NoneWaits three_programs ran_all 0
then_none = λ b w h. last_is b.program b.row w

pub overruns_1 : HasOverruns three_programs ran_all 0 2
overruns_1 = record { waiting = λ k w. absurd (last_is 0 k w); resting = λ w. refl }

pub overruns_2 : HasOverruns three_programs ran_all 1 1
overruns_2 = record { waiting = λ k w. absurd (last_is 1 k w); resting = λ w. refl }

pub overruns_3 : HasOverruns three_programs ran_all 2 0
overruns_3 = record { waiting = λ k w. absurd (last_is 2 k w); resting = λ w. refl }
