-- Facts that hold below a number.
use Rattle.std.proofs.Common.{◌≡◌, ℕ, ◌<◌, ◌+◌, arith, subst}
use Rattle.std.proofs.lemmas.Bool.{cases_lt}
use Rattle.std.proofs.Common.{inl, inr}

pub one_more : (P : ℕ → Type 0) (i : ℕ) → ((j : ℕ) → j < i → P j) → P i → (j : ℕ) → j < i + 1 → P j
one_more P i below here j lt =
    elim (cases_lt j i) [
      | inl h ↦ below j h
      | inr h ↦ (let e : i ≡ j = omega arith in subst P e here)
    ]
