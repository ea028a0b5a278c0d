-- That the facts known of notes at one point imply those at another, by computation.
use Rattle.std.proofs.Common.{◌≡◌, ℕ, zero, suc, true, List, [], ◌∷◌, Some, refl, subst}
use Rattle.std.specs.Prelude.{slice_get}
use Rattle.quick_trees.specs.declared.noting.Noting.{Noting}
use Rattle.quick_trees.specs.Notes.{Implies, implies}
use Rattle.quick_trees.specs.Points.{Point}
use Rattle.quick_trees.proofs.Lists.{some_is}

abbrev pub EachTells : List Noting → List Noting → Type 0
EachTells ms [] = Unit {0}
EachTells [] (n ∷ ns) = ⊥
EachTells (m ∷ ms) (n ∷ ns) = (implies m n ≡ true) × EachTells ms ns

told_at : (ms ns : List Noting) → EachTells ms ns → (k : ℕ) (n : Noting) → slice_get ns k ≡ Some n
    → (m : Noting) × ((slice_get ms k ≡ Some m) × (implies m n ≡ true))
told_at ms [] each k n at = absurd cc
told_at [] (o ∷ ns) each k n at = absurd each
told_at (m ∷ ms) (o ∷ ns) each zero n at = (m, (refl, subst (λ n. implies m n ≡ true) (some_is at) each.0))
told_at (m ∷ ms) (o ∷ ns) each (suc k) n at = told_at ms ns each.1 k n at

pub each_tells : (ms ns : List Noting) → EachTells ms ns → Implies ms ns
each_tells ms ns each = record { each = told_at ms ns each }

-- a point of the code
abbrev pub at : ℕ → ℕ → List Noting → Point
at place ahead noted = record { place = place; ahead = ahead; noted = noted }
