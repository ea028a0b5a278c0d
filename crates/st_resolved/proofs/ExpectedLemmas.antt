-- The types that calls expect, place by place.
use Rattle.std.proofs.Common.{◌≡◌, ◌≢◌, ◌∙◌, ap, refl, ℕ, zero, suc, ◌<◌, List, [], ◌∷◌, drop, replicate, arith, Option}
use Rattle.st_types.specs.declared.kind.Kind.{Kind}
use Rattle.st_meaning.specs.Resolution.{first_kind}

pub among_first : (n i : ℕ) (k : Option Kind) → i < n → k ≡ first_kind (drop i (replicate n k))
among_first zero i k h = absurd (omega arith)
among_first (suc n) zero k h = refl
among_first (suc n) (suc i) k h = among_first n i k (omega arith)

-- after the first
pub behind_first : (k l : Option Kind) (ks : List (Option Kind)) (i : ℕ) → i ≢ 0
    → first_kind (drop i (k ∷ ks)) ≡ first_kind (drop i (l ∷ ks))
behind_first k l ks zero h = absurd (h refl)
behind_first k l ks (suc i) h = refl
