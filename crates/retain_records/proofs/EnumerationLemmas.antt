-- Enumerated types as the code reads them.
use Rattle.std.proofs.Common.{◌≡◌, ℕ, Bool, true, false, List, [], ◌∷◌, ◌++◌, Some, None, refl, ◌∙◌}
use Rattle.std.specs.Prelude.{◌==◌, if◌then◌else◌}
use Rattle.std.proofs.lemmas.Bool.{eq-eqb, ne_eqb}
use Rattle.retain_records.specs.Splits.{◌>>=◌}
use Rattle.retain_records.specs.Enumerations.{before_last}

-- the last byte
pub before_last_of : (mark last : ℕ) (front : List ℕ)
    → before_last mark (front ++ last ∷ []) ≡ (if last == mark then Some front else None)
before_last_of mark last [] = refl
before_last_of mark last (b ∷ []) = behind_first (last == mark)
  where
    behind_first : (t : Bool) → ((if t then Some [] else None) >>= λ x. Some (b ∷ x)) ≡ (if t then Some (b
        ∷ []) else None)
    behind_first true = refl
    behind_first false = refl
before_last_of mark last (b ∷ c ∷ front) = rw (before_last_of mark last (c ∷ front)) (behind_first (last == mark))
  where
    behind_first : (t : Bool) → ((if t then Some (c ∷ front) else None) >>= λ x. Some (b ∷ x))
        ≡ (if t then Some (b ∷ c ∷ front) else None)
    behind_first true = refl
    behind_first false = refl

pub before_last_is : (mark last : ℕ) (front : List ℕ) → last ≡ mark → before_last mark (front ++ last ∷ []) ≡ Some front
before_last_is mark last front e = before_last_of mark last front ∙ rw (eq-eqb last mark e) refl

pub before_last_is_no : (mark last : ℕ) (front : List ℕ) → (last ≡ mark → ⊥)
    → before_last mark (front ++ last ∷ []) ≡ None
before_last_is_no mark last front e = before_last_of mark last front ∙ rw (ne_eqb last mark e) refl
