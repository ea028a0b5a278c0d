-- The fields of a record, place by place.
use Rattle.std.proofs.Common.{◌≡◌, ◌∙◌, sym, refl, ap, ℕ, suc, zero, ◌+◌, List, [], ◌∷◌, ◌++◌, take, drop, map, Some}
use Rattle.std.proofs.Common.{option_map, add-one}
use Rattle.csv.specs.Records.{field_at}
use Rattle.image.specs.Plants.{Fields}

-- one field more
take_suc : (fields : Fields) (i : ℕ) (field : List ℕ) → field_at fields i ≡ Some field
    → take (suc i) fields ≡ take i fields ++ field ∷ []
unfolding field_at
take_suc [] i field e = absurd (cc)
take_suc (f ∷ fs) zero field e = let same : f ≡ field = cc in ap (λ x. x ∷ []) same
take_suc (f ∷ fs) (suc i) field e = ap (λ xs. f ∷ xs) (take_suc fs i field e)

pub take_field : (fields : Fields) (i : ℕ) (field : List ℕ) → field_at fields i ≡ Some field
    → take (i + 1) fields ≡ take i fields ++ field ∷ []
take_field fields i field e = rw add-one (take_suc fields i field e)

-- a field after the first
field_at-suc : (fields : Fields) (i : ℕ) → field_at fields (suc i) ≡ field_at (drop 1 fields) i
unfolding field_at
field_at-suc [] i = refl
field_at-suc (f ∷ fs) i = refl

pub field_at-behind : (fields : Fields) (i : ℕ) → field_at fields (i + 1) ≡ field_at (drop 1 fields) i
field_at-behind fields i = rw add-one (field_at-suc fields i)

pub field_at-cons : (first : List ℕ) (fields : Fields) (i : ℕ) → field_at (first ∷ fields) (i + 1) ≡ field_at fields i
field_at-cons first fields i = field_at-behind (first ∷ fields) i

pub field_at-first : (first : List ℕ) (fields : Fields) → field_at (first ∷ fields) 0 ≡ Some first
unfolding field_at
field_at-first first fields = refl

pub first_and_rest : (fields : Fields) (first : List ℕ) (rest : Fields) → field_at fields 0 ≡ Some first
    → drop 1 fields ≡ rest → fields ≡ first ∷ rest
unfolding field_at
first_and_rest [] first rest e r = absurd (cc)
first_and_rest (f ∷ fs) first rest e r = let same : f ≡ first = cc in let others : fs ≡ rest = r in cc

pub field_at-map : (f : List ℕ → List ℕ) (fields : Fields) (i : ℕ)
    → field_at (map f fields) i ≡ option_map f (field_at fields i)
unfolding field_at
field_at-map f [] i = refl
field_at-map f (x ∷ xs) zero = refl
field_at-map f (x ∷ xs) (suc i) = field_at-map f xs i

-- as far as they are the same, and one field more
pub take_same : (xs ys : Fields) (i : ℕ) (field : List ℕ) → take i xs ≡ take i ys → field_at xs i ≡ Some field
    → field_at ys i ≡ Some field → take (i + 1) xs ≡ take (i + 1) ys
take_same xs ys i field e x y = take_field xs i field x
    ∙ (ap (λ fs. fs ++ field ∷ []) e ∙ sym (take_field ys i field y))
