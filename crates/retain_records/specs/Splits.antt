-- Splitting bytes at a mark.
use Rattle.std.specs.Prelude.{◌==◌, ◌&&◌, nat_le, ℕ, if◌then◌else◌, Option, Some, None, List, [], ◌∷◌, length}
use Rattle.std.specs.List.{list_all}
use Rattle.st_types.specs.UpperNames.{is_upper_name}

-- a step after one that gave a value
infixl 10 ◌>>=◌
abbrev pub ◌>>=◌ : {A B : Type 0} → Option A → (A → Option B) → Option B
None >>= f = None
(Some x) >>= f = f x

-- the bytes before the first such byte, and the bytes after it
abbrev pub split_at : ℕ → List ℕ → Option (List ℕ × List ℕ)
split_at mark [] = None
split_at mark (b ∷ bs) = if b == mark then Some ([], bs) else (split_at mark bs >>= λ p. Some (b ∷ p.0, p.1))

-- the bytes between the marks
abbrev pub onto_first : ℕ → List (List ℕ) → List (List ℕ)
onto_first b [] = (b ∷ []) ∷ []
onto_first b (x ∷ xs) = (b ∷ x) ∷ xs

abbrev pub parted : ℕ → List ℕ → List (List ℕ)
parted mark [] = [] ∷ []
parted mark (b ∷ bs) = if b == mark then [] ∷ parted mark bs else onto_first b (parted mark bs)

-- how many names these are, separated by commas, if each is one
abbrev pub names_counted : List (List ℕ) → Option ℕ
names_counted names = if list_all is_upper_name names && nat_le (length names) 65535 then Some (length names) else None
