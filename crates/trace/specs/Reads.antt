-- Reading a text part by part.
use Rattle.std.specs.Prelude.{◌≡◌, List, ℕ, ◌++◌, Option, Some, IfSome}

-- The text after these words, if the text begins with them.
abbrev pub IsRestAfter : List ℕ → List ℕ → Option (List ℕ) → Type 0
IsRestAfter text words behind = IfSome behind (λ rest. text ≡ words ++ rest)
    × ((rest : List ℕ) → text ≡ words ++ rest → behind ≡ Some rest)

-- The value that a field spells, of all that it may spell: there is no other.
abbrev pub FieldSpells : {A : Type 0} → (A → Type 0) → (A → List ℕ) → List ℕ → Option A → Type 0
FieldSpells {A} May spelling field told = IfSome told (λ a. May a × (field ≡ spelling a))
    × ((a : A) → May a → field ≡ spelling a → told ≡ Some a)

-- The value that a text begins with, of all whose spelling may be there, and the text after it: there is no other.
abbrev pub BeginsWith : {A : Type 0} → (A → Type 0) → (A → List ℕ) → List ℕ → Option (A × List ℕ) → Type 0
BeginsWith {A} May spelling text told = IfSome told (λ p. May p.0 × (text ≡ spelling p.0 ++ p.1))
    × ((a : A) (rest : List ℕ) → May a → text ≡ spelling a ++ rest → told ≡ Some (a, rest))
