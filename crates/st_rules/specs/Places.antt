-- Places of names in a text.
use Rattle.std.specs.Prelude.{ℕ, List, [], ◌∷◌, ◌++◌, map, filter, Bool, if◌then◌else◌, Option, Some, None}
use Rattle.st_types.specs.declared.identifier.Identifier.{Identifier}
use Rattle.st_meaning.specs.Scopes.{Name}
use Rattle.st_meaning.specs.NameTypes.{is_named}

-- the places of the names that pass
abbrev pub places_where : (Identifier → Bool) → List Identifier → List ℕ
places_where wanted xs = map (λ x. x.place) (filter wanted xs)

-- the places at which a name occurs again
abbrev pub repeats : List Identifier → List ℕ
repeats [] = []
repeats (x ∷ xs) = places_where (is_named x.name) xs ++ repeats xs

-- the first name of some that is this one
abbrev pub first_named : List Identifier → Name → Option Identifier
first_named [] x = None
first_named (y ∷ ys) x = if is_named x y then Some y else first_named ys x
