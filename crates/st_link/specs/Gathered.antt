-- Concatenated lists, one from each element.
use Rattle.std.specs.Prelude.{◌≡◌, List, [], ◌∷◌, ◌++◌, Option, Some, option_and_then, option_map}

-- the lists of the elements, in order; None if one of them gives None
abbrev pub gathered : {A B : Type 0} → (A → Option (List B)) → List A → Option (List B)
gathered give [] = Some []
gathered give (x ∷ xs) = option_and_then (λ ys. option_map (λ zs. ys ++ zs) (gathered give xs)) (give x)

-- The list was appended, if there is one.
pub record IsAppended {B : Type 0} (given : Option (List B)) (old new : List B) : Type 0 where
  pub entries : List B
  pub is : given ≡ Some entries
  pub grown : new ≡ old ++ entries
