-- Paths of variables.
use Rattle.std.specs.Prelude.{ℕ, List, [], ◌∷◌, Option, Bool, true, false, ◌&&◌, bytes_eq}
use Rattle.std.specs.Cmp.Lexicographic.{pointwise}
use Rattle.std.specs.Option.{option_eq}
use Rattle.std.specs.Ordering.{int_eq}
use Rattle.st_types.specs.declared.path.Owner.{Owner}
use Rattle.st_types.specs.declared.path.Step.{Step}
use Rattle.st_types.specs.declared.path.Step.TheVariants.{Member, Element}

-- the owner of a variable, its name, and the steps to a part of it
pub record Path : Type 0 where
  pub owner : Option Owner
  pub name : List ℕ
  pub steps : List Step

abbrev pub same_names : Owner → Owner → Bool
same_names a b = bytes_eq a.resource b.resource && bytes_eq a.instance b.instance

abbrev pub same_owner : Option Owner → Option Owner → Bool
same_owner = option_eq same_names

abbrev pub same_step : Step → Step → Bool
same_step (Member x) (Member y) = bytes_eq x y
same_step (Element i) (Element j) = int_eq i j
same_step (Member x) (Element j) = false
same_step (Element i) (Member y) = false

-- these steps begin with those
abbrev pub begins_with : List Step → List Step → Bool
begins_with xs [] = true
begins_with [] (y ∷ ys) = false
begins_with (x ∷ xs) (y ∷ ys) = same_step x y && begins_with xs ys

-- the second path leads to the variable of the first or to a part of it
abbrev pub is_within : Path → Path → Bool
is_within p q = same_owner p.owner q.owner && bytes_eq p.name q.name && begins_with q.steps p.steps

abbrev pub same_steps : List Step → List Step → Bool
same_steps = pointwise same_step

abbrev pub same_path : Path → Path → Bool
same_path p q = same_owner p.owner q.owner && bytes_eq p.name q.name && same_steps p.steps q.steps
