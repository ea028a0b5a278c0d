-- Shapes of variables: their elementary parts in the order of the layout, and the position of each.
use Rattle.std.specs.Prelude.{ℕ, zero, suc, ◌+◌, ◌*◌, nat_lt, ℤ, pos, ◌+ℤ◌, ◌-ℤ◌, int_le, int_lt, List, [], ◌∷◌, ◌++◌}
use Rattle.std.specs.Prelude.{map}
use Rattle.std.specs.Prelude.{Bool, true, false, not, ◌&&◌, ◌||◌, if◌then◌else◌, Option, Some, None, option_map}
use Rattle.std.specs.Prelude.{bytes_eq}
use Rattle.st_types.specs.declared.kind.Kind.{Kind}
use Rattle.st_types.specs.declared.path.Step.{Step}
use Rattle.st_types.specs.declared.path.Step.TheVariants.{Member, Element}
use Rattle.st_meaning.specs.Operators.{natural}
use Rattle.st_meaning.specs.Scopes.{Name}

-- the owner of the parts
pub data PartsOwner : Type 0 where
  of_structure : PartsOwner
  of_instance : PartsOwner

-- a variable of an elementary or enumerated type; an array, by its lower bound, the number and the shape of its
-- elements; the parts of a structure or of a block's instance
mutual
  pub data Shape : Type 0 where
    plain : Kind → Shape
    array : ℤ → ℕ → Shape → Shape
    parts : PartsOwner → Parts → Shape

  pub data Parts : Type 0 where
    no_parts : Parts
    part_then : Name → Shape → Parts → Parts

-- how many elementary parts there are
abbrev mutual
  pub size : Shape → ℕ
  size (plain k) = 1
  size (array lower count sh) = count * size sh
  size (parts w ps) = sizes ps

  pub sizes : Parts → ℕ
  sizes no_parts = 0
  sizes (part_then x sh ps) = size sh + sizes ps

-- how many instances of blocks there are, at every depth
abbrev pub instances_of_whole : PartsOwner → ℕ
instances_of_whole of_structure = 0
instances_of_whole of_instance = 1

abbrev mutual
  pub instance_count : Shape → ℕ
  instance_count (plain k) = 0
  instance_count (array lower count sh) = count * instance_count sh
  instance_count (parts w ps) = instances_of_whole w + instance_counts ps

  pub instance_counts : Parts → ℕ
  instance_counts no_parts = 0
  instance_counts (part_then x sh ps) = instance_count sh + instance_counts ps

-- an elementary part: the steps that lead to it, and its type
pub record Leaf : Type 0 where
  pub steps : List Step
  pub kind : Kind

-- the same part, seen from one step further out
abbrev pub below : Step → Leaf → Leaf
below x l = record { steps = x ∷ l.steps; kind = l.kind }

-- the parts of the elements from a subscript on
abbrev pub leaves_of_elements : ℤ → ℕ → List Leaf → List Leaf
leaves_of_elements z zero inner = []
leaves_of_elements z (suc n) inner = map (below (Element z)) inner ++ leaves_of_elements (z +ℤ pos 1) n inner

-- the elementary parts in the order of the layout: elements ascending, parts as they are declared
abbrev mutual
  pub leaves_of : Shape → List Leaf
  leaves_of (plain k) = record { steps = []; kind = k } ∷ []
  leaves_of (array lower count sh) = leaves_of_elements lower count (leaves_of sh)
  leaves_of (parts w ps) = leaves_of_parts ps

  pub leaves_of_parts : Parts → List Leaf
  leaves_of_parts no_parts = []
  leaves_of_parts (part_then x sh ps) = map (below (Member x)) (leaves_of sh) ++ leaves_of_parts ps

-- the subscript is within the bounds
abbrev pub in_bounds : ℤ → ℕ → ℤ → Bool
in_bounds lower count z = int_le lower z && int_lt z (lower +ℤ pos count)

-- how many elements come before the one at the subscript
abbrev pub distance : ℤ → ℤ → ℕ
distance lower z = natural (z -ℤ lower)

-- the position of an elementary part among those of its variable, and its type
pub record Position : Type 0 where
  pub number : ℕ
  pub kind : Kind

-- the same position, with `n` more parts before it
abbrev pub position_after : ℕ → Position → Position
position_after n p = record { number = n + p.number; kind = p.kind }

-- the position of the elementary part that the steps lead to
abbrev mutual
  pub position_of : Shape → List Step → Option Position
  position_of (plain k) [] = Some (record { number = 0; kind = k })
  position_of (plain k) (x ∷ xs) = None
  position_of (array lower count sh) [] = None
  position_of (array lower count sh) (Member x ∷ xs) = None
  position_of (array lower count sh) (Element z ∷ xs) = if in_bounds lower count z
      then option_map (position_after (distance lower z * size sh)) (position_of sh xs) else None
  position_of (parts w ps) [] = None
  position_of (parts w ps) (Member x ∷ xs) = position_in ps x xs
  position_of (parts w ps) (Element z ∷ xs) = None

  pub position_in : Parts → Name → List Step → Option Position
  position_in no_parts x xs = None
  position_in (part_then y sh ps) x xs =
      if bytes_eq x y then position_of sh xs else option_map (position_after (size sh)) (position_in ps x xs)

-- the steps to an elementary part begin with these
abbrev mutual
  pub leads_on : Shape → List Step → Bool
  leads_on (plain k) [] = true
  leads_on (plain k) (x ∷ xs) = false
  leads_on (array lower count sh) [] = nat_lt 0 (count * size sh)
  leads_on (array lower count sh) (Member x ∷ xs) = false
  leads_on (array lower count sh) (Element z ∷ xs) = in_bounds lower count z && leads_on sh xs
  leads_on (parts w ps) [] = nat_lt 0 (sizes ps)
  leads_on (parts w ps) (Member x ∷ xs) = leads_in ps x xs
  leads_on (parts w ps) (Element z ∷ xs) = false

  pub leads_in : Parts → Name → List Step → Bool
  leads_in no_parts x xs = false
  leads_in (part_then y sh ps) x xs = if bytes_eq x y then leads_on sh xs else leads_in ps x xs

-- the part of a name
abbrev pub part_named : Parts → Name → Option Shape
part_named no_parts x = None
part_named (part_then y sh ps) x = if bytes_eq x y then Some sh else part_named ps x

abbrev pub has_name : Parts → Name → Bool
has_name no_parts x = false
has_name (part_then y sh ps) x = bytes_eq x y || has_name ps x

-- no two parts of one whole have the same name
abbrev mutual
  pub is_sound : Shape → Bool
  is_sound (plain k) = true
  is_sound (array lower count sh) = is_sound sh
  is_sound (parts w ps) = are_sound ps

  pub are_sound : Parts → Bool
  are_sound no_parts = true
  are_sound (part_then y sh ps) = not (has_name ps y) && (is_sound sh && are_sound ps)
