-- Where the variables of a layout are, and when each is declared once.
use Rattle.std.specs.Prelude.{◌≡◌, ℕ, ◌+◌, List, [], ◌∷◌, Bool, true, not, ◌&&◌, if◌then◌else◌, Option, Some}
use Rattle.std.specs.Prelude.{None, option_map, bytes_eq, slice_get}
use Rattle.std.specs.List.{list_any}
use Rattle.st_types.specs.declared.kind.Kind.{Kind}
use Rattle.st_types.specs.declared.path.Owner.{Owner}
use Rattle.st_types.specs.declared.path.Step.{Step}
use Rattle.st_types.specs.Paths.{Path, same_owner, is_within}
use Rattle.st_meaning.specs.NameTypes.{Declared, kind_among}
use Rattle.st_meaning.specs.Scopes.{Name}
use Rattle.st_meaning.specs.Slots.{Slot}
use Rattle.layout.specs.Shapes.{Shape, size, is_sound, Position, position_after, position_of, leads_on}
use Rattle.layout.specs.Types.{Site}
use Rattle.layout.specs.Sites.{site_at}
use Rattle.layout.specs.LayoutVariables.{Owned}
use Rattle.layout.specs.TextLayouts.{further, variable_shape}

-- the variable of an instance, or of nobody
abbrev pub path_to : Option Owner → Name → Path
path_to o x = record { owner = o; name = x; steps = [] }

abbrev pub is_variable : Option Owner → Name → Owned → Bool
is_variable o x v = same_owner o v.owner && bytes_eq x v.name

abbrev pub has_variable : List Owned → Option Owner → Name → Bool
has_variable vs o x = list_any (is_variable o x) vs

-- No two variables of one owner have the same name, nor two parts of one structure or instance.
abbrev pub are_declared_once : Declared → List Owned → Bool
are_declared_once text [] = true
are_declared_once text (v ∷ vs) =
    not (has_variable vs v.owner v.name) && (is_sound (variable_shape text v) && are_declared_once text vs)

-- the same slot and variable, with this variable before it
abbrev pub later : Declared → Owned → ℕ × Owned → ℕ × Owned
later text v e = (size (variable_shape text v) + e.0, e.1)

-- the first slot of a variable, and the variable
abbrev pub variable_at : Declared → List Owned → Option Owner → Name → Option (ℕ × Owned)
variable_at text [] o x = None
variable_at text (v ∷ vs) o x = if is_variable o x v
    then Some (0, v) else option_map (later text v) (variable_at text vs o x)

-- the slot and the type of a path, by its declaration and its steps
abbrev pub position_among : Declared → List Owned → Path → Option Position
position_among text [] p = None
position_among text (v ∷ vs) p = if is_variable p.owner p.name v
    then position_of (variable_shape text v) p.steps
    else option_map (position_after (size (variable_shape text v))) (position_among text vs p)

-- some slot is of this path or of a part of it
abbrev pub has_slot_within : List Slot → Path → Bool
has_slot_within layout p = list_any (λ l. is_within p l.path) layout

-- the slot of a path
abbrev pub slot : Path → Kind → Bool → Slot
slot p k input = record { path = p; kind = k; is_input = input }

-- The elementary parts of a variable take consecutive slots from one on, and no other path begins with the variable's.
pub record LiesAt (layout : List Slot) (input : Bool) (p : Path) (sh : Shape) (first : ℕ) : Type 0 where
  pub at : (xs : List Step) (o : Position) → position_of sh xs ≡ Some o
      → slice_get layout (first + o.number) ≡ Some (slot (further p xs) o.kind input)
  pub only : (xs : List Step) → has_slot_within layout (further p xs) ≡ leads_on sh xs

-- The part that the steps lead to is declared, with this elementary or enumerated type.
pub record IsDeclared (text : Declared) (s : Site) (xs : List Step) (k : Kind) : Type 0 where
  pub site : Site
  pub is : site_at text s xs ≡ Some site
  pub kind : kind_among text.types site.declared ≡ Some k
