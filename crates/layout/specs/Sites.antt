-- Declared facts about a part of a variable: its type, its initial value, and whether it is retained.
use Rattle.std.specs.Prelude.{ℕ, List, [], ◌∷◌, ◌++◌, replicate, slice_get, Bool, false, if◌then◌else◌, pos, Option}
use Rattle.std.specs.Prelude.{Some, None, option_map, option_and_then, Result, Ok, Err}
use Rattle.st_types.specs.declared.kind.Kind.{Kind}
use Rattle.st_types.specs.declared.path.Step.{Step}
use Rattle.st_types.specs.declared.path.Step.TheVariants.{Member, Element}
use Rattle.st_types.specs.Values.{Datum}
use Rattle.st_types.specs.declared.data_type.ArrayType.{ArrayType}
use Rattle.st_types.specs.Initials.{Initial, constant, list, structure, single, repeated, defaults, Elements}
use Rattle.st_types.specs.Initials.{no_elements, element_then, Members, no_members, member_then}
use Rattle.st_meaning.specs.Failures.{Failure}
use Rattle.st_meaning.specs.NameTypes.{Declared, is_named}
use Rattle.st_meaning.specs.Operators.{number_of, natural, value_of_literal}
use Rattle.st_meaning.specs.Scopes.{Name}
use Rattle.st_meaning.specs.Stores.{may_replace}
use Rattle.st_meaning.specs.Plans.{initial_value, is_retained_by}
use Rattle.st_rules.specs.TypeRules.{elements_of_array}
use Rattle.layout.specs.Shapes.{in_bounds, distance}
use Rattle.layout.specs.Types.{Site, site_named, Composition, of_elements, of_parts, composition_of}
use Rattle.layout.specs.Types.{lower_of, element_of}

-- the elements that a list stands for, each with its initial value, or with none if it has the default of its type
abbrev pub listed_elements : Elements → List (Option Initial)
listed_elements no_elements = []
listed_elements (element_then (single i) xs) = Some i ∷ listed_elements xs
listed_elements (element_then (repeated n i) xs) = replicate (natural (number_of n)) (Some i) ++ listed_elements xs
listed_elements (element_then (defaults n) xs) = replicate (natural (number_of n)) None ++ listed_elements xs

-- the initial value at a place of a list, from 0; an element that the list leaves out has none
abbrev pub given : Option (Option Initial) → Option Initial
given None = None
given (Some i) = i

-- the initial value that a structure gives a field; none if it leaves the field out
abbrev pub field_initial : Members → Name → Option Initial
field_initial no_members x = None
field_initial (member_then y i rest) x = if is_named x y then Some i else field_initial rest x

abbrev pub element_initial : Option Initial → ℕ → Option Initial
element_initial (Some (list at xs)) n = given (slice_get (listed_elements xs) n)
element_initial _ n = None

abbrev pub member_initial : Option Initial → Name → Option Initial
member_initial (Some (structure at xs)) x = field_initial xs x
member_initial _ x = None

abbrev pub or_initial : Option Initial → Option Initial → Option Initial
or_initial (Some i) other = Some i
or_initial None other = other

-- an element: it has the value that the array's list gives it, or else the default of its type
abbrev pub element_site : Site → ArrayType → ℕ → Site
element_site s a n = record {
  declared = element_of a;
  initial = element_initial s.initial n;
  retentions = s.retentions;
}

-- a field or a member: it has the value that the whole gives it, all of it, or else that of its own declaration
abbrev pub member_site : Site → Name → Site → Site
member_site s x own = record {
  declared = own.declared;
  initial = or_initial (member_initial s.initial x) own.initial;
  retentions = s.retentions ++ own.retentions;
}

-- one step further in
abbrev pub site_below : Site → Composition → Step → Option Site
site_below s (of_elements a) (Element z) = if in_bounds (lower_of a) (elements_of_array a) z
    then Some (element_site s a (distance (lower_of a) z)) else None
site_below s (of_parts w ds) (Member x) = option_map (member_site s x) (site_named ds x)
site_below s _ _ = None

-- the declared facts about the part that steps lead to
abbrev pub site_at : Declared → Site → List Step → Option Site
site_at text s [] = Some s
site_at text s (x ∷ xs) =
    option_and_then (λ u. site_at text u xs) (site_below s (composition_of text s.declared) x)

-- 0, FALSE, T#0s, or the first name
abbrev pub default_of : Kind → Datum
default_of k = record { kind = k; number = pos 0 }

-- the value of a constant, if it is one of this type
abbrev pub fitting : Kind → Result Datum Failure → Option Datum
fitting k (Ok v) = if may_replace (default_of k) v then Some v else None
fitting k (Err e) = None

abbrev pub constant_of : Kind → Option Initial → Option Datum
constant_of k (Some (constant l)) = fitting k (value_of_literal l)
constant_of k _ = None

-- the value that a part of a type starts with: the declared one, else the default of its type
abbrev pub initial_at : Declared → Site → List Step → Kind → Datum
initial_at text s xs k =
    initial_value k (option_and_then (λ u. constant_of k u.initial) (site_at text s xs))

-- the innermost declaration on the way that mentions retention says RETAIN
abbrev pub retained_at : Declared → Site → List Step → Bool
retained_at text s xs = elim (site_at text s xs) [ Some u ↦ is_retained_by u.retentions | None ↦ false ]
