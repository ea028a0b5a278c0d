-- The enumerated types of a text, and the values of their names.
use Rattle.std.specs.Prelude.{ℕ, ◌+◌, List, [], ◌∷◌, length, Option, Some, None, option_map, bytes_eq, if◌then◌else◌}
use Rattle.std.specs.Prelude.{option_and_then, false}
use Rattle.st_types.specs.declared.identifier.Identifier.{Identifier}
use Rattle.st_types.specs.declared.kind.Kind.{Kind}
use Rattle.st_types.specs.declared.kind.Kind.TheVariants.{Enumerated}
use Rattle.st_types.specs.declared.literal.EnumeratedValue.{EnumeratedValue}
use Rattle.st_types.specs.declared.literal.Literal.{Literal}
use Rattle.st_types.specs.declared.literal.Literal.TheVariants as literals
use Rattle.st_types.specs.declared.literal.Number.{Number}
use Rattle.st_types.specs.Declarations.{TypeDeclaration, TypeDefinition, array, structure, enumeration}
use Rattle.st_meaning.specs.Scopes.{Name}

-- an enumerated type: its place among those of the text, its name, and its values' names
pub record Enumeration : Type 0 where
  pub number : ℕ
  pub name : Name
  pub names : List Identifier

-- the names of an enumerated type
abbrev pub enumerated_names : TypeDefinition → Option (List Identifier)
enumerated_names (enumeration names) = Some names
enumerated_names (structure fields) = None
enumerated_names (array a) = None

abbrev pub enumerations_from : ℕ → List TypeDeclaration → List Enumeration
enumerations_from n [] = []
enumerations_from n (t ∷ ts) = elim (enumerated_names t.definition) [
  | Some names ↦ record { number = n; name = t.name.name; names = names } ∷ enumerations_from (n + 1) ts
  | None ↦ enumerations_from n ts
]

-- the enumerated types of a text, in its order
abbrev pub enumerations_of : List TypeDeclaration → List Enumeration
enumerations_of ts = enumerations_from 0 ts

abbrev pub kind_of_enumeration : Enumeration → Kind
kind_of_enumeration e = Enumerated (length e.names) e.number

-- the first enumerated type of this name
abbrev pub enumeration_named : List Enumeration → Name → Option Enumeration
enumeration_named [] x = None
enumeration_named (e ∷ es) x = if bytes_eq x e.name then Some e else enumeration_named es x

-- the place of a name among those of a type, from 0
abbrev pub place_among : List Identifier → Name → Option ℕ
place_among [] x = None
place_among (y ∷ ys) x = if bytes_eq x y.name then Some 0 else option_map (λ n. n + 1) (place_among ys x)

-- a value of an enumerated type: its type, and its place among the names
pub record Member : Type 0 where
  pub kind : Kind
  pub place : ℕ

abbrev pub member_of : Name → Enumeration → Option Member
member_of x e = option_map (λ n. record { kind = kind_of_enumeration e; place = n }) (place_among e.names x)

abbrev pub members_named : List Enumeration → Name → List Member
members_named [] x = []
members_named (e ∷ es) x = elim (member_of x e) [ Some m ↦ m ∷ members_named es x | None ↦ members_named es x ]

-- the only one; none if there are several
abbrev pub only_one : List Member → Option Member
only_one (m ∷ []) = Some m
only_one _ = None

-- a name alone stands for a value if exactly one enumerated type has it
abbrev pub member_named : List TypeDeclaration → Name → Option Member
member_named ts x = only_one (members_named (enumerations_of ts) x)

-- `Mode#Fault` is the value of that type
abbrev pub member_of_type : List TypeDeclaration → Name → Name → Option Member
member_of_type ts t x = option_and_then (member_of x) (enumeration_named (enumerations_of ts) t)

-- the value that is written so
abbrev pub member_written : List TypeDeclaration → EnumeratedValue → Option Member
member_written ts v = elim v.type_name [ Some t ↦ member_of_type ts t v.name | None ↦ member_named ts v.name ]

-- the literal that has the type and the number of a value, at a place
abbrev pub number_of_member : ℕ → Member → Number
number_of_member at m = record {
  place = at;
  is_negative = false;
  magnitude = m.place;
  written = Some m.kind;
  is_decimal = false;
  taken = None;
}

-- a value of an enumerated type as a number of its type; one that stands for nothing stays as it is
abbrev pub resolved_value : List TypeDeclaration → EnumeratedValue → Literal
resolved_value ts v = elim (member_written ts v)
    [ Some m ↦ literals.Number (number_of_member v.place m) | None ↦ literals.Enumerated v ]
