-- Initial values, by the type of their variable or part.
use Rattle.std.specs.Prelude.{ℕ, ◌+◌, nat_lt, List, [], ◌∷◌, ◌++◌, Bool, true, false, ◌||◌, if◌then◌else◌, Option, Some}
use Rattle.std.specs.Prelude.{None, option_and_then, is_some}
use Rattle.st_types.specs.declared.literal.Literal.{Literal}
use Rattle.st_types.specs.declared.literal.Literal.TheVariants as literals
use Rattle.st_types.specs.declared.data_type.ArrayType.{ArrayType}
use Rattle.st_types.specs.declared.data_type.VariableType.{VariableType}
use Rattle.st_types.specs.Declarations as declared_as
use Rattle.st_types.specs.Declarations.{TypeDefinition}
use Rattle.st_types.specs.Initials.{Initial, constant, list, structure, Element, single, repeated, defaults, Elements}
use Rattle.st_types.specs.Initials.{no_elements, element_then, Members, no_members, member_then}
use Rattle.st_meaning.specs.NameTypes.{Declared, definition_of}
use Rattle.st_meaning.specs.Operators.{number_of, natural}
use Rattle.st_meaning.specs.ResolvedUnits.{element_of, field_of}
use Rattle.st_rules.specs.declared.demand.Purpose.TheVariants as purposes
use Rattle.st_rules.specs.declared.reason.Reason.TheVariants.{NoMember, Mismatch, ListForOther, FieldsForOther, LongList}
use Rattle.st_rules.specs.Reasons.{type_word}
use Rattle.st_rules.specs.declared.rule.Broken.{Broken}
use Rattle.st_rules.specs.declared.typings.Typing.{Typing}
use Rattle.st_rules.specs.Faults.{breaking, unless, in_case}
use Rattle.st_rules.specs.Readings.{reading_written, wrong_reading}
use Rattle.st_rules.specs.Environments.{is_block_type}
use Rattle.st_rules.specs.Typings.{typing_of_type, typing_of_literal, kind_of, is_nothing, settled, allows}
use Rattle.st_rules.specs.ExpressionRules.{place_of_literal, wrong_number, wrong_literal}
use Rattle.st_rules.specs.Roots.{demand_of_typing}
use Rattle.st_rules.specs.DeclaredTypes.{Declaring}
use Rattle.st_rules.specs.TypeRules.{elements_of_array}

-- an initial value, or one inside another, with the type of its variable or part; none if that is not known
pub record Start : Type 0 where
  pub declared : Option VariableType
  pub initial : Initial

abbrev pub start : Option VariableType → Initial → Start
start t x = record { declared = t; initial = x }

abbrev mutual
  pub starts_below : Declared → Option VariableType → Initial → List Start
  starts_below text t (constant l) = []
  starts_below text t (list at xs) = starts_of_elements text (element_of text t) xs
  starts_below text t (structure at xs) = starts_of_members text t xs

  pub starts_of_element : Declared → Option VariableType → Element → List Start
  starts_of_element text t (single x) = start t x ∷ starts_below text t x
  starts_of_element text t (repeated n x) = start t x ∷ starts_below text t x
  starts_of_element text t (defaults n) = []

  pub starts_of_elements : Declared → Option VariableType → Elements → List Start
  starts_of_elements text t no_elements = []
  starts_of_elements text t (element_then x xs) = starts_of_element text t x ++ starts_of_elements text t xs

  pub starts_of_members : Declared → Option VariableType → Members → List Start
  starts_of_members text t no_members = []
  starts_of_members text t (member_then x v rest) =
      (start (field_of text t x.name) v ∷ starts_below text (field_of text t x.name) v)
      ++ starts_of_members text t rest

-- an initial value with those inside it
abbrev pub starts_of : Declared → VariableType → Initial → List Start
starts_of text t x = start (Some t) x ∷ starts_below text (Some t) x

-- an instance has none, and a value given for one is not looked into
abbrev pub starts_of_declaring : Declared → Declaring → List Start
starts_of_declaring text d = elim d.initial [
  | Some x ↦ if is_block_type text d.declared then [] else starts_of text d.declared x
  | None ↦ []
]

abbrev pub array_in : Option TypeDefinition → Option ArrayType
array_in (Some (declared_as.array a)) = Some a
array_in (Some (declared_as.structure fields)) = None
array_in (Some (declared_as.enumeration names)) = None
array_in None = None

abbrev pub is_structure : Option TypeDefinition → Bool
is_structure (Some (declared_as.structure fields)) = true
is_structure _ = false

abbrev pub definition_at : Declared → Option VariableType → Option TypeDefinition
definition_at text t = option_and_then (definition_of text) t

-- for an unknown type a value is not checked
abbrev pub is_unknown : Declared → Option VariableType → Bool
is_unknown text t = is_nothing (typing_of_type text t)

-- a name is a value of an enumerated type here, whatever variables there are
abbrev pub unread_value : Declared → Literal → List Broken
unread_value text (literals.Enumerated v) = wrong_reading v.place (reading_written text v)
unread_value text _ = []

-- a constant is one of its variable's type
abbrev pub wrong_constant : Declared → Typing → Literal → List Broken
wrong_constant text t l =
    breaking (Mismatch (demand_of_typing purposes.Initial t) (typing_of_literal text l))
    (unless (allows (demand_of_typing purposes.Initial t) (settled (kind_of t) (typing_of_literal text l)))
    (place_of_literal l))
    ++ (if is_nothing t then unread_value text l else wrong_literal text (kind_of t) l)

-- a count is judged within its own type, an untyped one within LINT
abbrev pub wrong_count : Element → List Broken
wrong_count (single x) = []
wrong_count (repeated n x) = wrong_number None n
wrong_count (defaults n) = wrong_number None n

abbrev pub wrong_counts : Elements → List Broken
wrong_counts no_elements = []
wrong_counts (element_then x xs) = wrong_count x ++ wrong_counts xs

-- a field that the structure of this type doesn't have
abbrev pub wrong_fields : Declared → VariableType → Members → List Broken
wrong_fields text t no_members = []
wrong_fields text t (member_then x v rest) =
    breaking (NoMember (type_word t)) (unless (is_some (field_of text (Some t) x.name)) x.place)
    ++ wrong_fields text t rest

-- Lists are for arrays, and fields for structures. For an unknown type nothing is checked.
abbrev pub wrong_list : Declared → Option VariableType → ℕ → List Broken
wrong_list text None at = []
wrong_list text (Some t) at = breaking (ListForOther (type_word t))
    (unless (is_unknown text (Some t) || is_some (array_in (definition_of text t))) at)

abbrev pub wrong_structure : Declared → Option VariableType → ℕ → Members → List Broken
wrong_structure text None at xs = []
wrong_structure text (Some t) at xs =
    if is_structure (definition_of text t) then wrong_fields text t xs
    else breaking (FieldsForOther (type_word t)) (unless (is_unknown text (Some t)) at)

-- None of this looks into the values inside.
abbrev pub wrong_start_of : Declared → Option VariableType → Initial → List Broken
wrong_start_of text t (constant l) = wrong_constant text (typing_of_type text t) l
wrong_start_of text t (list at xs) = wrong_list text t at ++ wrong_counts xs
wrong_start_of text t (structure at xs) = wrong_structure text t at xs

abbrev pub wrong_start : Declared → Start → List Broken
wrong_start text s = wrong_start_of text s.declared s.initial

-- how many elements a list stands for
abbrev pub count_of_element : Element → ℕ
count_of_element (single x) = 1
count_of_element (repeated n x) = natural (number_of n)
count_of_element (defaults n) = natural (number_of n)

abbrev pub count_of_elements : Elements → ℕ
count_of_elements no_elements = 0
count_of_elements (element_then x xs) = count_of_element x + count_of_elements xs

-- a list of more elements than its array has
abbrev pub too_many_elements : ℕ → ℕ → ℕ → List Broken
too_many_elements count room at = breaking (LongList count room) (in_case (nat_lt room count) at)

abbrev pub too_long_for : Option ArrayType → ℕ → Elements → List Broken
too_long_for None at xs = []
too_long_for (Some a) at xs = too_many_elements (count_of_elements xs) (elements_of_array a) at

abbrev pub too_long_list : Declared → Option VariableType → Initial → List Broken
too_long_list text t (constant l) = []
too_long_list text t (list at xs) = too_long_for (array_in (definition_at text t)) at xs
too_long_list text t (structure at xs) = []

abbrev pub too_long : Declared → Start → List Broken
too_long text s = too_long_list text s.declared s.initial
