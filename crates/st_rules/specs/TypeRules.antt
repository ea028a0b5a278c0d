-- The faults in the types of declarations, and in the bounds of arrays.
use Rattle.std.specs.Prelude.{ℕ, pos, ◌+ℤ◌, ◌-ℤ◌, int_lt, nat_le, nat_lt, List, [], ◌∷◌, ◌++◌, Bool, true, false, ◌&&◌}
use Rattle.std.specs.Prelude.{◌||◌}
use Rattle.std.specs.Prelude.{if◌then◌else◌, Option, Some, None, is_some, slice_get}
use Rattle.std.specs.List.{flat_map}
use Rattle.st_types.specs.declared.identifier.Identifier.{Identifier}
use Rattle.st_types.specs.declared.limits.TheConstants.{MAX_PRIORITY}
use Rattle.st_types.specs.declared.data_type.ArrayType.{ArrayType}
use Rattle.st_types.specs.declared.data_type.SimpleType.{SimpleType}
use Rattle.st_types.specs.declared.data_type.SimpleType.TheVariants.{Elementary, Named}
use Rattle.st_types.specs.declared.data_type.VariableType.{VariableType}
use Rattle.st_types.specs.declared.data_type.VariableType.TheVariants as types
use Rattle.st_types.specs.declared.declaration.Section.TheVariants.{Input, Output, Local}
use Rattle.st_types.specs.declared.unit.UnitSort.{UnitSort}
use Rattle.st_types.specs.declared.unit.UnitSort.TheVariants.{Function, FunctionBlock, Program}
use Rattle.st_types.specs.declared.configuration.GlobalQualifier.{GlobalQualifier}
use Rattle.st_types.specs.declared.configuration.GlobalQualifier.TheVariants.{Retain}
use Rattle.st_types.specs.declared.configuration.Task.{Task}
use Rattle.st_types.specs.Configurations.{GlobalNames, located, listed}
use Rattle.st_types.specs.Sources as sources
use Rattle.st_types.specs.Sources.{LibraryElement, Source}
use Rattle.st_meaning.specs.Operators.{number_of, natural}
use Rattle.st_meaning.specs.StandardFunctions.{standard_of}
use Rattle.st_meaning.specs.NameTypes.{Declared, type_named, unit_named}
use Rattle.st_rules.specs.declared.limits.TheConstants.{MAX_ELEMENTS, MAX_NAMES}
use Rattle.st_rules.specs.declared.reason.Bounds.{Bounds}
use Rattle.st_rules.specs.declared.reason.Reason.TheVariants.{Undeclared, NotType, NoInstanceAllowed, HasParts}
use Rattle.st_rules.specs.declared.reason.Reason.TheVariants.{InstanceWithValue, WrongBounds}
use Rattle.st_rules.specs.declared.rule.Broken.{Broken}
use Rattle.st_rules.specs.Faults.{breaking, unless, in_case}
use Rattle.st_rules.specs.Environments.{is_block, is_block_type}
use Rattle.st_rules.specs.Typings.{typing_of_type, is_composite}
use Rattle.st_rules.specs.ExpressionRules.{wrong_number}
use Rattle.st_rules.specs.DeclaredTypes.{Role, variable_of, Declaring}

-- the place of a type's name, or of the word ARRAY
abbrev pub place_of_simple : SimpleType → ℕ
place_of_simple (Elementary k at) = at
place_of_simple (Named x) = x.place

abbrev pub place_of_type : VariableType → ℕ
place_of_type (types.Simple t) = place_of_simple t
place_of_type (types.Array a) = a.place

-- The name of a type is that of a declared type, or of a block if an instance is allowed. A name of something else is
-- a wrong type, and a name of nothing is unknown.
abbrev pub wrong_named : Declared → Bool → Identifier → List Broken
wrong_named text blocks x =
    if is_some (type_named text.types x.name) then []
    else if is_block text x.name then breaking NoInstanceAllowed (unless blocks x.place)
    else if is_some (unit_named text.units x.name) || is_some (standard_of x.name) then breaking NotType (x.place ∷ [])
    else breaking Undeclared (x.place ∷ [])

abbrev pub wrong_simple : Declared → Bool → SimpleType → List Broken
wrong_simple text blocks (Elementary k at) = []
wrong_simple text blocks (Named x) = wrong_named text blocks x

-- the element of an array is judged with the array
abbrev pub wrong_name : Declared → Bool → VariableType → List Broken
wrong_name text blocks (types.Simple t) = wrong_simple text blocks t
wrong_name text blocks (types.Array a) = []

-- instances are allowed in a VAR of a program or function block
abbrev pub is_program_or_block : UnitSort → Bool
is_program_or_block (Function t) = false
is_program_or_block FunctionBlock = true
is_program_or_block Program = true

abbrev pub may_be_instance : Role → Bool
may_be_instance (variable_of sort (Local keep)) = is_program_or_block sort
may_be_instance _ = false

-- inputs and outputs of units have an elementary or enumerated type
abbrev pub is_without_parts : Role → Bool
is_without_parts (variable_of sort (Input keep)) = true
is_without_parts (variable_of sort (Output keep)) = true
is_without_parts _ = false

-- An unknown or wrong name; an input or output with parts; an instance with an initial value.
abbrev pub wrong_declaring : Declared → Declaring → List Broken
wrong_declaring text d =
    wrong_name text (may_be_instance d.role) d.declared
    ++ breaking HasParts (in_case (is_without_parts d.role && is_composite (typing_of_type text (Some d.declared)))
    (place_of_type d.declared))
    ++ breaking InstanceWithValue
    (in_case (is_block_type text d.declared && is_some d.initial) (place_of_type d.declared))

-- the type of an element isn't a block
abbrev pub wrong_element : Declared → ArrayType → List Broken
wrong_element text a = wrong_simple text false a.element

-- a result has an elementary or enumerated type
abbrev pub wrong_result : Declared → SimpleType → List Broken
wrong_result text t =
    wrong_simple text false t
    ++ breaking HasParts (in_case (is_composite (typing_of_type text (Some (types.Simple t)))) (place_of_simple t))

-- each bound is judged within its own type, an untyped one within LINT
abbrev pub wrong_bound_numbers : ArrayType → List Broken
wrong_bound_numbers a = wrong_number None a.lower ++ wrong_number None a.upper

-- how many elements an array has; none if its bounds are reversed
abbrev pub elements_of_array : ArrayType → ℕ
elements_of_array a = natural ((number_of a.upper -ℤ number_of a.lower) +ℤ pos 1)

-- bounds that are reversed, or that leave room for too many elements
abbrev pub has_wrong_bounds : ArrayType → Bool
has_wrong_bounds a = int_lt (number_of a.upper) (number_of a.lower) || nat_lt MAX_ELEMENTS (elements_of_array a)

abbrev pub bounds_of : ArrayType → Bounds
bounds_of a = record { lower = number_of a.lower; upper = number_of a.upper }

abbrev pub wrong_bounds : ArrayType → List Broken
wrong_bounds a = breaking (WrongBounds (bounds_of a)) (in_case (has_wrong_bounds a) a.lower.place)

-- an address in a block of retained globals
abbrev pub is_retain : Option GlobalQualifier → Bool
is_retain (Some Retain) = true
is_retain _ = false

abbrev pub retained_address : Option GlobalQualifier → GlobalNames → List ℕ
retained_address q (located x a) = in_case (is_retain q) x.place
retained_address q (listed xs) = []

abbrev pub retained_addresses_of : LibraryElement → List ℕ
retained_addresses_of (sources.types ts) = []
retained_addresses_of (sources.unit u) = []
retained_addresses_of (sources.configuration c) =
    flat_map (λ b. flat_map (λ d. retained_address b.qualifier d.names) b.declarations) c.globals

-- the name after the last one that an enumerated type may have
abbrev pub place_of_one : Option Identifier → List ℕ
place_of_one None = []
place_of_one (Some x) = x.place ∷ []

abbrev pub surplus_name : List Identifier → List ℕ
surplus_name names = place_of_one (slice_get names MAX_NAMES)

-- PRIORITY has an upper limit
abbrev pub wrong_priority : Task → List ℕ
wrong_priority t = unless (nat_le t.priority.number MAX_PRIORITY) t.priority.place

abbrev pub wrong_priorities_of : LibraryElement → List ℕ
wrong_priorities_of (sources.types ts) = []
wrong_priorities_of (sources.unit u) = []
wrong_priorities_of (sources.configuration c) = flat_map (λ r. flat_map wrong_priority r.tasks) c.resources
