-- The declared types of a text: those of fields, variables, globals, elements and results, each at its place.
use Rattle.std.specs.Prelude.{List, [], ◌∷◌, ◌++◌, map, Option}
use Rattle.std.specs.List.{flat_map}
use Rattle.st_types.specs.declared.identifier.Identifier.{Identifier}
use Rattle.st_types.specs.declared.data_type.ArrayType.{ArrayType}
use Rattle.st_types.specs.declared.data_type.SimpleType.{SimpleType}
use Rattle.st_types.specs.declared.data_type.VariableType.{VariableType}
use Rattle.st_types.specs.declared.data_type.VariableType.TheVariants as types
use Rattle.st_types.specs.declared.declaration.Section.{Section}
use Rattle.st_types.specs.declared.unit.UnitSort.{UnitSort}
use Rattle.st_types.specs.declared.unit.UnitSort.TheVariants.{Function, FunctionBlock, Program}
use Rattle.st_types.specs.Initials.{Initial}
use Rattle.st_types.specs.Declarations as declared_as
use Rattle.st_types.specs.Declarations.{TypeDefinition, VariableBlock}
use Rattle.st_types.specs.Configurations.{GlobalBlock}
use Rattle.st_types.specs.Sources as sources
use Rattle.st_types.specs.Sources.{LibraryElement, Source}

-- the kind of place of a declaration
pub data Role : Type 0 where
  field : Role
  variable_of : UnitSort → Section → Role
  global : Role

-- a declared type with its initial value
pub record Declaring : Type 0 where
  pub role : Role
  pub declared : VariableType
  pub initial : Option Initial

abbrev pub declarings_of_definition : TypeDefinition → List Declaring
declarings_of_definition (declared_as.array a) = []
declarings_of_definition (declared_as.structure fields) =
    map (λ f. record { role = field; declared = f.declared; initial = f.initial }) fields
declarings_of_definition (declared_as.enumeration names) = []

abbrev pub declarings_of_block : UnitSort → VariableBlock → List Declaring
declarings_of_block sort b = map
    (λ d. record { role = variable_of sort b.section; declared = d.declared; initial = d.initial }) b.declarations

abbrev pub declarings_of_globals : GlobalBlock → List Declaring
declarings_of_globals b = map (λ d. record { role = global; declared = d.declared; initial = d.initial }) b.declarations

abbrev pub declarings_of_element : LibraryElement → List Declaring
declarings_of_element (sources.types ts) = flat_map (λ t. declarings_of_definition t.definition) ts
declarings_of_element (sources.unit u) = flat_map (declarings_of_block u.sort) u.blocks
declarings_of_element (sources.configuration c) = flat_map declarings_of_globals c.globals

-- all declarations of a text
abbrev pub declarings_in : Source → List Declaring
declarings_in source = flat_map declarings_of_element source

-- the arrays of a text: those that are types of their own, and those without a name
abbrev pub array_of_definition : TypeDefinition → List ArrayType
array_of_definition (declared_as.array a) = a ∷ []
array_of_definition (declared_as.structure fields) = []
array_of_definition (declared_as.enumeration names) = []

abbrev pub array_of_type : VariableType → List ArrayType
array_of_type (types.Simple t) = []
array_of_type (types.Array a) = a ∷ []

abbrev pub named_arrays_of_element : LibraryElement → List ArrayType
named_arrays_of_element (sources.types ts) = flat_map (λ t. array_of_definition t.definition) ts
named_arrays_of_element (sources.unit u) = []
named_arrays_of_element (sources.configuration c) = []

abbrev pub unnamed_arrays_in : Source → List ArrayType
unnamed_arrays_in source = flat_map (λ d. array_of_type d.declared) (declarings_in source)

abbrev pub arrays_in : Source → List ArrayType
arrays_in source = flat_map named_arrays_of_element source ++ unnamed_arrays_in source

-- the results of functions
abbrev pub result_of_sort : UnitSort → List SimpleType
result_of_sort (Function t) = t ∷ []
result_of_sort FunctionBlock = []
result_of_sort Program = []

abbrev pub results_of_element : LibraryElement → List SimpleType
results_of_element (sources.types ts) = []
results_of_element (sources.unit u) = result_of_sort u.sort
results_of_element (sources.configuration c) = []

abbrev pub results_in : Source → List SimpleType
results_in source = flat_map results_of_element source

-- the names of enumerated types
abbrev pub names_of_definition : TypeDefinition → List (List Identifier)
names_of_definition (declared_as.enumeration names) = names ∷ []
names_of_definition (declared_as.structure fields) = []
names_of_definition (declared_as.array a) = []

abbrev pub enumerations_of_element : LibraryElement → List (List Identifier)
enumerations_of_element (sources.types ts) = flat_map (λ t. names_of_definition t.definition) ts
enumerations_of_element (sources.unit u) = []
enumerations_of_element (sources.configuration c) = []

abbrev pub enumerations_in : Source → List (List Identifier)
enumerations_in source = flat_map enumerations_of_element source
