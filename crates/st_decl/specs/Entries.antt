-- The declarations of a text as one flat list, each with what it is declared in, and the parts that rules look at.
use Rattle.std.specs.Prelude.{ℕ, List, [], ◌∷◌, ◌++◌, map, Option, Some, None}
use Rattle.std.specs.List.{flat_map}
use Rattle.st_types.specs.declared.configuration.GlobalQualifier.{GlobalQualifier}
use Rattle.st_types.specs.declared.data_type.ArrayType.{ArrayType}
use Rattle.st_types.specs.declared.data_type.SimpleType.{SimpleType}
use Rattle.st_types.specs.declared.data_type.VariableType.{VariableType}
use Rattle.st_types.specs.declared.data_type.VariableType.TheVariants as types
use Rattle.st_types.specs.declared.declaration.Section.{Section}
use Rattle.st_types.specs.declared.identifier.Identifier.{Identifier}
use Rattle.st_types.specs.declared.unit.UnitSort.{UnitSort}
use Rattle.st_types.specs.declared.unit.UnitSort.TheVariants.{Function, FunctionBlock, Program}
use Rattle.st_types.specs.Declarations as declared_as
use Rattle.st_types.specs.Declarations.{Field, TypeDefinition, TypeDeclaration, Declaration, VariableBlock}
use Rattle.st_types.specs.DeclarationViews.{declaration_view, field_view, type_declaration_view}
use Rattle.st_types.specs.Units.{OrganisationUnit}
use Rattle.st_types.specs.UnitViews.{unit_view}
use Rattle.st_types.specs.Configurations.{GlobalDeclaration, GlobalBlock, Resource, Configuration}
use Rattle.st_types.specs.ConfigurationViews.{global_declaration_view, resource_view}
use Rattle.st_types.specs.Sources as sources
use Rattle.st_types.specs.Sources.{LibraryElement, Source}
use Rattle.st_rules.specs.DeclaredTypes.{Declaring, field, variable_of, global}
use Rattle.st_rules.specs.TypeRules.{retained_address, wrong_priority}
use Rattle.st_decl.specs.declared.entries.Entry as code_entry
use Rattle.st_decl.specs.declared.entries.Entry.TheVariants.{«Type» as TypeEntry, Field as FieldEntry, Unit}
use Rattle.st_decl.specs.declared.entries.Entry.TheVariants.{Variable, Global, Resource as ResourceEntry}

pub data Entry : Type 0 where
  type_declared : TypeDeclaration → Entry
  field_declared : Field → Entry
  unit_declared : OrganisationUnit → Entry
  variable_declared : UnitSort → Section → Declaration → Entry
  global_declared : Option GlobalQualifier → GlobalDeclaration → Entry
  resource_declared : Resource → Entry

abbrev pub entry_view : code_entry.Entry → Entry
entry_view (TypeEntry t) = type_declared (type_declaration_view t.now)
entry_view (FieldEntry f) = field_declared (field_view f.now)
entry_view (Unit u) = unit_declared (unit_view u.now)
entry_view (Variable sort section d) = variable_declared sort.now section (declaration_view d.now)
entry_view (Global q d) = global_declared q (global_declaration_view d.now)
entry_view (ResourceEntry r) = resource_declared (resource_view r.now)

abbrev pub fields_of : TypeDefinition → List Entry
fields_of (declared_as.array a) = []
fields_of (declared_as.structure fields) = map field_declared fields
fields_of (declared_as.enumeration names) = []

abbrev pub entries_of_type : TypeDeclaration → List Entry
entries_of_type t = type_declared t ∷ fields_of t.definition

abbrev pub entries_of_block : UnitSort → VariableBlock → List Entry
entries_of_block sort b = map (variable_declared sort b.section) b.declarations

abbrev pub entries_of_unit : OrganisationUnit → List Entry
entries_of_unit u = unit_declared u ∷ flat_map (entries_of_block u.sort) u.blocks

abbrev pub entries_of_globals : GlobalBlock → List Entry
entries_of_globals b = map (global_declared b.qualifier) b.declarations

abbrev pub entries_of_configuration : Configuration → List Entry
entries_of_configuration c = flat_map entries_of_globals c.globals ++ map resource_declared c.resources

abbrev pub entries_of_element : LibraryElement → List Entry
entries_of_element (sources.types ts) = flat_map entries_of_type ts
entries_of_element (sources.unit u) = entries_of_unit u
entries_of_element (sources.configuration c) = entries_of_configuration c

abbrev pub entries_in : Source → List Entry
entries_in source = flat_map entries_of_element source

-- the faults in a part, if a declaration has it
abbrev pub of_each : {A B : Type 0} → (A → List B) → Option A → List B
of_each f (Some x) = f x
of_each f None = []

-- the declared type of a field, of variables or of globals
abbrev pub declaring_of : Entry → Option Declaring
declaring_of (type_declared t) = None
declaring_of (field_declared f) = Some (record { role = field; declared = f.declared; initial = f.initial })
declaring_of (unit_declared u) = None
declaring_of (variable_declared sort section d) =
    Some (record { role = variable_of sort section; declared = d.declared; initial = d.initial })
declaring_of (global_declared q d) = Some (record { role = global; declared = d.declared; initial = d.initial })
declaring_of (resource_declared r) = None

abbrev pub array_in_type : VariableType → Option ArrayType
array_in_type (types.Simple t) = None
array_in_type (types.Array a) = Some a

abbrev pub array_in_definition : TypeDefinition → Option ArrayType
array_in_definition (declared_as.array a) = Some a
array_in_definition (declared_as.structure fields) = None
array_in_definition (declared_as.enumeration names) = None

-- the array that is declared, with a name or without
abbrev pub array_of : Entry → Option ArrayType
array_of (type_declared t) = array_in_definition t.definition
array_of (field_declared f) = array_in_type f.declared
array_of (unit_declared u) = None
array_of (variable_declared sort section d) = array_in_type d.declared
array_of (global_declared q d) = array_in_type d.declared
array_of (resource_declared r) = None

abbrev pub result_of_sort : UnitSort → Option SimpleType
result_of_sort (Function t) = Some t
result_of_sort FunctionBlock = None
result_of_sort Program = None

-- the type of a function's result
abbrev pub result_of : Entry → Option SimpleType
result_of (unit_declared u) = result_of_sort u.sort
result_of _ = None

abbrev pub names_in_definition : TypeDefinition → Option (List Identifier)
names_in_definition (declared_as.enumeration names) = Some names
names_in_definition (declared_as.structure fields) = None
names_in_definition (declared_as.array a) = None

-- the names of an enumerated type
abbrev pub enumeration_of : Entry → Option (List Identifier)
enumeration_of (type_declared t) = names_in_definition t.definition
enumeration_of _ = None

abbrev pub retained_address_of : Entry → List ℕ
retained_address_of (global_declared q d) = retained_address q d.names
retained_address_of _ = []

abbrev pub priorities_of : Entry → List ℕ
priorities_of (resource_declared r) = flat_map wrong_priority r.tasks
priorities_of _ = []
