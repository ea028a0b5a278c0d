-- The declarations of a text: the types of its variables, and of the arguments and results of its calls.
use Rattle.std.specs.Prelude.{Bool, true, false, List, [], ◌∷◌, ◌++◌, Bool, if◌then◌else◌, Option, Some, None}
use Rattle.std.specs.Prelude.{option_map, option_and_then, bytes_eq}
use Rattle.std.specs.List.{list_any}
use Rattle.st_types.specs.declared.identifier.Identifier.{Identifier}
use Rattle.st_types.specs.declared.kind.Kind.{Kind}
use Rattle.st_types.specs.declared.data_type.SimpleType.TheVariants.{Elementary, Named}
use Rattle.st_types.specs.declared.data_type.VariableType.{VariableType}
use Rattle.st_types.specs.declared.data_type.VariableType.TheVariants as types
use Rattle.st_types.specs.declared.declaration.Section.{Section}
use Rattle.st_types.specs.declared.declaration.Section.TheVariants.{Input, Output}
use Rattle.st_types.specs.declared.unit.UnitSort.{UnitSort}
use Rattle.st_types.specs.declared.unit.UnitSort.TheVariants.{Function, FunctionBlock, Program}
use Rattle.st_types.specs.Expressions.{Variable, variable, Selector, member, subscript, Selectors, no_selectors}
use Rattle.st_types.specs.Expressions.{selector_then}
use Rattle.st_types.specs.Declarations.{Field, TypeDefinition, array, structure, enumeration, TypeDeclaration}
use Rattle.st_types.specs.Declarations.{Declaration, VariableBlock}
use Rattle.st_types.specs.Units.{OrganisationUnit}
use Rattle.st_types.specs.Sources.{LibraryElement, Source}
use Rattle.st_types.specs.Sources as sources
use Rattle.st_meaning.specs.StandardBlocks as standard
use Rattle.st_meaning.specs.StandardBlocks.{BlockMember, block_of, inputs_of, outputs_of}
use Rattle.st_meaning.specs.Enumerations.{enumerations_of, enumeration_named, kind_of_enumeration}
use Rattle.st_meaning.specs.Scopes.{Name}

-- the types and units of a text
pub record Declared : Type 0 where
  pub types : List TypeDeclaration
  pub units : List OrganisationUnit

abbrev pub types_in : Source → List TypeDeclaration
types_in [] = []
types_in (sources.types ts ∷ rest) = ts ++ types_in rest
types_in (sources.unit u ∷ rest) = types_in rest
types_in (sources.configuration c ∷ rest) = types_in rest

abbrev pub units_in : Source → List OrganisationUnit
units_in [] = []
units_in (sources.types ts ∷ rest) = units_in rest
units_in (sources.unit u ∷ rest) = u ∷ units_in rest
units_in (sources.configuration c ∷ rest) = units_in rest

abbrev pub declared_in : Source → Declared
declared_in source = record { types = types_in source; units = units_in source }

abbrev pub is_named : Name → Identifier → Bool
is_named x y = bytes_eq x y.name

abbrev pub type_named : List TypeDeclaration → Name → Option TypeDefinition
type_named [] x = None
type_named (t ∷ ts) x = if is_named x t.name then Some t.definition else type_named ts x

abbrev pub unit_named : List OrganisationUnit → Name → Option OrganisationUnit
unit_named [] x = None
unit_named (u ∷ us) x = if is_named x u.name then Some u else unit_named us x

-- the type that a list of declarations gives a name
abbrev pub type_in : List Declaration → Name → Option VariableType
type_in [] x = None
type_in (d ∷ ds) x = if list_any (is_named x) d.names then Some d.declared else type_in ds x

abbrev pub or_type : Option VariableType → Option VariableType → Option VariableType
or_type (Some t) other = Some t
or_type None other = other

abbrev pub type_in_blocks : List VariableBlock → Name → Option VariableType
type_in_blocks [] x = None
type_in_blocks (b ∷ bs) x = or_type (type_in b.declarations x) (type_in_blocks bs x)

abbrev pub field_type : List Field → Name → Option VariableType
field_type [] x = None
field_type (f ∷ fs) x = if is_named x f.name then Some f.declared else field_type fs x

abbrev pub elementary : Kind → VariableType
elementary k = types.Simple (Elementary k 0)

abbrev pub result_type : UnitSort → Option VariableType
result_type (Function t) = Some (types.Simple t)
result_type FunctionBlock = None
result_type Program = None

-- the type of a unit's variable; a function's name is a variable in its body
abbrev pub variable_type : OrganisationUnit → Name → Option VariableType
variable_type u x = if is_named x u.name then result_type u.sort else type_in_blocks u.blocks x

abbrev pub member_kind : List BlockMember → Name → Option Kind
member_kind [] x = None
member_kind (m ∷ ms) x = if bytes_eq x m.0 then Some m.1 else member_kind ms x

-- the definition of a declared type
abbrev pub definition_of : Declared → VariableType → Option TypeDefinition
definition_of text (types.Array a) = Some (array a)
definition_of text (types.Simple (Elementary k at)) = None
definition_of text (types.Simple (Named x)) = type_named text.types x.name

abbrev pub element_type : Option TypeDefinition → Option VariableType
element_type (Some (array a)) = Some (types.Simple a.element)
element_type (Some (structure fields)) = None
element_type (Some (enumeration names)) = None
element_type None = None

-- the blocks of variables of one section
abbrev pub is_input : Section → Bool
is_input (Input keep) = true
is_input _ = false

abbrev pub is_output : Section → Bool
is_output (Output keep) = true
is_output _ = false

abbrev pub type_in_sections : (Section → Bool) → List VariableBlock → Name → Option VariableType
type_in_sections wanted [] x = None
type_in_sections wanted (b ∷ bs) x = if wanted b.section
    then or_type (type_in b.declarations x) (type_in_sections wanted bs x) else type_in_sections wanted bs x

abbrev pub sections_of : UnitSort → List VariableBlock → List VariableBlock
sections_of FunctionBlock bs = bs
sections_of (Function t) bs = []
sections_of Program bs = []

-- a variable of the wanted section of a function block of the text
abbrev pub variable_of_block : Declared → (Section → Bool) → Name → Name → Option VariableType
variable_of_block text wanted b x =
    option_and_then (λ u. type_in_sections wanted (sections_of u.sort u.blocks) x) (unit_named text.units b)

-- an input or an output of a block that is named by a type: a standard one, or one of the text
abbrev pub block_variable : Declared → (standard.StandardBlock → List BlockMember) → (Section → Bool) → VariableType
    → Name → Option VariableType
block_variable text standard_ones wanted (types.Array a) x = None
block_variable text standard_ones wanted (types.Simple (Elementary k at)) x = None
block_variable text standard_ones wanted (types.Simple (Named b)) x =
    standard_or_own (block_of b.name)
  where
    standard_or_own : Option standard.StandardBlock → Option VariableType
    standard_or_own (Some k) = option_map elementary (member_kind (standard_ones k) x)
    standard_or_own None = variable_of_block text wanted b.name x

-- the member after a dot: a field of a structure, or an output of an instance
abbrev pub member_type : Declared → VariableType → Name → Option TypeDefinition → Option VariableType
member_type text t x (Some (structure fields)) = field_type fields x
member_type text t x (Some (array a)) = None
member_type text t x (Some (enumeration names)) = None
member_type text t x None = block_variable text outputs_of is_output t x

abbrev pub selected_type : Declared → VariableType → Selector → Option VariableType
selected_type text t (member x) = member_type text t x.name (definition_of text t)
selected_type text t (subscript e) = element_type (definition_of text t)

abbrev pub type_after_selectors : Declared → Selectors → VariableType → Option VariableType
type_after_selectors text no_selectors t = Some t
type_after_selectors text (selector_then x xs) t = option_and_then (type_after_selectors text xs) (selected_type text t x)

-- the elementary type of a type, if it is one
abbrev pub kind_of_type : VariableType → Option Kind
kind_of_type (types.Simple (Elementary k at)) = Some k
kind_of_type (types.Simple (Named x)) = None
kind_of_type (types.Array a) = None

-- the elementary or enumerated type of a type, if it is one, by the types of the text
abbrev pub kind_among : List TypeDeclaration → VariableType → Option Kind
kind_among ts (types.Simple (Elementary k at)) = Some k
kind_among ts (types.Simple (Named x)) = option_map kind_of_enumeration (enumeration_named (enumerations_of ts) x.name)
kind_among ts (types.Array a) = None

-- the elementary or enumerated type of a variable of a unit
abbrev pub kind_of_variable : Declared → OrganisationUnit → Variable → Option Kind
kind_of_variable text u (variable x xs) =
    option_and_then (kind_among text.types) (option_and_then (type_after_selectors text xs) (variable_type u x.name))

-- the type of a function's result
abbrev pub result_kind : Declared → UnitSort → Option Kind
result_kind text sort = option_and_then (kind_among text.types) (result_type sort)

-- the types of the inputs of a list of blocks of variables, in order
abbrev pub kinds_of_declaration : Declared → Declaration → List Identifier → List (Option Kind)
kinds_of_declaration text d [] = []
kinds_of_declaration text d (x ∷ xs) = kind_among text.types d.declared ∷ kinds_of_declaration text d xs

abbrev pub kinds_of_declarations : Declared → List Declaration → List (Option Kind)
kinds_of_declarations text [] = []
kinds_of_declarations text (d ∷ ds) = kinds_of_declaration text d d.names ++ kinds_of_declarations text ds

abbrev pub input_kinds : Declared → List VariableBlock → List (Option Kind)
input_kinds text [] = []
input_kinds text (b ∷ bs) =
    if is_input b.section then kinds_of_declarations text b.declarations ++ input_kinds text bs else input_kinds text bs

-- the type of an input of a block's instance
abbrev pub input_kind : Declared → OrganisationUnit → Name → Name → Option Kind
input_kind text u instance x = option_and_then (kind_among text.types)
    (option_and_then (λ t. block_variable text inputs_of is_input t x) (variable_type u instance))
