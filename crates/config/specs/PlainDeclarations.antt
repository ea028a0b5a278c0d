-- Declarations as the grammar gives them: each name is a word, each bound of an array has at most 64 bits, a type that isn't
-- a name is elementary, before a `#` too, and an enumerated type has names.
use Rattle.std.specs.Prelude.{ℕ, ◌^◌, ◌&&◌, Bool, true, false, length, nat_lt, Option, Some, None}
use Rattle.std.specs.List.{list_all}
use Rattle.st_types.specs.declared.identifier.Identifier.{Identifier}
use Rattle.st_types.specs.declared.kind.Kind.{Kind}
use Rattle.st_types.specs.declared.kind.Kind.TheVariants.{Enumerated}
use Rattle.st_types.specs.declared.literal.Number.{Number}
use Rattle.st_types.specs.UpperNames.{is_upper_name}
use Rattle.st_types.specs.declared.configuration.Instance.{Instance}
use Rattle.st_types.specs.declared.data_type.ArrayType.{ArrayType}
use Rattle.st_types.specs.declared.data_type.SimpleType.{SimpleType}
use Rattle.st_types.specs.declared.data_type.SimpleType.TheVariants.{Elementary, Named}
use Rattle.st_types.specs.declared.data_type.VariableType.{VariableType}
use Rattle.st_types.specs.declared.data_type.VariableType.TheVariants as types
use Rattle.st_types.specs.Declarations as declarations
use Rattle.st_types.specs.Declarations.{Field, TypeDefinition, TypeDeclaration, Declaration, VariableBlock}
use Rattle.st_types.specs.Units.{OrganisationUnit}
use Rattle.st_types.specs.Configurations.{GlobalNames, located, listed, GlobalDeclaration, GlobalBlock, Resource}
use Rattle.st_types.specs.Configurations.{Configuration}
use Rattle.st_types.specs.Sources as sources
use Rattle.st_types.specs.Sources.{LibraryElement, Source}

-- a number of at most 64 bits
abbrev pub is_short : ℕ → Bool
is_short n = nat_lt n (2 ^ 64)

-- not an enumerated type
abbrev pub is_elementary : Kind → Bool
is_elementary (Enumerated names number) = false
is_elementary k = true

-- the type before a `#`
abbrev pub is_type_word : Option Kind → Bool
is_type_word None = true
is_type_word (Some k) = is_elementary k

abbrev pub is_plain_number : Number → Bool
is_plain_number n = is_short n.magnitude && is_type_word n.written

-- a name in upper case
abbrev pub is_word : Identifier → Bool
is_word x = is_upper_name x.name

-- types
abbrev pub is_plain_simple : SimpleType → Bool
is_plain_simple (Elementary k at) = is_elementary k
is_plain_simple (Named x) = true

abbrev pub is_plain_array : ArrayType → Bool
is_plain_array a = is_plain_number a.lower && is_plain_number a.upper && is_plain_simple a.element

abbrev pub is_plain_type : VariableType → Bool
is_plain_type (types.Simple t) = is_plain_simple t
is_plain_type (types.Array a) = is_plain_array a

abbrev pub is_plain_field : Field → Bool
is_plain_field f = is_word f.name && is_plain_type f.declared

abbrev pub is_plain_definition : TypeDefinition → Bool
is_plain_definition (declarations.array a) = is_plain_array a
is_plain_definition (declarations.structure fields) = list_all is_plain_field fields
is_plain_definition (declarations.enumeration names) = nat_lt 0 (length names) && list_all is_word names

abbrev pub is_plain_type_declaration : TypeDeclaration → Bool
is_plain_type_declaration t = is_word t.name && is_plain_definition t.definition

-- variables and units
abbrev pub is_plain_declaration : Declaration → Bool
is_plain_declaration d = list_all is_word d.names && is_plain_type d.declared

abbrev pub is_plain_block : VariableBlock → Bool
is_plain_block b = list_all is_plain_declaration b.declarations

abbrev pub is_plain_unit : OrganisationUnit → Bool
is_plain_unit u = is_word u.name && list_all is_plain_block u.blocks

-- configurations
abbrev pub are_words : GlobalNames → Bool
are_words (located x a) = is_word x
are_words (listed xs) = list_all is_word xs

abbrev pub is_plain_global : GlobalDeclaration → Bool
is_plain_global d = are_words d.names && is_plain_type d.declared

abbrev pub is_plain_globals : GlobalBlock → Bool
is_plain_globals b = list_all is_plain_global b.declarations

abbrev pub is_plain_instance : Instance → Bool
is_plain_instance i = is_word i.name

abbrev pub is_plain_resource : Resource → Bool
is_plain_resource r = is_word r.name && list_all is_plain_instance r.instances

abbrev pub is_plain_configuration : Configuration → Bool
is_plain_configuration c = list_all is_plain_globals c.globals && list_all is_plain_resource c.resources

-- of a whole text
abbrev pub is_plain_element : LibraryElement → Bool
is_plain_element (sources.types ts) = list_all is_plain_type_declaration ts
is_plain_element (sources.unit u) = is_plain_unit u
is_plain_element (sources.configuration c) = is_plain_configuration c

abbrev pub is_plain : Source → Bool
is_plain source = list_all is_plain_element source
