-- The mirrors of the code's declarations.
use Rattle.std.specs.Prelude.{map, option_map}
use Rattle.st_types.specs.declared.data_type.Field as code_field
use Rattle.st_types.specs.declared.data_type.TypeDefinition as code_definition
use Rattle.st_types.specs.declared.data_type.TypeDefinition.TheVariants.{Array, Structure, Enumeration}
use Rattle.st_types.specs.declared.data_type.TypeDeclaration as code_type
use Rattle.st_types.specs.declared.declaration.Declaration as code_declaration
use Rattle.st_types.specs.declared.declaration.VariableBlock as code_block
use Rattle.st_types.specs.InitialViews.{initial_view}
use Rattle.st_types.specs.Declarations.{Field, TypeDefinition, array, structure, enumeration, TypeDeclaration}
use Rattle.st_types.specs.Declarations.{Declaration, VariableBlock}

abbrev pub field_view : code_field.Field → Field
field_view f = record { name = f.name; declared = f.declared; initial = option_map initial_view f.initial }

abbrev pub type_definition_view : code_definition.TypeDefinition → TypeDefinition
type_definition_view (Array a) = array a
type_definition_view (Structure fields) = structure (map field_view fields.items)
type_definition_view (Enumeration names) = enumeration names.items

abbrev pub type_declaration_view : code_type.TypeDeclaration → TypeDeclaration
type_declaration_view t = record { name = t.name; definition = type_definition_view t.definition }

abbrev pub declaration_view : code_declaration.Declaration → Declaration
declaration_view d =
    record { names = d.names.items; declared = d.declared; initial = option_map initial_view d.initial }

abbrev pub variable_block_view : code_block.VariableBlock → VariableBlock
variable_block_view b = record { section = b.section; declarations = map declaration_view b.declarations.items }
