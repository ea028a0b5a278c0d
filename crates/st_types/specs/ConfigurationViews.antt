-- The mirrors of the code's configurations.
use Rattle.std.specs.Prelude.{map, option_map}
use Rattle.st_types.specs.declared.configuration.GlobalNames as code_names
use Rattle.st_types.specs.declared.configuration.GlobalNames.TheVariants.{Located, Listed}
use Rattle.st_types.specs.declared.configuration.GlobalDeclaration as code_declaration
use Rattle.st_types.specs.declared.configuration.GlobalBlock as code_block
use Rattle.st_types.specs.declared.configuration.Resource as code_resource
use Rattle.st_types.specs.declared.configuration.Configuration as code_configuration
use Rattle.st_types.specs.InitialViews.{initial_view}
use Rattle.st_types.specs.Configurations.{GlobalNames, located, listed, GlobalDeclaration, GlobalBlock, Resource}
use Rattle.st_types.specs.Configurations.{Configuration}

abbrev pub global_names_view : code_names.GlobalNames → GlobalNames
global_names_view (Located x a) = located x a
global_names_view (Listed xs) = listed xs.items

abbrev pub global_declaration_view : code_declaration.GlobalDeclaration → GlobalDeclaration
global_declaration_view d =
    record { names = global_names_view d.names; declared = d.declared; initial = option_map initial_view d.initial }

abbrev pub global_block_view : code_block.GlobalBlock → GlobalBlock
global_block_view b =
    record { qualifier = b.qualifier; declarations = map global_declaration_view b.declarations.items }

abbrev pub resource_view : code_resource.Resource → Resource
resource_view r =
    record { name = r.name; processor = r.processor; tasks = r.tasks.items; instances = r.instances.items }

abbrev pub configuration_view : code_configuration.Configuration → Configuration
configuration_view c = record {
  name = c.name;
  globals = map global_block_view c.globals.items;
  resources =
      map resource_view c.resources.items;
}
