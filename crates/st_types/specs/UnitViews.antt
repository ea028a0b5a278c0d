-- The mirrors of the code's units.
use Rattle.std.specs.Prelude.{map}
use Rattle.st_types.specs.declared.unit.Unit as code_unit
use Rattle.st_types.specs.DeclarationViews.{variable_block_view}
use Rattle.st_types.specs.StatementViews.{stmt_view}
use Rattle.st_types.specs.Units.{OrganisationUnit}

abbrev pub unit_view : code_unit.Unit → OrganisationUnit
unit_view u = record {
  sort = u.sort;
  name = u.name;
  blocks = map variable_block_view u.blocks.items;
  body =
      map stmt_view u.body.items;
}
