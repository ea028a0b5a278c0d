-- The mirrors of the code's declarations.
use Rattle.std.specs.Prelude.{option_map}
use Rattle.st_types.specs.InitialViews.{initial_view}
use Rattle.st_rules.specs.DeclaredTypes.{Role, field, variable_of, global, Declaring}
use Rattle.st_decl.specs.declared.declarings.Role as code_role
use Rattle.st_decl.specs.declared.declarings.Role.TheVariants.{Field, Variable, Global}
use Rattle.st_decl.specs.declared.declarings.Declaring as code_declaring

abbrev pub role_view : code_role.Role → Role
role_view Field = field
role_view (Variable sort section) = variable_of sort.now section
role_view Global = global

abbrev pub declaring_view : code_declaring.Declaring → Declaring
declaring_view d = record {
  role = role_view d.role;
  declared = d.declared.now;
  initial =
      option_map initial_view d.initial.now;
}
