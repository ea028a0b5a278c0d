-- Variables by the parts of their declarations that linking needs.
use Rattle.std.specs.Prelude.{List, [], ◌∷◌, ◌++◌, map, Bool, false, ◌&&◌, if◌then◌else◌}
use Rattle.std.specs.List.{list_all}
use Rattle.st_types.specs.declared.identifier.Identifier.{Identifier}
use Rattle.st_types.specs.declared.data_type.SimpleType.{SimpleType}
use Rattle.st_types.specs.declared.data_type.VariableType.{VariableType}
use Rattle.st_types.specs.declared.data_type.VariableType.TheVariants as types
use Rattle.st_types.specs.declared.unit.UnitSort.{UnitSort}
use Rattle.st_types.specs.declared.unit.UnitSort.TheVariants.{Function, FunctionBlock, Program}
use Rattle.st_types.specs.Configurations.{GlobalNames, located, listed, GlobalDeclaration, GlobalBlock}
use Rattle.st_types.specs.Declarations.{Declaration, VariableBlock}
use Rattle.st_types.specs.Units.{OrganisationUnit}
use Rattle.st_meaning.specs.Bodies.{is_external}
use Rattle.st_meaning.specs.NameTypes.{Declared}
use Rattle.st_meaning.specs.Scopes.{Name}
use Rattle.st_rules.specs.declared.limits.TheConstants.{MAX_TYPE_DEPTH}
use Rattle.symbols.specs.PlaceTypes.{place_type_view}
use Rattle.layout.specs.LayoutVariables.{Owned, is_input_address}
use Rattle.layout.specs.Shapes.{is_sound}
use Rattle.layout.specs.Types.{NamedSite, is_within_depth, shape_of_type}
use Rattle.st_link.specs.declared.variables.Variable.{Variable}

-- its name, its type, and whether its value comes from the plant
pub record LinkVariable : Type 0 where
  pub name : Name
  pub declared : VariableType
  pub is_input : Bool

abbrev pub variable_view : Variable → LinkVariable
variable_view v = record { name = v.name.now; declared = place_type_view v.declared; is_input = v.is_input }

-- of a variable of a layout, and of one of a unit
abbrev pub of_owned : Owned → LinkVariable
of_owned v = record { name = v.name; declared = v.site.declared; is_input = v.is_input }

abbrev pub of_site : NamedSite → LinkVariable
of_site d = record { name = d.name; declared = d.site.declared; is_input = false }

-- a variable of this type
abbrev pub named_so : VariableType → Identifier → LinkVariable
named_so t x = record { name = x.name; declared = t; is_input = false }

abbrev pub link_variables : List Declaration → List LinkVariable
link_variables [] = []
link_variables (d ∷ ds) = map (named_so d.declared) d.names ++ link_variables ds

-- the variables of a unit, in order; externals aren't variables of its own
abbrev pub variables_of_blocks : List VariableBlock → List LinkVariable
variables_of_blocks [] = []
variables_of_blocks (b ∷ bs) =
    if is_external b.section then variables_of_blocks bs else link_variables b.declarations ++ variables_of_blocks bs

-- the result of a function, whose name is the function's
abbrev pub result_of : Name → SimpleType → LinkVariable
result_of x t = record { name = x; declared = types.Simple t; is_input = false }

-- the globals, inputs of the plant among them
abbrev pub variables_of_names : VariableType → GlobalNames → List LinkVariable
variables_of_names t (located x a) =
    record { name = x.name; declared = t; is_input = is_input_address a.direction } ∷ []
variables_of_names t (listed xs) = map (named_so t) xs

abbrev pub variables_declared : List GlobalDeclaration → List LinkVariable
variables_declared [] = []
variables_declared (d ∷ ds) = variables_of_names d.declared d.names ++ variables_declared ds

abbrev pub variables_of_globals : List GlobalBlock → List LinkVariable
variables_of_globals [] = []
variables_of_globals (b ∷ bs) = variables_declared b.declarations ++ variables_of_globals bs

-- the variables of a unit's body
abbrev pub variables_by_sort : UnitSort → OrganisationUnit → List LinkVariable
variables_by_sort (Function t) u = result_of u.name.name t ∷ variables_of_blocks u.blocks
variables_by_sort FunctionBlock u = variables_of_blocks u.blocks
variables_by_sort Program u = variables_of_blocks u.blocks

-- Its type is expanded whole, and no two parts of one whole have the same name.
abbrev pub is_whole : Declared → LinkVariable → Bool
is_whole text v = is_within_depth MAX_TYPE_DEPTH text v.declared && is_sound (shape_of_type text v.declared)

abbrev pub are_whole : Declared → List LinkVariable → Bool
are_whole text vs = list_all (is_whole text) vs

abbrev pub is_whole_unit : Declared → OrganisationUnit → Bool
is_whole_unit text u = are_whole text (variables_by_sort u.sort u)
