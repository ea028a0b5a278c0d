-- The rule on names that makes each path unique: in each scope of variables no name occurs twice.
use Rattle.std.specs.Prelude.{List, [], ◌∷◌, map, Bool, true, not, ◌&&◌, Option, Some, None}
use Rattle.std.specs.List.{list_all}
use Rattle.st_types.specs.declared.unit.UnitSort.{UnitSort}
use Rattle.st_types.specs.declared.unit.UnitSort.TheVariants.{Function, FunctionBlock, Program}
use Rattle.st_types.specs.Declarations.{TypeDefinition, array, structure, enumeration}
use Rattle.st_types.specs.Configurations.{Resource, Configuration}
use Rattle.st_types.specs.Units.{OrganisationUnit}
use Rattle.st_types.specs.Sources.{Source}
use Rattle.st_meaning.specs.NameTypes.{Declared}
use Rattle.st_meaning.specs.Scopes.{Name, contains_name}
use Rattle.layout.specs.Types.{NamedSite, sites_of_blocks, site_of_field}
use Rattle.layout.specs.LayoutVariables.{variables_of_globals, declared_of, configuration_of}

-- no name occurs twice
abbrev pub are_different : List Name → Bool
are_different [] = true
are_different (x ∷ xs) = not (contains_name xs x) && are_different xs

abbrev pub names_of_sites : List NamedSite → List Name
names_of_sites ds = map (λ d. d.name) ds

-- the fields of a structure
abbrev pub has_different_fields : TypeDefinition → Bool
has_different_fields (structure fields) = are_different (names_of_sites (map site_of_field fields))
has_different_fields (array a) = true
has_different_fields (enumeration names) = true

-- the variables of a unit; the name of a function is one of them, its result
abbrev pub variable_names : UnitSort → OrganisationUnit → List Name
variable_names (Function t) u = u.name.name ∷ names_of_sites (sites_of_blocks u.blocks)
variable_names FunctionBlock u = names_of_sites (sites_of_blocks u.blocks)
variable_names Program u = names_of_sites (sites_of_blocks u.blocks)

abbrev pub has_different_variables : OrganisationUnit → Bool
has_different_variables u = are_different (variable_names u.sort u)

abbrev pub are_types_and_units_different : Declared → Bool
are_types_and_units_different text =
    list_all (λ t. has_different_fields t.definition) text.types && list_all has_different_variables text.units

-- the globals, the resources, and the instances of each resource
abbrev pub has_different_instances : Resource → Bool
has_different_instances r = are_different (map (λ i. i.name.name) r.instances)

abbrev pub is_configuration_different : Option Configuration → Bool
is_configuration_different None = true
is_configuration_different (Some c) = are_different (map (λ v. v.name) (variables_of_globals c.globals))
    && (are_different (map (λ r. r.name.name) c.resources) && list_all has_different_instances c.resources)

-- No two fields of one structure have the same name, nor two variables of one unit, two globals, two resources, or
-- two instances of one resource.
abbrev pub has_different_names : Source → Bool
has_different_names source =
    are_types_and_units_different (declared_of source) && is_configuration_different (configuration_of source)
