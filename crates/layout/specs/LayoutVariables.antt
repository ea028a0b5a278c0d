-- The variables of a whole layout as they are declared, in its order: the globals in their order, inputs of the plant
-- among them, then by resources and their instances the variables of each instance's program.
use Rattle.std.specs.Prelude.{List, [], ◌∷◌, ◌++◌, map, Bool, true, false, Option, Some, None}
use Rattle.st_types.specs.declared.identifier.Identifier.{Identifier}
use Rattle.st_types.specs.declared.path.Owner.{Owner}
use Rattle.st_types.specs.declared.configuration.Direction.{Direction}
use Rattle.st_types.specs.declared.configuration.Direction.TheVariants.{Input, Output}
use Rattle.st_types.specs.declared.configuration.GlobalQualifier.{GlobalQualifier}
use Rattle.st_types.specs.declared.configuration.GlobalQualifier.TheVariants as qualifiers
use Rattle.st_types.specs.declared.configuration.Instance.{Instance}
use Rattle.st_types.specs.declared.declaration.Retention.{Retention}
use Rattle.st_types.specs.declared.declaration.Retention.TheVariants.{Retain}
use Rattle.st_types.specs.declared.unit.UnitSort.{UnitSort}
use Rattle.st_types.specs.declared.unit.UnitSort.TheVariants.{Function, FunctionBlock, Program}
use Rattle.st_types.specs.Declarations.{VariableBlock}
use Rattle.st_types.specs.Configurations.{GlobalNames, located, listed, GlobalDeclaration, GlobalBlock, Resource}
use Rattle.st_types.specs.Configurations.{Configuration}
use Rattle.st_types.specs.Units.{OrganisationUnit}
use Rattle.st_types.specs.Sources as sources
use Rattle.st_types.specs.Sources.{LibraryElement, Source}
use Rattle.st_meaning.specs.NameTypes.{Declared, declared_in, unit_named}
use Rattle.st_meaning.specs.ResolvedUnits.{resolved_source}
use Rattle.st_meaning.specs.Scopes.{Name}
use Rattle.layout.specs.Types.{Site, NamedSite, sites_of_blocks}

-- a variable of a layout: the program's instance that it belongs to, or nobody; its name; its declared facts; and
-- whether its value comes from the plant
pub record Owned : Type 0 where
  pub owner : Option Owner
  pub name : Name
  pub site : Site
  pub is_input : Bool

abbrev pub owned_variable : Option Owner → NamedSite → Owned
owned_variable o d = record { owner = o; name = d.name; site = d.site; is_input = false }

-- VAR_GLOBAL RETAIN
abbrev pub retention_of_globals : Option GlobalQualifier → Option Retention
retention_of_globals (Some qualifiers.Retain) = Some Retain
retention_of_globals (Some qualifiers.Constant) = None
retention_of_globals None = None

abbrev pub site_of_global : Option Retention → GlobalDeclaration → Site
site_of_global keep d = record { declared = d.declared; initial = d.initial; retentions = keep ∷ [] }

abbrev pub is_input_address : Direction → Bool
is_input_address Input = true
is_input_address Output = false

abbrev pub global_variable : Site → Bool → Identifier → Owned
global_variable s input x = record { owner = None; name = x.name; site = s; is_input = input }

-- a global at the address of an input is an input; one at the address of an output is a global like others
abbrev pub variables_of_names : Site → GlobalNames → List Owned
variables_of_names s (located x a) = global_variable s (is_input_address a.direction) x ∷ []
variables_of_names s (listed xs) = map (global_variable s false) xs

abbrev pub variables_of_declarations : Option Retention → List GlobalDeclaration → List Owned
variables_of_declarations keep [] = []
variables_of_declarations keep (d ∷ ds) =
    variables_of_names (site_of_global keep d) d.names ++ variables_of_declarations keep ds

abbrev pub variables_of_globals : List GlobalBlock → List Owned
variables_of_globals [] = []
variables_of_globals (b ∷ bs) =
    variables_of_declarations (retention_of_globals b.qualifier) b.declarations ++ variables_of_globals bs

-- the variables of a program; none if the unit isn't a program, or if there is none of the name
abbrev pub sites_of_program : UnitSort → List VariableBlock → List NamedSite
sites_of_program Program bs = sites_of_blocks bs
sites_of_program FunctionBlock bs = []
sites_of_program (Function t) bs = []

abbrev pub program_sites : Option OrganisationUnit → List NamedSite
program_sites None = []
program_sites (Some u) = sites_of_program u.sort u.blocks

abbrev pub owner_in : Name → Instance → Owner
owner_in resource i = record { resource = resource; instance = i.name.name }

abbrev pub variables_of_instances : Declared → Name → List Instance → List Owned
variables_of_instances text resource [] = []
variables_of_instances text resource (i ∷ is) =
    map (owned_variable (Some (owner_in resource i))) (program_sites (unit_named text.units i.program.name))
    ++ variables_of_instances text resource is

abbrev pub variables_of_resources : Declared → List Resource → List Owned
variables_of_resources text [] = []
variables_of_resources text (r ∷ rs) =
    variables_of_instances text r.name.name r.instances ++ variables_of_resources text rs

-- a text has a layout if it has exactly one configuration
abbrev pub configurations_in : Source → List Configuration
configurations_in [] = []
configurations_in (sources.types ts ∷ rest) = configurations_in rest
configurations_in (sources.unit u ∷ rest) = configurations_in rest
configurations_in (sources.configuration c ∷ rest) = c ∷ configurations_in rest

abbrev pub only_configuration : List Configuration → Option Configuration
only_configuration (c ∷ []) = Some c
only_configuration _ = None

abbrev pub variables_of_configuration : Declared → Option Configuration → List Owned
variables_of_configuration text None = []
variables_of_configuration text (Some c) = variables_of_globals c.globals ++ variables_of_resources text c.resources

-- the types and units of a text in which each literal has its type, and its configuration
abbrev pub declared_of : Source → Declared
declared_of source = declared_in (resolved_source source)

abbrev pub configuration_of : Source → Option Configuration
configuration_of source = only_configuration (configurations_in (resolved_source source))

-- the variables of a text's layout
abbrev pub layout_variables : Source → List Owned
layout_variables source = variables_of_configuration (declared_of source) (configuration_of source)
