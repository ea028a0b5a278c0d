-- The scopes of a text: each is a list of names in the order in which they are declared.
use Rattle.std.specs.Prelude.{List, [], ◌∷◌, ◌++◌, map}
use Rattle.std.specs.List.{flat_map}
use Rattle.st_types.specs.declared.identifier.Identifier.{Identifier}
use Rattle.st_types.specs.Declarations.{TypeDefinition, array, structure, enumeration, VariableBlock}
use Rattle.st_types.specs.Units.{OrganisationUnit}
use Rattle.st_types.specs.Configurations.{GlobalNames, located, listed, GlobalBlock, Resource, Configuration}
use Rattle.st_types.specs.Sources.{LibraryElement, types, unit, configuration, Source}
use Rattle.st_rules.specs.InitialScopes.{scopes_in_optional}

-- types, functions, blocks and programs
abbrev pub names_of_element : LibraryElement → List Identifier
names_of_element (types ts) = map (λ t. t.name) ts
names_of_element (unit u) = u.name ∷ []
names_of_element (configuration c) = []

abbrev pub names_of_text : Source → List Identifier
names_of_text source = flat_map names_of_element source

-- the variables of a unit, all its blocks together
abbrev pub variables_of_block : VariableBlock → List Identifier
variables_of_block b = flat_map (λ d. d.names) b.declarations

abbrev pub variables_of : OrganisationUnit → List Identifier
variables_of u = flat_map variables_of_block u.blocks

abbrev pub variables_of_element : LibraryElement → List Identifier
variables_of_element (types ts) = []
variables_of_element (unit u) = variables_of u
variables_of_element (configuration c) = []

abbrev pub variables_of_text : Source → List Identifier
variables_of_text source = flat_map variables_of_element source

-- the fields of a structure, and the scopes in their initial values; the names of an enumerated type
abbrev pub scopes_of_type : TypeDefinition → List (List Identifier)
scopes_of_type (array a) = []
scopes_of_type (structure fields) = map (λ f. f.name) fields ∷ flat_map (λ f. scopes_in_optional f.initial) fields
scopes_of_type (enumeration names) = names ∷ []

-- the scopes in the initial values of variables and of globals
abbrev pub scopes_in_variables : VariableBlock → List (List Identifier)
scopes_in_variables b = flat_map (λ d. scopes_in_optional d.initial) b.declarations

abbrev pub scopes_in_globals : GlobalBlock → List (List Identifier)
scopes_in_globals b = flat_map (λ d. scopes_in_optional d.initial) b.declarations

abbrev pub listed_names : GlobalNames → List Identifier
listed_names (located x a) = x ∷ []
listed_names (listed xs) = xs

abbrev pub globals_of_block : GlobalBlock → List Identifier
globals_of_block b = flat_map (λ d. listed_names d.names) b.declarations

abbrev pub globals_of : Configuration → List Identifier
globals_of c = flat_map globals_of_block c.globals

-- the tasks and instances of a resource
abbrev pub names_in : Resource → List Identifier
names_in r = map (λ t. t.name) r.tasks ++ map (λ i. i.name) r.instances

abbrev pub scopes_of_element : LibraryElement → List (List Identifier)
scopes_of_element (types ts) = flat_map (λ t. scopes_of_type t.definition) ts
scopes_of_element (unit u) = variables_of u ∷ flat_map scopes_in_variables u.blocks
scopes_of_element (configuration c) =
    (globals_of c ∷ flat_map scopes_in_globals c.globals) ++ map (λ r. r.name) c.resources ∷ map names_in c.resources

abbrev pub scopes_of : Source → List (List Identifier)
scopes_of source = names_of_text source ∷ flat_map scopes_of_element source
