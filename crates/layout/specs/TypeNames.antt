-- The names of enumerated types.
use Rattle.std.specs.Prelude.{List, [], ◌∷◌, map}
use Rattle.std.specs.List.{flat_map}
use Rattle.st_types.specs.Declarations.{TypeDeclaration, TypeDefinition, array, structure, enumeration}
use Rattle.st_types.specs.Sources.{LibraryElement, types, unit, configuration, Source}
use Rattle.st_meaning.specs.Scopes.{Name}

-- those of an enumerated type; another type has none
abbrev pub names_of_type : TypeDefinition → List (List Name)
names_of_type (enumeration names) = map (λ x. x.name) names ∷ []
names_of_type (structure fields) = []
names_of_type (array a) = []

abbrev pub names_of_types : List TypeDeclaration → List (List Name)
names_of_types ts = flat_map (λ t. names_of_type t.definition) ts

abbrev pub names_of_element : LibraryElement → List (List Name)
names_of_element (types ts) = names_of_types ts
names_of_element (unit u) = []
names_of_element (configuration c) = []

-- those of each enumerated type of a text
abbrev pub names_in_text : Source → List (List Name)
names_in_text source = flat_map names_of_element source
