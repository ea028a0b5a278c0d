-- The mirror of the tree of a whole text.
use Rattle.std.specs.Prelude.{map}
use Rattle.st_types.specs.declared.source.LibraryElement as code_element
use Rattle.st_types.specs.declared.source.LibraryElement.TheVariants as variants
use Rattle.st_types.specs.declared.source.Source as code_source
use Rattle.st_types.specs.DeclarationViews.{type_declaration_view}
use Rattle.st_types.specs.UnitViews.{unit_view}
use Rattle.st_types.specs.ConfigurationViews.{configuration_view}
use Rattle.st_types.specs.Sources.{LibraryElement, types, unit, configuration, Source}

abbrev pub element_view : code_element.LibraryElement → LibraryElement
element_view (variants.Types ts) = types (map type_declaration_view ts.items)
element_view (variants.Unit u) = unit (unit_view u)
element_view (variants.Configuration c) = configuration (configuration_view c)

abbrev pub source_view : code_source.Source → Source
source_view s = map element_view s.elements.items
