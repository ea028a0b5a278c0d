-- Whole texts, as the definitions see them.
use Rattle.std.specs.Prelude.{List}
use Rattle.st_types.specs.Declarations.{TypeDeclaration}
use Rattle.st_types.specs.Units.{OrganisationUnit}
use Rattle.st_types.specs.Configurations.{Configuration}

pub data LibraryElement : Type 0 where
  -- a block from TYPE to END_TYPE
  types : List TypeDeclaration → LibraryElement
  unit : OrganisationUnit → LibraryElement
  configuration : Configuration → LibraryElement

abbrev pub Source : Type 0
Source = List LibraryElement
