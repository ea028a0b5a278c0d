-- The grammar of whole texts.
use Rattle.std.specs.Prelude.{◌≡◌, List, []}
use Rattle.st_types.specs.Declarations.{TypeDeclaration}
use Rattle.st_types.specs.Units.{OrganisationUnit}
use Rattle.st_types.specs.Configurations.{Configuration}
use Rattle.st_types.specs.Sources.{LibraryElement, Source}
use Rattle.st_types.specs.Sources as e
use Rattle.st_parse.specs.Tokens.{Tokens}
use Rattle.st_parse.specs.Lists.{Many}
use Rattle.st_parse.specs.Types.{IsTypes}
use Rattle.st_parse.specs.Units.{IsUnit}
use Rattle.st_parse.specs.Configurations.{IsConfiguration}

pub data IsLibraryElement : Tokens → LibraryElement → Tokens → Type 0 where
  types : {ts us : Tokens} {x : LibraryElement} (xs : List TypeDeclaration) → IsTypes ts xs us → x ≡ e.types xs
      → IsLibraryElement ts x us
  unit : {ts us : Tokens} {x : LibraryElement} (u : OrganisationUnit) → IsUnit ts u us → x ≡ e.unit u
      → IsLibraryElement ts x us
  configuration : {ts us : Tokens} {x : LibraryElement} (c : Configuration) → IsConfiguration ts c us
      → x ≡ e.configuration c → IsLibraryElement ts x us

-- All of the tokens are those of the source.
abbrev pub IsSource : Tokens → Source → Type 0
IsSource ts source = Many IsLibraryElement ts source []
