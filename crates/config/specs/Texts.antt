-- A text, as its bytes and as its tree.
use Rattle.std.specs.Prelude.{ℕ, List}
use Rattle.st_lex.specs.declared.token.Token.{Token}
use Rattle.st_lex.specs.Texts.{Lexes}
use Rattle.st_types.specs.Sources.{Source}
use Rattle.st_parse.specs.Sources.{IsSource}
use Rattle.st_parse.specs.Depths.{SourceWithin}

-- The bytes spell the source.
pub record IsTextOf (text : List ℕ) (source : Source) : Type 0 where
  pub tokens : List Token
  pub spelled : Lexes text tokens
  pub parsed : IsSource tokens source
  pub within : SourceWithin 64 source
