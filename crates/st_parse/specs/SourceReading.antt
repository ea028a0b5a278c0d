-- Reading whole texts.
use Rattle.std.specs.Prelude.{ℕ, Bool, true}
use Rattle.st_lex.specs.declared.token.TokenKind.{TokenKind}
use Rattle.st_lex.specs.declared.token.TokenKind.TheVariants.{Keyword}
use Rattle.st_lex.specs.declared.keyword.Keyword.TheVariants as w
use Rattle.st_types.specs.Sources.{LibraryElement, Source}
use Rattle.st_types.specs.Sources as e
use Rattle.st_parse.specs.Parsers.{Parser, ◌>>=◌, pure, refuse, by_kind}
use Rattle.st_parse.specs.Reading.{many}
use Rattle.st_parse.specs.TypeReading.{types_at}
use Rattle.st_parse.specs.UnitReading.{function_at, function_block_unit_at, program_at}
use Rattle.st_parse.specs.ConfigurationReading.{configuration_at}

unfoldable pub types_element_at : ℕ → Parser LibraryElement
types_element_at depth = do
  xs ← types_at depth
  pure (e.types xs)

unfoldable pub function_element_at : ℕ → Parser LibraryElement
function_element_at depth = do
  u ← function_at depth
  pure (e.unit u)

unfoldable pub block_element_at : ℕ → Parser LibraryElement
block_element_at depth = do
  u ← function_block_unit_at depth
  pure (e.unit u)

unfoldable pub program_element_at : ℕ → Parser LibraryElement
program_element_at depth = do
  u ← program_at depth
  pure (e.unit u)

unfoldable pub configuration_element_at : ℕ → Parser LibraryElement
configuration_element_at depth = do
  c ← configuration_at depth
  pure (e.configuration c)

abbrev pub element_by : ℕ → TokenKind → Parser LibraryElement
element_by depth (Keyword w.Type) = types_element_at depth
element_by depth (Keyword w.Function) = function_element_at depth
element_by depth (Keyword w.FunctionBlock) = block_element_at depth
element_by depth (Keyword w.Program) = program_element_at depth
element_by depth (Keyword w.Configuration) = configuration_element_at depth
element_by depth k = refuse

unfoldable pub element_at : ℕ → Parser LibraryElement
element_at depth = by_kind (element_by depth)

abbrev pub is_token : TokenKind → Bool
is_token k = true

-- elements up to the last token
unfoldable pub source_at : ℕ → Parser Source
source_at depth = many is_token (element_at depth)
