-- Reading functions, function blocks and programs.
use Rattle.std.specs.Prelude.{ℕ, Bool, ◌||◌, List, Option, None}
use Rattle.st_types.specs.declared.identifier.Identifier.{Identifier}
use Rattle.st_lex.specs.declared.token.TokenKind.{TokenKind}
use Rattle.st_lex.specs.declared.mark.Mark.TheVariants as m
use Rattle.st_lex.specs.declared.keyword.Keyword.TheVariants as w
use Rattle.st_types.specs.declared.declaration.Retention.{Retention}
use Rattle.st_types.specs.declared.declaration.Section.{Section}
use Rattle.st_types.specs.declared.declaration.Section.TheVariants as sections
use Rattle.st_types.specs.declared.unit.UnitSort.TheVariants as sorts
use Rattle.st_types.specs.Declarations.{Declaration, VariableBlock}
use Rattle.st_types.specs.Units.{OrganisationUnit}
use Rattle.st_parse.specs.Tokens.{is_keyword, is_name, mark, keyword, name}
use Rattle.st_parse.specs.Parsers.{Parser, ◌>>=◌, ◌>>◌, pure, one, if_next, listed}
use Rattle.st_parse.specs.StatementReading.{stmts_at}
use Rattle.st_parse.specs.Reading.{optional, many}
use Rattle.st_parse.specs.TypeReading.{type_at, given_or_not}
use Rattle.st_parse.specs.Units.{retention}
use Rattle.st_parse.specs.Types.{simple}

abbrev pub is_retention : TokenKind → Bool
is_retention k = is_keyword w.Retain k || is_keyword w.NonRetain k

unfoldable pub names_at : Parser (List Identifier)
names_at = listed (one name)

unfoldable pub declaration_at : ℕ → Parser Declaration
declaration_at depth = do
  names ← names_at
  one (mark m.Colon)
  t ← type_at
  v ← given_or_not depth
  one (mark m.Semicolon)
  pure (record { names = names; declared = t; initial = v })

unfoldable pub external_at : Parser Declaration
external_at = do
  names ← names_at
  one (mark m.Colon)
  t ← type_at
  one (mark m.Semicolon)
  pure (record { names = names; declared = t; initial = None })

unfoldable pub retention_or_not : Parser (Option Retention)
retention_or_not = optional is_retention (one retention)

-- words after the first of a block
unfoldable pub constant_of : Section → Parser Section
constant_of s = do
  one (keyword w.Constant)
  pure s

unfoldable pub function_own_at : Parser Section
function_own_at = do
  one (keyword w.Var)
  if_next (is_keyword w.Constant) (constant_of sections.Constant) (pure (sections.Local None))

unfoldable pub function_input_at : Parser Section
function_input_at = do
  one (keyword w.VarInput)
  pure (sections.Input None)

unfoldable pub function_section_at : Parser Section
function_section_at = if_next (is_keyword w.VarInput) function_input_at function_own_at

unfoldable pub local_at : Parser Section
local_at = do
  o ← retention_or_not
  pure (sections.Local o)

unfoldable pub own_section_at : Parser Section
own_section_at = do
  one (keyword w.Var)
  if_next (is_keyword w.Constant) (constant_of sections.Constant) local_at

unfoldable pub input_section_at : Parser Section
input_section_at = do
  one (keyword w.VarInput)
  o ← retention_or_not
  pure (sections.Input o)

unfoldable pub output_section_at : Parser Section
output_section_at = do
  one (keyword w.VarOutput)
  o ← retention_or_not
  pure (sections.Output o)

unfoldable pub block_section_at : Parser Section
block_section_at =
    if_next (is_keyword w.VarInput) input_section_at (if_next (is_keyword w.VarOutput) output_section_at own_section_at)

unfoldable pub external_section_at : Parser Section
external_section_at = do
  one (keyword w.VarExternal)
  if_next (is_keyword w.Constant) (constant_of sections.ConstantExternal) (pure sections.External)

-- a block that begins with this section, up to END_VAR
unfoldable pub block_at : Parser Section → Parser Declaration → Parser VariableBlock
block_at section item = do
  s ← section
  ds ← many is_name item
  one (keyword w.EndVar)
  pure (record { section = s; declarations = ds })

unfoldable pub function_block_at : ℕ → Parser VariableBlock
function_block_at depth = block_at function_section_at (declaration_at depth)

unfoldable pub external_block_at : Parser VariableBlock
external_block_at = block_at external_section_at external_at

unfoldable pub program_block_at : ℕ → Parser VariableBlock
program_block_at depth =
    if_next (is_keyword w.VarExternal) external_block_at (block_at own_section_at (declaration_at depth))

unfoldable pub variable_block_at : ℕ → Parser VariableBlock
variable_block_at depth =
    if_next (is_keyword w.VarExternal) external_block_at (block_at block_section_at (declaration_at depth))

abbrev pub starts_function_section : TokenKind → Bool
starts_function_section k = is_keyword w.VarInput k || is_keyword w.Var k

abbrev pub starts_program_section : TokenKind → Bool
starts_program_section k = is_keyword w.Var k || is_keyword w.VarExternal k

abbrev pub starts_block_section : TokenKind → Bool
starts_block_section k = is_keyword w.VarInput k || (is_keyword w.VarOutput k || starts_program_section k)

unfoldable pub function_at : ℕ → Parser OrganisationUnit
function_at depth = do
  one (keyword w.Function)
  x ← one name
  one (mark m.Colon)
  result ← one simple
  blocks ← many starts_function_section (function_block_at depth)
  body ← stmts_at depth
  one (keyword w.EndFunction)
  pure (record { sort = sorts.Function result; name = x; blocks = blocks; body = body })

unfoldable pub function_block_unit_at : ℕ → Parser OrganisationUnit
function_block_unit_at depth = do
  one (keyword w.FunctionBlock)
  x ← one name
  blocks ← many starts_block_section (variable_block_at depth)
  body ← stmts_at depth
  one (keyword w.EndFunctionBlock)
  pure (record { sort = sorts.FunctionBlock; name = x; blocks = blocks; body = body })

unfoldable pub program_at : ℕ → Parser OrganisationUnit
program_at depth = do
  one (keyword w.Program)
  x ← one name
  blocks ← many starts_program_section (program_block_at depth)
  body ← stmts_at depth
  one (keyword w.EndProgram)
  pure (record { sort = sorts.Program; name = x; blocks = blocks; body = body })
