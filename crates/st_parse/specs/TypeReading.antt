-- Reading types.
use Rattle.std.specs.Prelude.{ℕ, List, Option}
use Rattle.st_lex.specs.declared.mark.Mark.TheVariants as m
use Rattle.st_lex.specs.declared.keyword.Keyword.TheVariants as w
use Rattle.st_types.specs.declared.data_type.ArrayType.{ArrayType}
use Rattle.st_types.specs.declared.data_type.VariableType.{VariableType}
use Rattle.st_types.specs.declared.data_type.VariableType.TheVariants as types
use Rattle.st_types.specs.Initials.{Initial}
use Rattle.st_types.specs.Declarations.{Field, TypeDefinition, TypeDeclaration}
use Rattle.st_types.specs.Declarations as d
use Rattle.st_parse.specs.Tokens.{is_mark, is_keyword, is_name, mark, keyword, name}
use Rattle.st_parse.specs.Parsers.{Parser, ◌>>=◌, ◌>>◌, pure, one, if_next, listed, number_at}
use Rattle.st_parse.specs.InitialReading.{initial_at}
use Rattle.st_parse.specs.Types.{simple}
use Rattle.st_parse.specs.Reading.{optional, at_least_one}

unfoldable pub array_at : Parser ArrayType
array_at = do
  at ← one (keyword w.Array)
  one (mark m.OpenBracket)
  lower ← number_at
  one (mark m.Range)
  upper ← number_at
  one (mark m.CloseBracket)
  one (keyword w.Of)
  element ← one simple
  pure (record { place = at; lower = lower; upper = upper; element = element })

unfoldable pub array_type_at : Parser VariableType
array_type_at = do
  a ← array_at
  pure (types.Array a)

unfoldable pub simple_type_at : Parser VariableType
simple_type_at = do
  x ← one simple
  pure (types.Simple x)

unfoldable pub type_at : Parser VariableType
type_at = if_next (is_keyword w.Array) array_type_at simple_type_at

unfoldable pub given_at : ℕ → Parser Initial
given_at depth = do
  one (mark m.Assign)
  initial_at depth

unfoldable pub given_or_not : ℕ → Parser (Option Initial)
given_or_not depth = optional (is_mark m.Assign) (given_at depth)

unfoldable pub field_at : ℕ → Parser Field
field_at depth = do
  x ← one name
  one (mark m.Colon)
  t ← type_at
  v ← given_or_not depth
  one (mark m.Semicolon)
  pure (record { name = x; declared = t; initial = v })

unfoldable pub fields_at : ℕ → Parser (List Field)
fields_at depth = at_least_one is_name (field_at depth)

unfoldable pub structure_at : ℕ → Parser TypeDefinition
structure_at depth = do
  one (keyword w.Struct)
  fields ← fields_at depth
  one (keyword w.EndStruct)
  pure (d.structure fields)

unfoldable pub array_definition_at : Parser TypeDefinition
array_definition_at = do
  a ← array_at
  pure (d.array a)

unfoldable pub enumeration_at : Parser TypeDefinition
enumeration_at = do
  one (mark m.Open)
  names ← listed (one name)
  one (mark m.Close)
  pure (d.enumeration names)

unfoldable pub definition_at : ℕ → Parser TypeDefinition
definition_at depth = if_next (is_keyword w.Array) array_definition_at
    (if_next (is_mark m.Open) enumeration_at (structure_at depth))

unfoldable pub type_declaration_at : ℕ → Parser TypeDeclaration
type_declaration_at depth = do
  x ← one name
  one (mark m.Colon)
  definition ← definition_at depth
  one (mark m.Semicolon)
  pure (record { name = x; definition = definition })

unfoldable pub type_declarations_at : ℕ → Parser (List TypeDeclaration)
type_declarations_at depth = at_least_one is_name (type_declaration_at depth)

unfoldable pub types_at : ℕ → Parser (List TypeDeclaration)
types_at depth = do
  one (keyword w.Type)
  xs ← type_declarations_at depth
  one (keyword w.EndType)
  pure xs
