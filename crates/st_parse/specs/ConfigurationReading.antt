-- Reading configurations.
use Rattle.std.specs.Prelude.{ℕ, Bool, ◌||◌, List, [], ◌∷◌, Option}
use Rattle.st_types.specs.declared.identifier.Identifier.{Identifier}
use Rattle.st_lex.specs.declared.token.TokenKind.{TokenKind}
use Rattle.st_lex.specs.declared.mark.Mark.TheVariants as m
use Rattle.st_lex.specs.declared.keyword.Keyword.TheVariants as w
use Rattle.st_types.specs.declared.configuration.Priority.{Priority}
use Rattle.st_types.specs.declared.configuration.Task.{Task}
use Rattle.st_types.specs.declared.configuration.Instance.{Instance}
use Rattle.st_types.specs.Configurations.{GlobalNames, located, listed, GlobalDeclaration, GlobalBlock, Resource}
use Rattle.st_types.specs.Configurations.{Configuration}
use Rattle.st_parse.specs.Tokens.{is_mark, is_keyword, is_name, mark, keyword, name}
use Rattle.st_parse.specs.Parsers.{Parser, ◌>>=◌, ◌>>◌, pure, one, if_next, several, after_comma}
use Rattle.st_parse.specs.Reading.{optional, many, at_least_one}
use Rattle.st_parse.specs.TypeReading.{type_at, given_or_not}
use Rattle.st_parse.specs.Configurations.{qualifier, address, duration, decimal}

unfoldable pub located_of : Identifier → Parser GlobalNames
located_of x = do
  one (keyword w.At)
  a ← one address
  pure (located x a)

unfoldable pub listed_of : Identifier → Parser GlobalNames
listed_of x = do
  xs ← several (is_mark m.Comma) (after_comma (one name)) (x ∷ [])
  pure (listed xs)

unfoldable pub global_names_at : Parser GlobalNames
global_names_at = do
  x ← one name
  if_next (is_keyword w.At) (located_of x) (listed_of x)

unfoldable pub global_at : ℕ → Parser GlobalDeclaration
global_at depth = do
  names ← global_names_at
  one (mark m.Colon)
  t ← type_at
  v ← given_or_not depth
  one (mark m.Semicolon)
  pure (record { names = names; declared = t; initial = v })

abbrev pub is_qualifier : TokenKind → Bool
is_qualifier k = is_keyword w.Constant k || is_keyword w.Retain k

unfoldable pub global_block_at : ℕ → Parser GlobalBlock
global_block_at depth = do
  one (keyword w.VarGlobal)
  q ← optional is_qualifier (one qualifier)
  ds ← many is_name (global_at depth)
  one (keyword w.EndVar)
  pure (record { qualifier = q; declarations = ds })

unfoldable pub single_at : Parser Identifier
single_at = do
  one (keyword w.Single)
  one (mark m.Assign)
  x ← one name
  one (mark m.Comma)
  pure x

unfoldable pub interval_at : Parser ℕ
interval_at = do
  one (keyword w.Interval)
  one (mark m.Assign)
  d ← one duration
  one (mark m.Comma)
  pure d

-- a priority, to the end of its task
unfoldable pub priority_at : Parser Priority
priority_at = do
  one (keyword w.Priority)
  one (mark m.Assign)
  p ← one decimal
  one (mark m.Close)
  one (mark m.Semicolon)
  pure p

-- when a task is due, and its priority
unfoldable pub terms_at : Parser (Option Identifier × Option ℕ × Priority)
terms_at = do
  s ← optional (is_keyword w.Single) single_at
  i ← optional (is_keyword w.Interval) interval_at
  p ← priority_at
  pure (s, i, p)

unfoldable pub task_at : Parser Task
task_at = do
  one (keyword w.Task)
  x ← one name
  one (mark m.Open)
  terms ← terms_at
  pure (record { name = x; single = terms.0; interval = terms.1; priority = terms.2 })

unfoldable pub with_at : Parser Identifier
with_at = do
  one (keyword w.With)
  x ← one name
  pure x

unfoldable pub program_at : Parser Identifier
program_at = do
  one (mark m.Colon)
  x ← one name
  one (mark m.Semicolon)
  pure x

unfoldable pub instance_at : Parser Instance
instance_at = do
  one (keyword w.Program)
  x ← one name
  task ← optional (is_keyword w.With) with_at
  program ← program_at
  pure (record { name = x; task = task; program = program })

-- the tasks and instances of a resource, to its end
unfoldable pub work_at : Parser (List Task × List Instance)
work_at = do
  tasks ← many (is_keyword w.Task) task_at
  instances ← at_least_one (is_keyword w.Program) instance_at
  one (keyword w.EndResource)
  pure (tasks, instances)

unfoldable pub resource_at : Parser Resource
resource_at = do
  one (keyword w.Resource)
  x ← one name
  one (keyword w.On)
  processor ← one name
  work ← work_at
  pure (record { name = x; processor = processor; tasks = work.0; instances = work.1 })

unfoldable pub configuration_at : ℕ → Parser Configuration
configuration_at depth = do
  one (keyword w.Configuration)
  x ← one name
  globals ← many (is_keyword w.VarGlobal) (global_block_at depth)
  resources ← at_least_one (is_keyword w.Resource) resource_at
  one (keyword w.EndConfiguration)
  pure (record { name = x; globals = globals; resources = resources })
