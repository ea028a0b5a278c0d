-- Reading statements.
use Rattle.std.specs.Prelude.{ℕ, zero, suc, ◌-◌, Bool, true, false, ◌||◌, List, [], ◌∷◌, ◌++◌, Option, Some, None}
use Rattle.st_types.specs.declared.identifier.Identifier.{Identifier}
use Rattle.st_types.specs.declared.literal.Number.{Number as NumberLeaf}
use Rattle.st_lex.specs.declared.token.TokenKind.{TokenKind}
use Rattle.st_lex.specs.declared.token.TokenKind.TheVariants.{Name, Mark, Keyword}
use Rattle.st_lex.specs.declared.mark.Mark.TheVariants as m
use Rattle.st_lex.specs.declared.keyword.Keyword.TheVariants as w
use Rattle.st_types.specs.declared.statement.Label.{Label}
use Rattle.st_types.specs.declared.statement.Label.TheVariants as labels
use Rattle.st_types.specs.Expressions.{Expr}
use Rattle.st_types.specs.Statements.{Argument, Stmt, Arm, CaseArm, stmts_of, arms_of, case_arms_of}
use Rattle.st_types.specs.Statements as s
use Rattle.st_parse.specs.Tokens.{is_mark, is_keyword, is_name, is_number, is_value, mark, keyword, name, value}
use Rattle.st_parse.specs.Tokens.{value_at}
use Rattle.st_parse.specs.Parsers.{Parser, ◌>>=◌, ◌>>◌, pure, refuse, one, by_kind, if_next, too_deep, turns}
use Rattle.st_parse.specs.Parsers.{several, after_comma, listed, between, number_at}
use Rattle.st_parse.specs.ExpressionReading.{expr_at, variable_at, variable_of, starts_selector}

abbrev pub starts_number : TokenKind → Bool
starts_number k = is_number k || is_mark m.Minus k

abbrev pub starts_label : TokenKind → Bool
starts_label k = starts_number k || is_value k

-- tokens that may follow the first name of a statement
abbrev pub goes_on_named : TokenKind → Bool
goes_on_named k = is_mark m.Open k || (is_mark m.Assign k || starts_selector k)

-- tokens that may follow a label
abbrev pub ends_label : TokenKind → Bool
ends_label k = is_mark m.Comma k || is_mark m.Colon k

abbrev pub starts_stmt : TokenKind → Bool
starts_stmt (Name x) = true
starts_stmt (Mark m.Semicolon) = true
starts_stmt (Keyword w.If) = true
starts_stmt (Keyword w.Case) = true
starts_stmt (Keyword w.For) = true
starts_stmt (Keyword w.While) = true
starts_stmt (Keyword w.Repeat) = true
starts_stmt (Keyword w.Exit) = true
starts_stmt (Keyword w.Return) = true
starts_stmt k = false

-- tokens that begin a part of an arm of a CASE, or the next arm
abbrev pub starts_part : TokenKind → Bool
starts_part k = starts_label k || starts_stmt k

unfoldable pub range_of : NumberLeaf → Parser Label
range_of least = do
  one (mark m.Range)
  greatest ← number_at
  pure (labels.Range least greatest)

unfoldable pub number_label_at : Parser Label
number_label_at = do
  n ← number_at
  if_next (is_mark m.Range) (range_of n) (pure (labels.Single n))

unfoldable pub named_label_at : Parser Label
named_label_at = do
  v ← one value
  pure (labels.Enumerated v)

unfoldable pub label_at : Parser Label
label_at = if_next is_value named_label_at number_label_at

-- a name as a label
abbrev pub label_of : Identifier → Label
label_of x = labels.Enumerated (value_at x.place None x.name)

-- the labels of an arm with their colon, after the first
unfoldable pub head_of : Label → Parser (List Label)
head_of first = do
  ls ← several (is_mark m.Comma) (after_comma label_at) (first ∷ [])
  one (mark m.Colon)
  pure ls

unfoldable pub head_at : Parser (List Label)
head_at = do
  first ← label_at
  head_of first

-- The arms of a CASE as they are read: those before the last, and the statements of the last.
pub record Arms : Type 0 where
  pub before : List CaseArm
  pub labels : List Label
  pub body : List Stmt

abbrev pub first_arm : List Label → Arms
first_arm ls = record { before = []; labels = ls; body = [] }

abbrev pub all_arms : Arms → List CaseArm
all_arms a = a.before ++ (a.labels, stmts_of a.body) ∷ []

abbrev pub with_arm : Arms → List Label → Arms
with_arm a ls = record { before = all_arms a; labels = ls; body = [] }

abbrev pub with_stmt : Arms → Stmt → Arms
with_stmt a x = record { before = a.before; labels = a.labels; body = a.body ++ x ∷ [] }

-- one more arm, after its first label
unfoldable pub next_arm_of : Arms → Label → Parser Arms
next_arm_of a first = do
  ls ← head_of first
  pure (with_arm a ls)

unfoldable pub label_part : Arms → Parser Arms
label_part a = do
  first ← label_at
  next_arm_of a first

-- a statement with its semicolon
abbrev pub closed : Stmt → Parser Stmt
closed x = do
  one (mark m.Semicolon)
  pure x

unfoldable pub lines : Parser Stmt → Parser (List Stmt)
lines line = several starts_stmt line []

unfoldable pub exit_at : Parser Stmt
exit_at = do
  at ← one (keyword w.Exit)
  pure (s.EXIT at)

unfoldable pub return_at : Parser Stmt
return_at = do
  one (keyword w.Return)
  pure s.RETURN

-- expressions one level down
module _ (below : ℕ) where
  unfoldable pub assign_of : Identifier → Parser Stmt
  assign_of x = do
    v ← variable_of (expr_at (below - 1)) x
    one (mark m.Assign)
    value ← expr_at below 1
    pure (s.assign v value)

  unfoldable pub given_of : Identifier → Parser Argument
  given_of x = do
    one (mark m.Assign)
    v ← expr_at below 1
    pure (s.given x v)

  unfoldable pub copied_of : Identifier → Parser Argument
  copied_of x = do
    one (mark m.Arrow)
    v ← variable_at below
    pure (s.copied x v)

  unfoldable pub argument_at : Parser Argument
  argument_at = do
    x ← one name
    if_next (is_mark m.Assign) (given_of x) (copied_of x)

  unfoldable pub arguments_at : Parser (List Argument)
  arguments_at = if_next (is_mark m.Close) (pure []) (listed argument_at)

  unfoldable pub invoke_of : Identifier → Parser Stmt
  invoke_of f = do
    one (mark m.Open)
    xs ← arguments_at
    one (mark m.Close)
    pure (s.invoke f xs)

  -- a statement after its first name
  unfoldable pub named_of : Identifier → Parser Stmt
  named_of x = if_next (is_mark m.Open) (invoke_of x) (assign_of x)

  unfoldable pub named_at : Parser Stmt
  named_at = do
    x ← one name
    named_of x

  unfoldable pub by_at : Parser (Option Expr)
  by_at = do
    one (keyword w.By)
    x ← expr_at below 1
    pure (Some x)

  unfoldable pub step_at : Parser (Option Expr)
  step_at = if_next (is_keyword w.By) by_at (pure None)

  -- the start and the limit of a FOR, and its step
  unfoldable pub bounds_at : Parser (Expr × Expr × Option Expr)
  bounds_at = do
    start ← expr_at below 1
    one (keyword w.To)
    limit ← expr_at below 1
    step ← step_at
    pure (start, limit, step)

-- a statement of at most a depth with its semicolon, after its first name
unfoldable pub named_line_of : ℕ → Identifier → Parser Stmt
named_line_of zero x = too_deep goes_on_named
named_line_of (suc below) x = do
  y ← named_of below x
  closed y

module _ (below : ℕ) where
  unfoldable pub named_line_part : Arms → Identifier → Parser Arms
  named_line_part a x = do
    y ← named_line_of below x
    pure (with_stmt a y)

  -- the part that a name begins: another arm, or a statement of the last
  unfoldable pub named_part : Arms → Parser Arms
  named_part a = do
    x ← one name
    if_next ends_label (next_arm_of a (label_of x)) (named_line_part a x)

  -- statements one level down, each with its semicolon
  module _ (line : Parser Stmt) where
    unfoldable pub arm_at : Parser Arm
    arm_at = do
      condition ← expr_at below 1
      one (keyword w.Then)
      body ← lines line
      pure (condition, stmts_of body)

    unfoldable pub elsif_at : Parser Arm
    elsif_at = one (keyword w.Elsif) >> arm_at

    unfoldable pub otherwise_at : Parser (List Stmt)
    otherwise_at = one (keyword w.Else) >> lines line

    unfoldable pub else_at : Parser (List Stmt)
    else_at = if_next (is_keyword w.Else) otherwise_at (pure [])

    unfoldable pub if_at : Parser Stmt
    if_at = do
      one (keyword w.If)
      arm ← arm_at
      arms ← several (is_keyword w.Elsif) elsif_at (arm ∷ [])
      other ← else_at
      one (keyword w.EndIf)
      pure (s.IF (arms_of arms) (stmts_of other))

    unfoldable pub line_part : Arms → Parser Arms
    line_part a = do
      x ← line
      pure (with_stmt a x)

    unfoldable pub part_at : Arms → Parser Arms
    part_at a = if_next is_name (named_part a) (if_next starts_label (label_part a) (line_part a))

    unfoldable pub some_arms_at : Parser (List CaseArm)
    some_arms_at = do
      ls ← head_at
      a ← turns starts_part part_at (first_arm ls)
      pure (all_arms a)

    unfoldable pub case_arms_at : Parser (List CaseArm)
    case_arms_at = if_next starts_label some_arms_at (pure [])

    -- the arms of a CASE, and the statements after ELSE
    unfoldable pub choices_at : Parser (List CaseArm × List Stmt)
    choices_at = do
      one (keyword w.Of)
      arms ← case_arms_at
      other ← else_at
      one (keyword w.EndCase)
      pure (arms, other)

    unfoldable pub case_at : Parser Stmt
    case_at = do
      one (keyword w.Case)
      selector ← expr_at below 1
      choices ← choices_at
      pure (s.CASE selector (case_arms_of choices.0) (stmts_of choices.1))

    unfoldable pub for_at : Parser Stmt
    for_at = do
      one (keyword w.For)
      control ← one name
      one (mark m.Assign)
      bounds ← bounds_at below
      body ← between w.Do w.EndFor (lines line)
      pure (s.FOR control bounds.0 bounds.1 bounds.2 (stmts_of body))

    unfoldable pub while_at : Parser Stmt
    while_at = do
      one (keyword w.While)
      condition ← expr_at below 1
      body ← between w.Do w.EndWhile (lines line)
      pure (s.WHILE condition (stmts_of body))

    unfoldable pub repeat_at : Parser Stmt
    repeat_at = do
      one (keyword w.Repeat)
      body ← lines line
      one (keyword w.Until)
      condition ← expr_at below 1
      one (keyword w.EndRepeat)
      pure (s.REPEAT (stmts_of body) condition)

    abbrev pub stmt_by : TokenKind → Parser Stmt
    stmt_by (Name x) = named_at below
    stmt_by (Mark m.Semicolon) = pure s.empty
    stmt_by (Keyword w.If) = if_at
    stmt_by (Keyword w.Case) = case_at
    stmt_by (Keyword w.For) = for_at
    stmt_by (Keyword w.While) = while_at
    stmt_by (Keyword w.Repeat) = repeat_at
    stmt_by (Keyword w.Exit) = exit_at
    stmt_by (Keyword w.Return) = return_at
    stmt_by k = refuse

    unfoldable pub stmt_at : Parser Stmt
    stmt_at = by_kind stmt_by

-- a statement of at most a depth, with its semicolon
unfoldable pub line_at : ℕ → Parser Stmt
line_at zero = too_deep starts_stmt
line_at (suc below) = do
  x ← stmt_at below (line_at below)
  closed x

-- statements of at most a depth
abbrev pub stmts_at : ℕ → Parser (List Stmt)
stmts_at depth = lines (line_at depth)
