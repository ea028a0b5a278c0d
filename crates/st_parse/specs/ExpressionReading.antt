-- Reading expressions.
use Rattle.std.specs.Prelude.{ℕ, zero, suc, ◌+◌, Bool, true, false, ◌&&◌, ◌||◌, List, [], nat_lt, nat_le, if◌then◌else◌}
use Rattle.st_types.specs.declared.identifier.Identifier.{Identifier}
use Rattle.st_types.specs.declared.literal.Literal.TheVariants as literals
use Rattle.st_types.specs.declared.operator.UnaryOperator.TheVariants.{Negate, Not}
use Rattle.st_lex.specs.declared.token.TokenKind.{TokenKind}
use Rattle.st_lex.specs.declared.token.TokenKind.TheVariants.{Name, Mark, Number, Truth, Duration, Enumerated}
use Rattle.st_lex.specs.declared.mark.Mark.TheVariants as m
use Rattle.st_lex.specs.declared.keyword.Keyword.TheVariants as w
use Rattle.st_types.specs.Expressions.{Expr, Variable, Selector, exprs_of, selectors_of}
use Rattle.st_types.specs.Expressions as e
use Rattle.st_types.specs.Depths.{depth_of}
use Rattle.st_parse.specs.Tokens.{is_mark, is_keyword, is_name, is_number, mark, keyword, name, whole, literal}
use Rattle.st_parse.specs.Tokens.{negative_at}
use Rattle.st_parse.specs.Operators.{operator, binds_of, sign_level, operand_level, goes_on}
use Rattle.st_parse.specs.Parsers.{Parser, ◌>>=◌, ◌>>◌, pure, refuse, one, by_kind, if_next, guard, too_deep}
use Rattle.st_parse.specs.Parsers.{turns, several, listed}

abbrev pub starts_selector : TokenKind → Bool
starts_selector k = is_mark m.Dot k || is_mark m.OpenBracket k

abbrev pub starts_literal : TokenKind → Bool
starts_literal (Number n) = true
starts_literal (Truth b) = true
starts_literal (Duration d) = true
starts_literal (Enumerated t x) = true
starts_literal k = false

abbrev pub starts_operand : TokenKind → Bool
starts_operand k = starts_literal k || is_name k || is_mark m.Open k

abbrev pub starts_expr : ℕ → TokenKind → Bool
starts_expr least k = starts_operand k || (nat_le least sign_level && (is_mark m.Minus k || is_keyword w.Not k))

unfoldable pub member_at : Parser Selector
member_at = do
  one (mark m.Dot)
  x ← one name
  pure (e.member x)

unfoldable pub literal_at : Parser Expr
literal_at = do
  l ← one literal
  pure (e.literal l)

unfoldable pub negative_of : ℕ → Parser Expr
negative_of at = do
  n ← one whole
  pure (e.literal (literals.Number (negative_at at n)))

-- tokens that may follow an expression and make it a longer one
abbrev pub continues : TokenKind → Bool
continues k = goes_on 1 k || (is_mark m.Open k || starts_selector k)

-- expr least: an expression one level down, of operators that bind at least as strongly as this
module _ (expr : ℕ → Parser Expr) where
  unfoldable pub parenthesis_at : Parser Expr
  parenthesis_at = do
    at ← one (mark m.Open)
    inner ← expr 1
    one (mark m.Close)
    pure (e.parenthesis at inner)

  unfoldable pub subscript_at : Parser Selector
  subscript_at = do
    one (mark m.OpenBracket)
    x ← expr 1
    one (mark m.CloseBracket)
    pure (e.subscript x)

  unfoldable pub selector_at : Parser Selector
  selector_at = if_next (is_mark m.Dot) member_at subscript_at

  unfoldable pub selectors_at : Parser (List Selector)
  selectors_at = several starts_selector selector_at []

  unfoldable pub variable_of : Identifier → Parser Variable
  variable_of x = do
    xs ← selectors_at
    pure (e.variable x (selectors_of xs))

  unfoldable pub read_of : Identifier → Parser Expr
  read_of x = do
    v ← variable_of x
    pure (e.read v)

  unfoldable pub arguments_at : Parser (List Expr)
  arguments_at = if_next (is_mark m.Close) (pure []) (listed (expr 1))

  unfoldable pub call_of : Identifier → Parser Expr
  call_of f = do
    one (mark m.Open)
    es ← arguments_at
    one (mark m.Close)
    pure (e.call f (exprs_of es))

  unfoldable pub named_at : Parser Expr
  named_at = do
    x ← one name
    if_next (is_mark m.Open) (call_of x) (read_of x)

  abbrev pub operand_by : TokenKind → Parser Expr
  operand_by (Number n) = literal_at
  operand_by (Truth b) = literal_at
  operand_by (Duration d) = literal_at
  operand_by (Enumerated t x) = literal_at
  operand_by (Name x) = named_at
  operand_by (Mark m.Open) = parenthesis_at
  operand_by k = refuse

  -- an expression without an operator outside parentheses
  unfoldable pub operand_at : Parser Expr
  operand_at = by_kind operand_by

  unfoldable pub negated_of : ℕ → Parser Expr
  negated_of at = do
    x ← expr operand_level
    pure (e.unary Negate at x)

  unfoldable pub minus_at : Parser Expr
  minus_at = do
    at ← one (mark m.Minus)
    if_next is_number (negative_of at) (negated_of at)

  unfoldable pub not_at : Parser Expr
  not_at = do
    at ← one (keyword w.Not)
    x ← expr operand_level
    pure (e.unary Not at x)

  unfoldable pub unary_at : Parser Expr
  unary_at = if_next (is_mark m.Minus) minus_at (if_next (is_keyword w.Not) not_at operand_at)

  -- an operator and the operand after it
  unfoldable pub operation_of : Expr → Parser Expr
  operation_of left = do
    op ← one operator
    right ← expr (binds_of op + 1)
    pure (e.binary op left right)

  module _ (below : ℕ) where
    abbrev pub operation_within : Expr → Parser Expr
    operation_within left = guard (nat_lt below (depth_of left)) (operation_of left)

    abbrev pub operations_of : ℕ → Expr → Parser Expr
    operations_of least left = turns (goes_on least) operation_within left

    unfoldable pub operators_at : ℕ → Parser Expr
    operators_at least = do
      first ← unary_at
      operations_of least first

-- an expression of at most a depth, of operators that bind at least as strongly as this
unfoldable pub expr_at : ℕ → ℕ → Parser Expr
expr_at zero least = too_deep (starts_expr least)
expr_at (suc below) least =
    λ ts. if nat_lt sign_level least then operand_at (expr_at below) ts else operators_at (expr_at below) below least ts

-- a variable of at most a depth
unfoldable pub variable_at : ℕ → Parser Variable
variable_at zero = too_deep is_name
variable_at (suc below) = do
  x ← one name
  variable_of (expr_at below) x
