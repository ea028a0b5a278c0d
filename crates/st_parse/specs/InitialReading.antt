-- Reading initial values.
use Rattle.std.specs.Prelude.{ℕ, zero, suc, Bool, ◌||◌}
use Rattle.st_types.specs.declared.literal.Number.{Number}
use Rattle.st_types.specs.declared.literal.Literal.TheVariants as literals
use Rattle.st_lex.specs.declared.token.TokenKind.{TokenKind}
use Rattle.st_lex.specs.declared.mark.Mark.TheVariants as m
use Rattle.st_types.specs.Initials.{Initial, Element, Member, elements_of, members_of}
use Rattle.st_types.specs.Initials as i
use Rattle.st_parse.specs.Tokens.{is_mark, is_name, is_number, mark, name, whole, constant}
use Rattle.st_parse.specs.Parsers.{Parser, ◌>>=◌, ◌>>◌, pure, one, if_next, too_deep, listed, negative_number_at}
use Rattle.st_parse.specs.ExpressionReading.{starts_literal}

abbrev pub starts_constant : TokenKind → Bool
starts_constant k = starts_literal k || is_name k

abbrev pub starts_initial : TokenKind → Bool
starts_initial k = is_mark m.OpenBracket k || is_mark m.Open k || is_mark m.Minus k || starts_constant k

unfoldable pub negative_constant_at : Parser Initial
negative_constant_at = do
  n ← negative_number_at
  pure (i.constant (literals.Number n))

unfoldable pub literal_constant_at : Parser Initial
literal_constant_at = do
  l ← one constant
  pure (i.constant l)

unfoldable pub defaults_of : Number → Parser Element
defaults_of n = do
  one (mark m.Close)
  pure (i.defaults n)

-- one level down, or within the parentheses of a repetition
module _ (initial : Parser Initial) where
  unfoldable pub member_at : Parser Member
  member_at = do
    x ← one name
    one (mark m.Assign)
    v ← initial
    pure (x, v)

  unfoldable pub structure_at : Parser Initial
  structure_at = do
    at ← one (mark m.Open)
    xs ← listed member_at
    one (mark m.Close)
    pure (i.structure at (members_of xs))

  unfoldable pub single_at : Parser Element
  single_at = do
    v ← initial
    pure (i.single v)

  unfoldable pub repeated_of : Number → Parser Element
  repeated_of n = do
    v ← initial
    one (mark m.Close)
    pure (i.repeated n v)

  unfoldable pub repetition_of : Number → Parser Element
  repetition_of n = do
    one (mark m.Open)
    if_next (is_mark m.Close) (defaults_of n) (repeated_of n)

  unfoldable pub counted_at : Parser Element
  counted_at = do
    n ← one whole
    if_next (is_mark m.Open) (repetition_of n) (pure (i.single (i.constant (literals.Number n))))

  -- an element of at most a depth, over initial values of the same depth
  unfoldable pub element_at : ℕ → Parser Element
  element_at zero = too_deep starts_initial
  element_at (suc below) = if_next is_number counted_at single_at

unfoldable pub list_at : Parser Element → Parser Initial
list_at element = do
  at ← one (mark m.OpenBracket)
  xs ← listed element
  one (mark m.CloseBracket)
  pure (i.list at (elements_of xs))

-- an initial value of at most a depth
unfoldable pub initial_at : ℕ → Parser Initial
initial_at zero = too_deep starts_initial
initial_at (suc below) = if_next (is_mark m.OpenBracket) (list_at (element_at (initial_at below) below))
    (if_next (is_mark m.Open) (structure_at (initial_at below))
    (if_next (is_mark m.Minus) negative_constant_at literal_constant_at))
