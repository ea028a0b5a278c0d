-- Operators between operands. The levels are those of the standard's Annex B without `**`.
use Rattle.std.specs.Prelude.{ℕ, Bool, false, Option, Some, None, nat_le}
use Rattle.st_types.specs.declared.operator.BinaryOperator.{BinaryOperator}
use Rattle.st_types.specs.declared.operator.BinaryOperator.TheVariants.{Or, Xor, And, Equal, NotEqual, Less, Greater}
use Rattle.st_types.specs.declared.operator.BinaryOperator.TheVariants.{LessOrEqual, GreaterOrEqual, Add, Subtract}
use Rattle.st_types.specs.declared.operator.BinaryOperator.TheVariants.{Multiply, Divide, Modulo}
use Rattle.st_lex.specs.declared.token.Token.{Token}
use Rattle.st_lex.specs.declared.token.TokenKind.{TokenKind}
use Rattle.st_lex.specs.declared.token.TokenKind.TheVariants.{Keyword, Mark}
use Rattle.st_lex.specs.declared.mark.Mark.TheVariants as m
use Rattle.st_lex.specs.declared.keyword.Keyword.TheVariants as w

abbrev pub operator_in : TokenKind → Option BinaryOperator
operator_in (Keyword w.Or) = Some Or
operator_in (Keyword w.Xor) = Some Xor
operator_in (Keyword w.And) = Some And
operator_in (Keyword w.Mod) = Some Modulo
operator_in (Mark m.Equal) = Some Equal
operator_in (Mark m.NotEqual) = Some NotEqual
operator_in (Mark m.Less) = Some Less
operator_in (Mark m.Greater) = Some Greater
operator_in (Mark m.LessOrEqual) = Some LessOrEqual
operator_in (Mark m.GreaterOrEqual) = Some GreaterOrEqual
operator_in (Mark m.Plus) = Some Add
operator_in (Mark m.Minus) = Some Subtract
operator_in (Mark m.Star) = Some Multiply
operator_in (Mark m.Slash) = Some Divide
operator_in k = None

abbrev pub operator : Token → Option BinaryOperator
operator t = operator_in t.kind

-- how strongly an operator binds
abbrev pub binds_of : BinaryOperator → ℕ
binds_of Or = 1
binds_of Xor = 2
binds_of And = 3
binds_of Equal = 4
binds_of NotEqual = 4
binds_of Less = 5
binds_of Greater = 5
binds_of LessOrEqual = 5
binds_of GreaterOrEqual = 5
binds_of Add = 6
binds_of Subtract = 6
binds_of Multiply = 7
binds_of Divide = 7
binds_of Modulo = 7

-- how strongly a sign or NOT binds, and an expression without an operator outside parentheses
abbrev pub sign_level : ℕ
sign_level = 8

abbrev pub operand_level : ℕ
operand_level = 9

abbrev pub is_within : ℕ → Option BinaryOperator → Bool
is_within least None = false
is_within least (Some op) = nat_le least (binds_of op)

-- an operator that binds at least as strongly as this
abbrev pub goes_on : ℕ → TokenKind → Bool
goes_on least k = is_within least (operator_in k)
