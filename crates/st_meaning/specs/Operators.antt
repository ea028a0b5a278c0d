-- The results of operators. Each takes operands of one type; its result is tested once against the range of its type.
use Rattle.std.specs.Prelude.{ℕ, ℤ, pos, negsuc, ◌+ℤ◌, ◌-ℤ◌, ◌*ℤ◌, neg_ℤ, int_div, int_lt, int_le, bit_and, bit_or, bit_xor, Bool}
use Rattle.std.specs.Prelude.{not, if◌then◌else◌, Option, Some, None, Result, Ok, Err}
use Rattle.std.specs.Ordering.{int_eq}
use Rattle.st_types.specs.declared.fault.Fault.{Fault}
use Rattle.st_types.specs.declared.fault.Fault.TheVariants.{DivisionByZero}
use Rattle.st_types.specs.declared.kind.Kind.{Kind}
use Rattle.st_types.specs.declared.kind.Kind.TheVariants.{Time, Bool as Boolean}
use Rattle.st_types.specs.declared.literal.Literal.{Literal}
use Rattle.st_types.specs.declared.literal.Literal.TheVariants as literals
use Rattle.st_types.specs.declared.literal.Number.{Number}
use Rattle.st_types.specs.declared.operator.UnaryOperator.{UnaryOperator}
use Rattle.st_types.specs.declared.operator.UnaryOperator.TheVariants.{Negate, Not}
use Rattle.st_types.specs.declared.operator.BinaryOperator.{BinaryOperator}
use Rattle.st_types.specs.declared.operator.BinaryOperator.TheVariants.{Or, Xor, And, Equal, NotEqual, Less, Greater}
use Rattle.st_types.specs.declared.operator.BinaryOperator.TheVariants.{LessOrEqual, GreaterOrEqual, Add, Subtract}
use Rattle.st_types.specs.declared.operator.BinaryOperator.TheVariants.{Multiply, Divide, Modulo}
use Rattle.st_types.specs.Kinds.{greatest, same_kind}
use Rattle.st_types.specs.Values.{Datum, in_range, bool_datum, is_true}
use Rattle.st_meaning.specs.Failures.{Failure, valueless, ill_typed, failing}

-- the number without a sign; 0 for one below 0
abbrev pub natural : ℤ → ℕ
natural (pos n) = n
natural (negsuc n) = 0

-- the number that a literal's digits and sign spell
abbrev pub number_of : Number → ℤ
number_of n = if n.is_negative then neg_ℤ (pos n.magnitude) else pos n.magnitude

abbrev pub or_kind : Option Kind → Option Kind → Option Kind
or_kind (Some k) l = Some k
or_kind None l = l

-- the type that is written, or else the one that its place in the text gives
abbrev pub kind_of_number : Number → Option Kind
kind_of_number n = or_kind n.written n.taken

abbrev pub value_of_kind : Option Kind → ℤ → Result Datum Failure
value_of_kind (Some k) z = failing (in_range k z)
value_of_kind None z = Err ill_typed

abbrev pub value_of_number : Number → Result Datum Failure
value_of_number n = value_of_kind (kind_of_number n) (number_of n)

abbrev pub value_of_literal : Literal → Result Datum Failure
value_of_literal (literals.Number n) = value_of_number n
value_of_literal (literals.Truth at b) = Ok (bool_datum b)
value_of_literal (literals.Duration at n) = failing (in_range Time (pos n))
-- a name that stands for no value
value_of_literal (literals.Enumerated v) = Err valueless

-- a quotient is truncated toward zero
abbrev pub quotient : Kind → ℤ → ℤ → Result Datum Fault
quotient k x y = if int_eq y (pos 0) then Err DivisionByZero else in_range k (int_div x y)

-- the remainder of the truncated quotient, and 0 if the divisor is 0
abbrev pub remainder : ℤ → ℤ → ℤ
remainder x y = if int_eq y (pos 0) then pos 0 else x -ℤ (int_div x y *ℤ y)

abbrev pub applied : BinaryOperator → Kind → ℤ → ℤ → Result Datum Fault
applied Or k x y = in_range k (pos (bit_or (natural x) (natural y)))
applied Xor k x y = in_range k (pos (bit_xor (natural x) (natural y)))
applied And k x y = in_range k (pos (bit_and (natural x) (natural y)))
applied Equal k x y = Ok (bool_datum (int_eq x y))
applied NotEqual k x y = Ok (bool_datum (not (int_eq x y)))
applied Less k x y = Ok (bool_datum (int_lt x y))
applied Greater k x y = Ok (bool_datum (int_lt y x))
applied LessOrEqual k x y = Ok (bool_datum (int_le x y))
applied GreaterOrEqual k x y = Ok (bool_datum (int_le y x))
applied Add k x y = in_range k (x +ℤ y)
applied Subtract k x y = in_range k (x -ℤ y)
applied Multiply k x y = in_range k (x *ℤ y)
applied Divide k x y = quotient k x y
applied Modulo k x y = in_range k (remainder x y)

-- no well-typed text has operands of two types
abbrev pub apply : BinaryOperator → Datum → Datum → Result Datum Failure
apply op x y = if same_kind x.kind y.kind then failing (applied op x.kind x.number y.number) else Err ill_typed

-- NOT flips each bit
abbrev pub apply_unary : UnaryOperator → Datum → Result Datum Fault
apply_unary Negate x = in_range x.kind (neg_ℤ x.number)
apply_unary Not x = in_range x.kind (greatest x.kind -ℤ x.number)

-- the truth of a condition
abbrev pub condition_of : Datum → Result Bool Failure
condition_of x = if same_kind x.kind Boolean then Ok (is_true x) else Err ill_typed
