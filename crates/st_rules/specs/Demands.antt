-- The demands of places on the types of expressions.
use Rattle.std.specs.Prelude.{ℕ, List, [], ◌∷◌, map, Bool, true, false, Option, Some, None}
use Rattle.st_types.specs.declared.kind.Kind.{Kind}
use Rattle.st_types.specs.declared.kind.Kind.TheVariants.{Bool as Boolean}
use Rattle.st_types.specs.declared.kind.Sort.{Sort}
use Rattle.st_types.specs.declared.kind.Sort.TheVariants.{Signed, Unsigned, Bits, Duration, Truth, Place}
use Rattle.st_types.specs.declared.operator.UnaryOperator.{UnaryOperator}
use Rattle.st_types.specs.declared.operator.UnaryOperator.TheVariants.{Negate, Not}
use Rattle.st_types.specs.declared.operator.BinaryOperator.{BinaryOperator}
use Rattle.st_types.specs.declared.operator.BinaryOperator.TheVariants.{Or, Xor, And, Equal, NotEqual, Less, Greater}
use Rattle.st_types.specs.declared.operator.BinaryOperator.TheVariants.{LessOrEqual, GreaterOrEqual, Add, Subtract}
use Rattle.st_types.specs.declared.operator.BinaryOperator.TheVariants.{Multiply, Divide, Modulo}
use Rattle.st_types.specs.Kinds.{same_kind}
use Rattle.st_meaning.specs.StandardFunctions.{Standard, ABS, MIN, MAX, LIMIT, SEL, SHL, SHR, ROL, ROR, CONVERT}
use Rattle.st_rules.specs.declared.demand.Sorts.{Sorts}
use Rattle.st_rules.specs.declared.demand.Sorts.TheVariants.{Any as any, Whole as whole, Selecting as selecting}
use Rattle.st_rules.specs.declared.demand.Sorts.TheVariants.{WholeOrTime as whole_or_time, WithSign as with_sign}
use Rattle.st_rules.specs.declared.demand.Sorts.TheVariants.{BitString as bits, TruthOrBits as truth_or_bits}
use Rattle.st_rules.specs.declared.demand.Sorts.TheVariants.{Ordered as ordered, NoSort as no_sort}
use Rattle.st_rules.specs.declared.demand.Purpose.{Purpose}
use Rattle.st_rules.specs.declared.demand.Purpose.TheVariants.{Condition, Argument}
use Rattle.st_rules.specs.declared.demand.Demand.{Demand}
use Rattle.st_rules.specs.declared.demand.Demand.TheVariants.{Operand as operand, Asked as asked}
use Rattle.st_rules.specs.Environments.{Callee, standard, own}

abbrev pub in_sorts : Sorts → Sort → Bool
in_sorts any s = true
in_sorts whole Signed = true
in_sorts whole Unsigned = true
in_sorts whole _ = false
in_sorts selecting Signed = true
in_sorts selecting Unsigned = true
in_sorts selecting Place = true
in_sorts selecting _ = false
in_sorts whole_or_time Signed = true
in_sorts whole_or_time Unsigned = true
in_sorts whole_or_time Duration = true
in_sorts whole_or_time _ = false
in_sorts with_sign Signed = true
in_sorts with_sign _ = false
in_sorts bits Bits = true
in_sorts bits _ = false
in_sorts truth_or_bits Truth = true
in_sorts truth_or_bits Bits = true
in_sorts truth_or_bits _ = false
in_sorts ordered Truth = false
in_sorts ordered Place = false
in_sorts ordered _ = true
in_sorts no_sort s = false

-- the type that an untyped expression is offered
abbrev pub expected_of : Demand → Option Kind
expected_of (operand k) = k
expected_of (asked k ss p) = k

abbrev pub exactly : Kind → Purpose → Demand
exactly k p = asked (Some k) any p

abbrev pub condition : Demand
condition = exactly Boolean Condition

abbrev pub is_kind : Option Kind → Kind → Bool
is_kind None k = true
is_kind (Some l) k = same_kind k l

-- the operands that operators take
abbrev pub sorts_of_unary : UnaryOperator → Sorts
sorts_of_unary Negate = with_sign
sorts_of_unary Not = truth_or_bits

abbrev pub sorts_of_binary : BinaryOperator → Sorts
sorts_of_binary Add = whole_or_time
sorts_of_binary Subtract = whole_or_time
sorts_of_binary Multiply = whole
sorts_of_binary Divide = whole
sorts_of_binary Modulo = whole
sorts_of_binary And = truth_or_bits
sorts_of_binary Or = truth_or_bits
sorts_of_binary Xor = truth_or_bits
sorts_of_binary Equal = any
sorts_of_binary NotEqual = any
sorts_of_binary Less = ordered
sorts_of_binary Greater = ordered
sorts_of_binary LessOrEqual = ordered
sorts_of_binary GreaterOrEqual = ordered

-- the demands of a standard function, called at a place, on its arguments; k is the common type of its operands
abbrev pub demands_of_standard : ℕ → Standard → Option Kind → List Demand
demands_of_standard at ABS k = asked None whole (Argument at) ∷ []
demands_of_standard at MIN k = asked k whole_or_time (Argument at) ∷ asked k whole_or_time (Argument at) ∷ []
demands_of_standard at MAX k = asked k whole_or_time (Argument at) ∷ asked k whole_or_time (Argument at) ∷ []
demands_of_standard at LIMIT k =
    asked k whole_or_time (Argument at) ∷ asked k whole_or_time (Argument at) ∷ asked k whole_or_time (Argument at) ∷ []
demands_of_standard at SEL k =
    exactly Boolean (Argument at) ∷ asked k any (Argument at) ∷ asked k any (Argument at) ∷ []
demands_of_standard at SHL k = asked None bits (Argument at) ∷ asked None whole (Argument at) ∷ []
demands_of_standard at SHR k = asked None bits (Argument at) ∷ asked None whole (Argument at) ∷ []
demands_of_standard at ROL k = asked None bits (Argument at) ∷ asked None whole (Argument at) ∷ []
demands_of_standard at ROR k = asked None bits (Argument at) ∷ asked None whole (Argument at) ∷ []
demands_of_standard at (CONVERT k l) _ = exactly k (Argument at) ∷ []

-- the demands of a call at a place on its arguments
abbrev pub demands_of_callee : ℕ → Option Callee → Option Kind → List Demand
demands_of_callee at (Some (standard std)) k = demands_of_standard at std k
demands_of_callee at (Some (own inputs result)) k = map (λ i. asked i any (Argument at)) inputs
demands_of_callee at None k = []
