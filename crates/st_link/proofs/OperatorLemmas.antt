-- Operators on values of one type.
use Rattle.std.proofs.Common.{◌≡◌, refl, sym, subst, ◌∙◌, Bool, true, false, if◌then◌else◌}
use Rattle.std.proofs.Common.{Ok, Err}
use Rattle.std.specs.Prelude.{ℤ, pos, int_div}
use Rattle.std.specs.Ordering.{int_eq}
use Rattle.st_types.specs.declared.fault.Fault.TheVariants.{Range, DivisionByZero}
use Rattle.st_types.specs.declared.kind.Kind.{Kind}
use Rattle.st_types.specs.declared.kind.Kind.TheVariants.{Bool as Boolean}
use Rattle.st_types.specs.declared.operator.UnaryOperator.{UnaryOperator}
use Rattle.st_types.specs.declared.operator.UnaryOperator.TheVariants.{Negate, Not}
use Rattle.st_types.specs.declared.operator.BinaryOperator.{BinaryOperator}
use Rattle.st_types.specs.declared.operator.BinaryOperator.TheVariants.{Or, Xor, And, Equal, NotEqual, Less, Greater}
use Rattle.st_types.specs.declared.operator.BinaryOperator.TheVariants.{LessOrEqual, GreaterOrEqual, Add, Subtract}
use Rattle.st_types.specs.declared.operator.BinaryOperator.TheVariants.{Multiply, Divide, Modulo}
use Rattle.st_types.specs.Kinds.{holds, same_kind}
use Rattle.st_types.proofs.KindLemmas.{same_kind-refl}
use Rattle.st_types.specs.Values.{Datum, in_range, bool_datum}
use Rattle.st_meaning.specs.Failures.{ill_typed, failing}
use Rattle.st_meaning.specs.Operators.{applied, apply, apply_unary, quotient}
use Rattle.st_meaning.specs.Resolution.{is_joining}
use Rattle.st_link.specs.Soundness.{IsOf}
use Rattle.st_link.proofs.Alikes.{Succeeds, Gives, failed}

pub is_of_kind : (k l : Kind) (d : Datum) → k ≡ l → IsOf k d → IsOf l d
is_of_kind k l d e h = record { kind = h.kind ∙ e; held = h.held }

-- a number of a type
held_or_not : (k : Kind) (z : ℤ) (b : Bool) → holds k z ≡ b
    → Gives (IsOf k) (if b then Ok (record { kind = k; number = z }) else Err Range)
held_or_not k z true h = record { kind = refl; held = h }
held_or_not k z false h = tt

pub in_range_gives : (k : Kind) (z : ℤ) → Gives (IsOf k) (in_range k z)
in_range_gives k z = held_or_not k z (holds k z) refl

quotient_gives : (k : Kind) (x y : ℤ) → Gives (IsOf k) (quotient k x y)
quotient_gives k x y = divided (int_eq y (pos 0))
  where
    divided : (zero : Bool) → Gives (IsOf k) (if zero then Err DivisionByZero else in_range k (int_div x y))
    divided true = tt
    divided false = in_range_gives k (int_div x y)

pub truth_is : (b : Bool) → IsOf Boolean (bool_datum b)
truth_is true = record { kind = refl; held = refl }
truth_is false = record { kind = refl; held = refl }

applied_gives : (op : BinaryOperator) (k : Kind) (x y : ℤ)
    → Gives (IsOf (if is_joining op then k else Boolean)) (applied op k x y)
applied_gives Or k x y = in_range_gives k _
applied_gives Xor k x y = in_range_gives k _
applied_gives And k x y = in_range_gives k _
applied_gives Equal k x y = truth_is _
applied_gives NotEqual k x y = truth_is _
applied_gives Less k x y = truth_is _
applied_gives Greater k x y = truth_is _
applied_gives LessOrEqual k x y = truth_is _
applied_gives GreaterOrEqual k x y = truth_is _
applied_gives Add k x y = in_range_gives k _
applied_gives Subtract k x y = in_range_gives k _
applied_gives Multiply k x y = in_range_gives k _
applied_gives Divide k x y = quotient_gives k x y
applied_gives Modulo k x y = in_range_gives k _

pub unary_gives : (op : UnaryOperator) (x : Datum) → Gives (IsOf x.kind) (apply_unary op x)
unary_gives Negate x = in_range_gives x.kind _
unary_gives Not x = in_range_gives x.kind _

pub same_kinds : (k l : Kind) → k ≡ l → same_kind k l ≡ true
same_kinds k l e = subst (λ m. same_kind k m ≡ true) e (same_kind-refl k)

apply_alike : (op : BinaryOperator) (x y : Datum) (same : Bool) → same ≡ true
    → Succeeds (IsOf (if is_joining op then x.kind else Boolean))
    (if same then failing (applied op x.kind x.number y.number) else Err ill_typed)
apply_alike op x y true h = failed {A = Datum} (IsOf (if is_joining op then x.kind else Boolean))
    (applied op x.kind x.number y.number) (applied_gives op x.kind x.number y.number)
apply_alike op x y false h = absurd (cc)

pub apply_succeeds : (op : BinaryOperator) (m : Kind) (x y : Datum) → IsOf m x → IsOf m y
    → Succeeds (IsOf (if is_joining op then m else Boolean)) (apply op x y)
apply_succeeds op m x y p q =
    subst (λ k. Succeeds (IsOf (if is_joining op then k else Boolean)) (apply op x y)) p.kind
    (apply_alike op x y (same_kind x.kind y.kind) (same_kinds x.kind y.kind (p.kind ∙ sym q.kind)))
