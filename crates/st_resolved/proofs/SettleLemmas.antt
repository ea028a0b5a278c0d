-- Untyped operations, by the types that their operands take.
use Rattle.std.proofs.Common.{◌≡◌, ◌∙◌, sym, ap, refl, Bool, true, false, ◌&&◌, Option, Some, None}
use Rattle.std.specs.Prelude.{if◌then◌else◌}
use Rattle.std.proofs.lemmas.Bool.{and_parts}
use Rattle.st_types.specs.declared.kind.Kind.{Kind}
use Rattle.st_types.specs.declared.operator.BinaryOperator.{BinaryOperator}
use Rattle.st_types.specs.Expressions.{Expr, binary}
use Rattle.st_meaning.specs.Resolution.{is_joining, is_untyped, own_kind, expected_of_both, operand_kind, resolved_expr}
use Rattle.st_rules.specs.Environments.{Environment}

-- untyped operands of an operator that joins them are offered the same type as the whole
offered_through : (j a b : Bool) (k m n : Option Kind) → (j && a && b) ≡ true
    → k ≡ expected_of_both (if j then k else None) m n a b
offered_through true true true k m n h = refl
offered_through true true false k m n h = absurd (cc)
offered_through true false b k m n h = absurd (cc)
offered_through false a b k m n h = absurd (cc)

pub binary_settled : (env : Environment) (k : Option Kind) (op : BinaryOperator) (l r a b : Expr)
    → is_untyped (binary op l r) ≡ true → a ≡ resolved_expr env.text env.unit k l
    → b ≡ resolved_expr env.text env.unit k r
    → binary op a b ≡ resolved_expr env.text env.unit k (binary op l r)
binary_settled env k op l r a b untyped left right =
    let o : k ≡ operand_kind env.text env.unit k op l r =
    offered_through (is_joining op) (is_untyped l) (is_untyped r) k (own_kind env.text env.unit l)
    (own_kind env.text env.unit r) untyped in
    ap (λ x. binary op x b) (left ∙ ap (λ m. resolved_expr env.text env.unit m l) o)
    ∙ ap (binary op (resolved_expr env.text env.unit (operand_kind env.text env.unit k op l r) l))
    (right ∙ ap (λ m. resolved_expr env.text env.unit m r) o)
