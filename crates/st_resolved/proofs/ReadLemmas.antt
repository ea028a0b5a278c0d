-- Variables with parts selected of them.
use Rattle.std.proofs.Common.{◌≡◌, ◌∙◌, sym, ap, refl, ℕ, ◌==◌, true, false, List, [], ◌∷◌}
use Rattle.std.proofs.Common.{length, arith, Option, Some, None}
use Rattle.std.proofs.lemmas.Bool.Decides.{nat_tests}
use Rattle.st_types.specs.declared.identifier.Identifier.{Identifier}
use Rattle.st_types.specs.declared.kind.Kind.{Kind}
use Rattle.st_types.specs.declared.expression.Expr as code_expr
use Rattle.st_types.specs.Expressions.{Expr, read, variable, Selector, selectors_of}
use Rattle.st_types.specs.ExpressionViews.{expr_view}
use Rattle.st_meaning.specs.NameTypes.{kind_of_variable}
use Rattle.st_meaning.specs.Operators.{or_kind}
use Rattle.st_meaning.specs.Resolution.{resolved_variable}
use Rattle.st_rules.specs.Environments.{Environment}
use Rattle.st_resolved.specs.declared.resolutions.Resolution.TheVariants.{Typed}
use Rattle.st_resolved.specs.Resolutions.{Resolves}
use Rattle.st_rules.proofs.TypingLaws.{or_nothing}

zero_told : (n : ℕ) → true ≡ (n == 0) → n ≡ 0
zero_told n h = grind (arith, nat_tests)

zero_denied : (n : ℕ) → false ≡ (n == 0) → n ≡ 0 → ⊥
zero_denied n h = grind (arith, nat_tests)

-- a list by its length
pub none_there : {X : Type 0} (xs : List X) (n : ℕ) → true ≡ (n == 0) → n ≡ length xs → xs ≡ []
none_there [] n h e = refl
none_there (x ∷ xs) n h e = let none = zero_told n h in absurd (omega arith)

pub some_there : {X : Type 0} (xs : List X) (n : ℕ) → false ≡ (n == 0) → n ≡ length xs → xs ≡ [] → ⊥
some_there xs n h e none = zero_denied n h (e ∙ ap length none)

pub selected_resolves : (env : Environment) (x : Identifier) (xs : List Selector) (kind : Option Kind)
    (whole : code_expr.Expr) → (xs ≡ [] → ⊥)
    → kind ≡ kind_of_variable env.text env.unit (variable x (selectors_of xs))
    → expr_view whole ≡ read (resolved_variable env.text env.unit (variable x (selectors_of xs)))
    → Resolves env (read (variable x (selectors_of xs))) (Typed kind whole)
selected_resolves env x [] kind whole some kind_is seen = absurd (some refl)
selected_resolves env x (s ∷ xs) kind whole some kind_is seen = record {
  left = refl;
  kind = kind_is ∙ sym (or_nothing (kind_of_variable env.text env.unit (variable x (selectors_of (s ∷ xs)))));
  tree = λ offered. seen;
}
