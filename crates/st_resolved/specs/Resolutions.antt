-- The resolution of an expression by itself, before its place offers it a type.
use Rattle.std.specs.Prelude.{◌≡◌, ℕ, List, [], ◌∷◌, Bool, true, false, Option, Some, None}
use Rattle.st_types.specs.declared.kind.Kind.{Kind}
use Rattle.st_types.specs.declared.literal.Literal.TheVariants as literals
use Rattle.st_types.specs.Expressions.{Expr, literal, Exprs, no_exprs, expr_then}
use Rattle.st_types.specs.ExpressionViews.{expr_view}
use Rattle.st_meaning.specs.Enumerations.{Member, number_of_member}
use Rattle.st_meaning.specs.Resolution.{is_untyped, own_kind, resolved_expr}
use Rattle.st_rules.specs.Environments.{Environment}
use Rattle.st_resolved.specs.declared.resolutions.Resolution.{Resolution}
use Rattle.st_resolved.specs.declared.resolutions.Resolution.TheVariants.{Untyped, Typed}

-- it waits for its place
abbrev pub is_left : Resolution → Bool
is_left (Untyped e) = true
is_left (Typed k e) = false

abbrev pub resolved_kind : Resolution → Option Kind
resolved_kind (Untyped e) = None
resolved_kind (Typed k e) = k

-- the expression as far as it is resolved
abbrev pub resolved_tree : Resolution → Expr
resolved_tree (Untyped e) = expr_view e
resolved_tree (Typed k e) = expr_view e

-- the expression itself, or its resolved form whatever its place offers
abbrev pub HasTree : Environment → Expr → Resolution → Type 0
HasTree env e (Untyped x) = expr_view x ≡ e
HasTree env e (Typed k x) = (offered : Option Kind) → expr_view x ≡ resolved_expr env.text env.unit offered e

pub record Resolves (env : Environment) (e : Expr) (r : Resolution) : Type 0 where
  pub left : is_left r ≡ is_untyped e
  pub kind : resolved_kind r ≡ own_kind env.text env.unit e
  pub tree : HasTree env e r

-- each of a list of expressions
abbrev pub ResolvesAll : Environment → Exprs → List Resolution → Type 0
ResolvesAll env no_exprs [] = Unit {0}
ResolvesAll env no_exprs (r ∷ rs) = ⊥
ResolvesAll env (expr_then e es) [] = ⊥
ResolvesAll env (expr_then e es) (r ∷ rs) = Resolves env e r × ResolvesAll env es rs

-- The expression at a place of the text stands for a value of an enumerated type.
pub record IsValue (env : Environment) (e : Expr) (at : ℕ) (m : Member) : Type 0 where
  pub typed : is_untyped e ≡ false
  pub kind : own_kind env.text env.unit e ≡ Some m.kind
  pub tree : (offered : Option Kind)
      → resolved_expr env.text env.unit offered e ≡ literal (literals.Number (number_of_member at m))
