-- Expressions, as the definitions see them.
use Rattle.std.specs.Prelude.{ℕ, List, [], ◌∷◌}
use Rattle.st_types.specs.declared.identifier.Identifier.{Identifier}
use Rattle.st_types.specs.declared.literal.Literal.{Literal}
use Rattle.st_types.specs.declared.operator.UnaryOperator.{UnaryOperator}
use Rattle.st_types.specs.declared.operator.BinaryOperator.{BinaryOperator}

mutual
  pub data Expr : Type 0 where
    literal : Literal → Expr
    read : Variable → Expr
    call : Identifier → Exprs → Expr
    parenthesis : ℕ → Expr → Expr
    unary : UnaryOperator → ℕ → Expr → Expr
    binary : BinaryOperator → Expr → Expr → Expr

  pub data Exprs : Type 0 where
    no_exprs : Exprs
    expr_then : Expr → Exprs → Exprs

  pub data Variable : Type 0 where
    variable : Identifier → Selectors → Variable

  pub data Selector : Type 0 where
    member : Identifier → Selector
    subscript : Expr → Selector

  pub data Selectors : Type 0 where
    no_selectors : Selectors
    selector_then : Selector → Selectors → Selectors

abbrev pub exprs_of : List Expr → Exprs
exprs_of [] = no_exprs
exprs_of (e ∷ es) = expr_then e (exprs_of es)

abbrev pub selectors_of : List Selector → Selectors
selectors_of [] = no_selectors
selectors_of (x ∷ xs) = selector_then x (selectors_of xs)
