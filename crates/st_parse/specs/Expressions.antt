-- The grammar of expressions: which tokens an expression stands for, by cases on the production.
use Rattle.std.specs.Prelude.{◌≡◌, ℕ, ◌+◌, ◌≤◌, false, List, [], ◌∷◌}
use Rattle.st_types.specs.declared.identifier.Identifier.{Identifier}
use Rattle.st_types.specs.declared.literal.Number.{Number}
use Rattle.st_types.specs.declared.literal.Literal.{Literal}
use Rattle.st_types.specs.declared.literal.Literal.TheVariants as literals
use Rattle.st_types.specs.declared.operator.UnaryOperator.TheVariants.{Negate, Not}
use Rattle.st_types.specs.declared.operator.BinaryOperator.{BinaryOperator}
use Rattle.st_lex.specs.declared.mark.Mark.TheVariants as m
use Rattle.st_lex.specs.declared.keyword.Keyword.TheVariants as w
use Rattle.st_types.specs.Expressions.{Expr, Variable, Selector, exprs_of, selectors_of}
use Rattle.st_types.specs.Expressions as e
use Rattle.st_parse.specs.Tokens.{Tokens, next, is_number, mark, keyword, name, whole, literal as literal_of}
use Rattle.st_parse.specs.Tokens.{negative_at, Is, Passes}
use Rattle.st_parse.specs.Operators.{operator, binds_of, sign_level, operand_level}

-- IsExpr k ts x us: the tokens ts are those of the expression x and then us. Outside parentheses x has only operators
-- that bind at least as strongly as k.
mutual
  pub data IsExpr : ℕ → Tokens → Expr → Tokens → Type 0 where
    literal : {k : ℕ} {ts us : Tokens} {x : Expr} (l : Literal) → Is literal_of ts l us → x ≡ e.literal l
        → IsExpr k ts x us
    variable : {k : ℕ} {ts us : Tokens} {x : Expr} (v : Variable) → IsVariable ts v us → x ≡ e.read v → IsExpr k ts x us
    call : {k : ℕ} {ts us vs ws zs : Tokens} {x : Expr} (f : Identifier) (es : List Expr) → Is name ts f us
        → Passes (mark m.Open) us vs → IsExprs vs es ws → Passes (mark m.Close) ws zs
        → x ≡ e.call f (exprs_of es) → IsExpr k ts x zs
    parenthesis : {k : ℕ} {ts us vs ws : Tokens} {x : Expr} (at : ℕ) (inner : Expr) → Is (mark m.Open) ts at us
        → IsExpr 1 us inner vs → Passes (mark m.Close) vs ws
        → x ≡ e.parenthesis at inner → IsExpr k ts x ws
    -- a `-` directly before a whole number or bit string is a part of it
    negative : {k : ℕ} {ts us vs : Tokens} {x : Expr} (at : ℕ) (n : Number) → k ≤ sign_level
        → Is (mark m.Minus) ts at us → Is whole us n vs
        → x ≡ e.literal (literals.Number (negative_at at n)) → IsExpr k ts x vs
    negated : {k : ℕ} {ts us vs : Tokens} {x : Expr} (at : ℕ) (inner : Expr) → k ≤ sign_level
        → Is (mark m.Minus) ts at us → next is_number us ≡ false → IsExpr operand_level us inner vs
        → x ≡ e.unary Negate at inner → IsExpr k ts x vs
    inverted : {k : ℕ} {ts us vs : Tokens} {x : Expr} (at : ℕ) (inner : Expr) → k ≤ sign_level
        → Is (keyword w.Not) ts at us → IsExpr operand_level us inner vs
        → x ≡ e.unary Not at inner → IsExpr k ts x vs
    -- equal levels group from the left
    binary : {k : ℕ} {ts us vs ws : Tokens} {x : Expr} (op : BinaryOperator) (a b : Expr) → k ≤ binds_of op
        → IsExpr (binds_of op) ts a us → Is operator us op vs → IsExpr (binds_of op + 1) vs b ws → x ≡ e.binary op a b
        → IsExpr k ts x ws

  pub data IsVariable : Tokens → Variable → Tokens → Type 0 where
    selected : {ts us vs : Tokens} {v : Variable} (x : Identifier) (xs : List Selector) → Is name ts x us
        → IsSelectors us xs vs → v ≡ e.variable x (selectors_of xs) → IsVariable ts v vs

  pub data IsSelectors : Tokens → List Selector → Tokens → Type 0 where
    no_selector : {ts : Tokens} → IsSelectors ts [] ts
    selector : {ts us vs : Tokens} {x : Selector} {xs : List Selector} → IsSelector ts x us → IsSelectors us xs vs
        → IsSelectors ts (x ∷ xs) vs

  pub data IsSelector : Tokens → Selector → Tokens → Type 0 where
    member : {ts us vs : Tokens} {s : Selector} (x : Identifier) → Passes (mark m.Dot) ts us → Is name us x vs
        → s ≡ e.member x → IsSelector ts s vs
    subscript : {ts us vs ws : Tokens} {s : Selector} (x : Expr) → Passes (mark m.OpenBracket) ts us → IsExpr 1 us x vs
        → Passes (mark m.CloseBracket) vs ws → s ≡ e.subscript x → IsSelector ts s ws

  -- the arguments of a function call
  pub data IsExprs : Tokens → List Expr → Tokens → Type 0 where
    no_argument : {ts : Tokens} → IsExprs ts [] ts
    argument : {ts us vs : Tokens} {x : Expr} {xs : List Expr} → IsExpr 1 ts x us → IsMoreExprs us xs vs
        → IsExprs ts (x ∷ xs) vs

  pub data IsMoreExprs : Tokens → List Expr → Tokens → Type 0 where
    no_more_arguments : {ts : Tokens} → IsMoreExprs ts [] ts
    next_argument : {ts us vs ws : Tokens} {x : Expr} {xs : List Expr} → Passes (mark m.Comma) ts us → IsExpr 1 us x vs
        → IsMoreExprs vs xs ws → IsMoreExprs ts (x ∷ xs) ws
