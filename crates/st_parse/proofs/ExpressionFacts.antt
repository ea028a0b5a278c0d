-- Facts about the grammar of expressions.
use Rattle.std.proofs.Common.{◌≡◌, ℕ, ◌<◌, ◌≤◌, Bool, true, false, ◌||◌, List, [], ◌∷◌, length, Option, refl, ◌⊎◌}
use Rattle.std.proofs.Common.{arith, inl, inr}
use Rattle.st_types.specs.declared.operator.BinaryOperator.{BinaryOperator}
use Rattle.st_types.specs.declared.operator.BinaryOperator.TheVariants as ops
use Rattle.st_lex.specs.declared.token.Token.{Token}
use Rattle.st_lex.specs.declared.token.TokenKind.TheVariants.{Name}
use Rattle.st_types.specs.Expressions.{Expr, Variable, Selector, exprs_of, selectors_of}
use Rattle.st_types.specs.Expressions as e
use Rattle.st_types.specs.Depths.{depth_of, depth_of_subscript, deepest, deepest_subscript}
use Rattle.st_parse.specs.Tokens.{Tokens, Is, is}
use Rattle.st_parse.specs.Operators.{binds_of}
use Rattle.st_parse.specs.Laws.{IsPrefix}
use Rattle.st_parse.specs.Expressions.{IsExpr, literal, variable, call, parenthesis, negative, negated, inverted}
use Rattle.st_parse.specs.Expressions.{binary, IsVariable, selected, IsSelectors, no_selector, selector}
use Rattle.st_parse.specs.Expressions.{IsSelector, member, subscript, IsExprs, no_argument, argument}
use Rattle.st_parse.specs.Expressions.{IsMoreExprs, no_more_arguments, next_argument}
use Rattle.st_parse.proofs.SoundReadings.{an_identifier, token_of}
use Rattle.st_parse.proofs.SoundLists.{Each}

pub is_less : {A : Type 0} {of : Token → Option A} {ts us : Tokens} {x : A} → Is of ts x us → length us < length ts
is_less (is eq) = omega arith

mutual
  pub expr_less : {k : ℕ} {ts us : Tokens} {x : Expr} → IsExpr k ts x us → length us < length ts
  expr_less (literal l i q) = is_less i
  expr_less (variable v i q) = variable_less i
  expr_less (call f es n o s c q) = let a = is_less n in let b = is_less o.1 in let d = arguments_less s in
      let g = is_less c.1 in omega arith
  expr_less (parenthesis at inner o s c q) = let a = is_less o in let b = expr_less s in let d = is_less c.1 in
      omega arith
  expr_less (negative at n l s i q) = let a = is_less s in let b = is_less i in omega arith
  expr_less (negated at inner l s p i q) = let a = is_less s in let b = expr_less i in omega arith
  expr_less (inverted at inner l s i q) = let a = is_less s in let b = expr_less i in omega arith
  expr_less (binary op a b l s o t q) = let a' = expr_less s in let b' = is_less o in let c' = expr_less t in
      omega arith

  pub variable_less : {ts us : Tokens} {v : Variable} → IsVariable ts v us → length us < length ts
  variable_less (selected x xs n s q) = let a = is_less n in let b = selectors_less s in omega arith

  pub selectors_less : {ts us : Tokens} {xs : List Selector} → IsSelectors ts xs us → length us ≤ length ts
  selectors_less no_selector = omega arith
  selectors_less (selector s rest) = let a = selector_less s in let b = selectors_less rest in omega arith

  pub selector_less : {ts us : Tokens} {s : Selector} → IsSelector ts s us → length us < length ts
  selector_less (member x d n q) = let a = is_less d.1 in let b = is_less n in omega arith
  selector_less (subscript x o i c q) = let a = is_less o.1 in let b = expr_less i in let d = is_less c.1 in omega arith

  pub arguments_less : {ts us : Tokens} {xs : List Expr} → IsExprs ts xs us → length us ≤ length ts
  arguments_less no_argument = omega arith
  arguments_less (argument i rest) = let a = expr_less i in let b = more_arguments_less rest in omega arith

  pub more_arguments_less : {ts us : Tokens} {xs : List Expr} → IsMoreExprs ts xs us → length us ≤ length ts
  more_arguments_less no_more_arguments = omega arith
  more_arguments_less (next_argument c i rest) = let a = is_less c.1 in let b = expr_less i in
      let d = more_arguments_less rest in omega arith

pub weaken : {k : ℕ} {ts us : Tokens} {x : Expr} (l : ℕ) → l ≤ k → IsExpr k ts x us → IsExpr l ts x us
weaken l le (literal p q r) = literal p q r
weaken l le (variable v p q) = variable v p q
weaken l le (call f es n o s c q) = call f es n o s c q
weaken l le (parenthesis at inner o s c q) = parenthesis at inner o s c q
weaken l le (negative at n b s i q) = negative at n (omega arith) s i q
weaken l le (negated at inner b s p i q) = negated at inner (omega arith) s p i q
weaken l le (inverted at inner b s i q) = inverted at inner (omega arith) s i q
weaken l le (binary op a b low s o t q) = binary op a b (omega arith) s o t q

-- ---- depths

pub depth_some : (x : Expr) → 1 ≤ depth_of x
depth_some (e.literal l) = omega arith
depth_some (e.read (e.variable x xs)) = omega arith
depth_some (e.call f es) = omega arith
depth_some (e.parenthesis at x) = omega arith
depth_some (e.unary op at x) = omega arith
depth_some (e.binary op l r) = omega arith

pub each_depth : (n : ℕ) (xs : List Expr) → Each (λ x. depth_of x ≤ n) xs → deepest (exprs_of xs) ≤ n
each_depth n [] all = omega arith
each_depth n (x ∷ xs) all = let a = all.0 in let b = each_depth n xs all.1 in omega arith

pub each_subscript : (n : ℕ) (xs : List Selector) → Each (λ x. depth_of_subscript x ≤ n) xs
    → deepest_subscript (selectors_of xs) ≤ n
each_subscript n [] all = omega arith
each_subscript n (x ∷ xs) all = let a = all.0 in let b = each_subscript n xs all.1 in omega arith

-- ---- operators

pub binds_small : (op : BinaryOperator) → binds_of op ≤ 7
binds_small ops.Or = omega arith
binds_small ops.Xor = omega arith
binds_small ops.And = omega arith
binds_small ops.Equal = omega arith
binds_small ops.NotEqual = omega arith
binds_small ops.Less = omega arith
binds_small ops.Greater = omega arith
binds_small ops.LessOrEqual = omega arith
binds_small ops.GreaterOrEqual = omega arith
binds_small ops.Add = omega arith
binds_small ops.Subtract = omega arith
binds_small ops.Multiply = omega arith
binds_small ops.Divide = omega arith
binds_small ops.Modulo = omega arith

-- how strongly an expression without a sign binds
abbrev pub strength : Expr → ℕ
strength (e.binary op l r) = binds_of op
strength x = 8

-- ---- an example of an expression

abbrev pub a_name : Expr
a_name = e.read (e.variable an_identifier e.no_selectors)

pub name_is : (k : ℕ) (after : Tokens) → IsExpr k (token_of (Name []) ∷ after) a_name after
name_is k after =
    variable (e.variable an_identifier e.no_selectors) (selected an_identifier [] (is refl) no_selector refl) refl

pub a_variable_is : (after : Tokens)
    → IsVariable (token_of (Name []) ∷ after) (e.variable an_identifier e.no_selectors) after
a_variable_is after = selected an_identifier [] (is refl) no_selector refl

pub expr_begins : (k : ℕ) → IsPrefix (IsExpr k) []
expr_begins k = record { more = token_of (Name []) ∷ []; tree = a_name; whole = λ after. name_is k after }

pub or_false : (a b : Bool) → a || b ≡ false → (a ≡ false) × (b ≡ false)
or_false false false eq = (refl, refl)
or_false false true eq = absurd cc
or_false true b eq = absurd cc

pub or_true : (a b : Bool) → a || b ≡ true → (a ≡ true) ⊎ (b ≡ true)
or_true true b eq = inl refl
or_true false b eq = inr eq
