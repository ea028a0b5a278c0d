-- A part that is read as an expression is one, and the tokens before a refusal begin one.
use Rattle.std.proofs.Common.{◌≡◌, ℕ, zero, suc, ◌+◌, ◌<◌, ◌≤◌, ltb, leb, cond, Bool, true, false, ◌||◌, ◌&&◌, List, []}
use Rattle.std.proofs.Common.{◌∷◌, length, Option, Some, None, Ok, Err, refl, sym, ap, subst, ◌∙◌, ◌⊎◌, arith, inl, inr}
use Rattle.std.proofs.lemmas.Bool.{cases_Bool, ltb-false, ltb-true, leb-true, leb-false, le-ltb, lt-leb, le-leb, and_parts}
use Rattle.st_types.specs.declared.identifier.Identifier.{Identifier}
use Rattle.st_types.specs.declared.literal.Literal.{Literal}
use Rattle.st_types.specs.declared.literal.Literal.TheVariants as literals
use Rattle.st_types.specs.declared.operator.UnaryOperator.TheVariants.{Negate, Not}
use Rattle.st_types.specs.declared.operator.BinaryOperator.{BinaryOperator}
use Rattle.st_lex.specs.declared.token.Token.{Token}
use Rattle.st_lex.specs.declared.token.TokenKind.{TokenKind}
use Rattle.st_lex.specs.declared.token.TokenKind.TheVariants.{Name, Keyword, Mark, Number, Truth, Duration, Enumerated}
use Rattle.st_lex.specs.declared.mark.Mark.TheVariants as m
use Rattle.st_lex.specs.declared.keyword.Keyword.TheVariants as w
use Rattle.st_types.specs.Expressions.{Expr, Variable, Selector, exprs_of, selectors_of}
use Rattle.st_types.specs.Expressions as e
use Rattle.st_types.specs.Depths.{depth_of, depth_of_variable, depth_of_subscript, deepest, deepest_subscript}
use Rattle.st_parse.specs.Tokens.{Tokens, next, Is, is, mark, keyword, name, name_in, literal_in, value_at, whole}
use Rattle.st_parse.specs.Tokens.{literal as literal_of, negative_at, unsigned, is_mark, is_keyword, is_name}
use Rattle.st_parse.specs.Tokens.{is_number}
use Rattle.st_parse.specs.Operators.{operator_in, operator, binds_of, is_within, goes_on, operand_level}
use Rattle.st_parse.specs.declared.fault.Refusal.TheVariants.{Unexpected}
use Rattle.st_parse.specs.Parsers.{Parser, and_then, ◌>>=◌, pure, refuse, one, if_next, too_deep}
use Rattle.st_parse.specs.ExpressionReading.{starts_selector, starts_operand, starts_expr, parenthesis_at}
use Rattle.st_parse.specs.ExpressionReading.{member_at, subscript_at, selector_at, selectors_at, variable_of}
use Rattle.st_parse.specs.ExpressionReading.{read_of, arguments_at, call_of, named_at, literal_at, operand_by}
use Rattle.st_parse.specs.ExpressionReading.{operand_at, negative_of, negated_of, minus_at, not_at, unary_at}
use Rattle.st_parse.specs.ExpressionReading.{operation_of, operation_within, operations_of, operators_at, expr_at}
use Rattle.st_parse.specs.ExpressionReading.{variable_at}
use Rattle.st_parse.specs.Laws.{Grammar, IsPrefix}
use Rattle.st_parse.specs.Expressions.{IsExpr, literal, variable, call, parenthesis, negative, negated, inverted}
use Rattle.st_parse.specs.Expressions.{binary, IsVariable, selected, IsSelectors, no_selector, selector}
use Rattle.st_parse.specs.Expressions.{IsSelector, member, subscript, IsExprs, no_argument, argument}
use Rattle.st_parse.specs.Expressions.{IsMoreExprs, no_more_arguments, next_argument}
use Rattle.st_parse.proofs.Sound.{Family, Told, Tells, Any, Seq, Made, made, made_begins, seq_begins, begins_as}
use Rattle.st_parse.proofs.Sound.{then_at, told_as, told_agree, told_pure, told_refuse, told_if, told_by_kind}
use Rattle.st_parse.proofs.Sound.{told_too_deep, told_guard, Unless, told_unless}
use Rattle.st_parse.proofs.SoundTurns.{told_turns}
use Rattle.st_parse.proofs.SoundReadings.{Sound, told_by, sound_then, sound_pure, sound_as, sound_if, sound_one}
use Rattle.st_parse.proofs.SoundReadings.{sound_mark, sound_keyword, sound_name, sound_whole, token_of, a_number}
use Rattle.st_parse.proofs.SoundReadings.{number_token, an_identifier, mark_same, mark_is, keyword_is, mark_at}
use Rattle.st_parse.proofs.SoundReadings.{keyword_at}
use Rattle.st_parse.proofs.SoundLists.{sound_several, sound_listed}
use Rattle.st_parse.proofs.ExpressionFacts.{is_less, expr_less, selector_less, weaken, each_depth, each_subscript}
use Rattle.st_parse.proofs.ExpressionFacts.{binds_small, strength, a_name, name_is, expr_begins, a_variable_is}
use Rattle.st_parse.proofs.ExpressionFacts.{or_false, or_true}

-- at most this deep, and no such operator comes next
abbrev pub LowExpr : ℕ → ℕ → Expr → Tokens → Type 0
LowExpr depth least x us = (depth_of x ≤ depth) × (next (goes_on least) us ≡ false)

abbrev pub Low : ℕ → Expr → Tokens → Type 0
Low depth x us = depth_of x ≤ depth

abbrev pub LowVariable : ℕ → Variable → Tokens → Type 0
LowVariable depth v us = depth_of_variable v ≤ depth

-- of any level, and without a sign or an operator outside parentheses
pub record IsOperand (ts : Tokens) (x : Expr) (us : Tokens) : Type 0 where
  pub any : (k : ℕ) → IsExpr k ts x us
  pub plain : strength x ≡ 8

pub record IsSigned (ts : Tokens) (x : Expr) (us : Tokens) : Type 0 where
  pub low : (k : ℕ) → k ≤ 8 → IsExpr k ts x us
  pub plain : strength x ≡ 8

pub record AfterName (x : Identifier) (us : Tokens) (y : Expr) (vs : Tokens) : Type 0 where
  pub any : (k : ℕ) (ts : Tokens) → Is name ts x us → IsExpr k ts y vs
  pub plain : strength y ≡ 8

pub record AfterMinus (at : ℕ) (us : Tokens) (y : Expr) (vs : Tokens) : Type 0 where
  pub low : (k : ℕ) (ts : Tokens) → k ≤ 8 → Is (mark m.Minus) ts at us → IsExpr k ts y vs
  pub plain : strength y ≡ 8

-- ---- parts without expressions

is_literal_operand : (ts : Tokens) (x : Expr) (us : Tokens) → Seq (Is literal_of) (λ l. Made (e.literal l)) ts x us
    → IsOperand ts x us
is_literal_operand ts x us (l, vs, i, made eq) = record { any = λ k. literal l i eq; plain = ap strength eq }

sound_literal : {C : Type 0} (n : ℕ) → Sound C (λ e. literal_at) IsOperand (Low (n + 1))
unfolding literal_at
sound_literal n = sound_as is_literal_operand (λ x us d. d) (sound_then (sound_one literal_of number_token
    (literals.Number a_number) refl) (λ l. sound_pure (e.literal l) (Low (n + 1)) (λ c us. omega arith)))

is_negative : (at : ℕ) (ts : Tokens) (x : Expr) (us : Tokens)
    → Seq (Is whole) (λ n. Made (e.literal (literals.Number (negative_at at n)))) ts x us → AfterMinus at ts x us
is_negative at ts x us (n, vs, i, made eq) =
    record { low = λ k rs le s. negative at n le s i eq; plain = ap strength eq }

sound_negative : {C : Type 0} (n at : ℕ) → Sound C (λ e. negative_of at) (AfterMinus at) (Low (n + 1))
unfolding negative_of
sound_negative n at = sound_as (is_negative at) (λ x us d. d) (sound_then sound_whole
    (λ l. sound_pure (e.literal (literals.Number (negative_at at l))) (Low (n + 1)) (λ c us. omega arith)))

abbrev pub LowSelector : ℕ → Selector → Tokens → Type 0
LowSelector depth s us = depth_of_subscript s ≤ depth

is_member : (ts : Tokens) (s : Selector) (us : Tokens)
    → Seq (Is (mark m.Dot)) (λ at. Seq (Is name) (λ x. Made (e.member x))) ts s us → IsSelector ts s us
is_member ts s us (at, vs, d, (x, ws, n, made eq)) = member x (at, d) n eq

sound_member : {C : Type 0} (n : ℕ) → Sound C (λ e. member_at) IsSelector (LowSelector n)
unfolding member_at
sound_member n = sound_as is_member (λ x us d. d) (sound_then (sound_mark m.Dot)
    (λ at. sound_then sound_name (λ x. sound_pure (e.member x) (LowSelector n) (λ c us. omega arith))))

-- ---- parts with expressions one level down

is_subscript : (ts : Tokens) (s : Selector) (us : Tokens) → Seq (Is (mark m.OpenBracket))
    (λ at. Seq (IsExpr 1) (λ x. Seq (Is (mark m.CloseBracket)) (λ end. Made (e.subscript x)))) ts s us
    → IsSelector ts s us
is_subscript ts s us (at, vs, o, (x, ws, i, (end, zs, c, made eq))) = subscript x (at, o) i (end, c) eq

is_parenthesis : (ts : Tokens) (x : Expr) (us : Tokens) → Seq (Is (mark m.Open))
    (λ at. Seq (IsExpr 1) (λ inner. Seq (Is (mark m.Close)) (λ end. Made (e.parenthesis at inner)))) ts x us
    → IsOperand ts x us
is_parenthesis ts x us (at, vs, o, (inner, ws, i, (end, zs, c, made eq))) =
    record { any = λ k. parenthesis at inner o i (end, c) eq; plain = ap strength eq }

is_variable : (x : Identifier) (ts us vs : Tokens) (xs : List Selector) (v : Variable) → Is name ts x us
    → IsSelectors us xs vs → v ≡ e.variable x (selectors_of xs) → IsVariable ts v vs
is_variable x ts us vs xs v n s eq = selected x xs n s eq

-- the selection after a name
abbrev pub Selected : Identifier → Grammar Variable
Selected x = Seq IsSelectors (λ xs. Made (e.variable x (selectors_of xs)))

pub selected_is : (x : Identifier) (ts us vs : Tokens) (v : Variable) → Is name ts x us → Selected x us v vs
    → IsVariable ts v vs
selected_is x ts us vs v n (xs, ws, s, made eq) = selected x xs n s eq

is_read : (x : Identifier) (us : Tokens) (y : Expr) (vs : Tokens) → Seq (Selected x) (λ v. Made (e.read v)) us y vs
    → AfterName x us y vs
is_read x us y vs (v, ws, s, made eq) =
    record { any = λ k ts n. variable v (selected_is x ts us ws v n s) eq; plain = ap strength eq }

is_call : (f : Identifier) (us : Tokens) (y : Expr) (vs : Tokens) → Seq (Is (mark m.Open))
    (λ at. Seq IsExprs (λ es. Seq (Is (mark m.Close)) (λ end. Made (e.call f (exprs_of es))))) us y vs
    → AfterName f us y vs
is_call f us y vs (at, ws, o, (es, zs, s, (end, qs, c, made eq))) =
    record { any = λ k ts n. call f es n (at, o) s (end, c) eq; plain = ap strength eq }

is_named : (ts : Tokens) (y : Expr) (us : Tokens) → Seq (Is name) AfterName ts y us → IsOperand ts y us
is_named ts y us s = record { any = λ k. s.3.any k ts s.2; plain = s.3.plain }

is_negated : (at : ℕ) (ts : Tokens) (x : Expr) (us : Tokens)
    → Unless is_number (Seq (IsExpr operand_level) (λ inner. Made (e.unary Negate at inner))) ts x us
    → AfterMinus at ts x us
is_negated at ts x us ((inner, vs, i, made eq), miss) =
    record { low = λ k rs le s. negated at inner le s miss i eq; plain = ap strength eq }

is_minus : (ts : Tokens) (x : Expr) (us : Tokens) → Seq (Is (mark m.Minus)) AfterMinus ts x us → IsSigned ts x us
is_minus ts x us s = record { low = λ k le. s.3.low k ts le s.2; plain = s.3.plain }

is_inverted : (ts : Tokens) (x : Expr) (us : Tokens)
    → Seq (Is (keyword w.Not)) (λ at. Seq (IsExpr operand_level) (λ inner. Made (e.unary Not at inner))) ts x us
    → IsSigned ts x us
is_inverted ts x us (at, vs, s, (inner, ws, i, made eq)) =
    record { low = λ k le. inverted at inner le s i eq; plain = ap strength eq }

negated_less : (at : ℕ) (ts : Tokens) (x : Expr) (us : Tokens)
    → Seq (IsExpr operand_level) (λ inner. Made (e.unary Negate at inner)) ts x us → length us < length ts
negated_less at ts x us (inner, vs, i, made eq) = expr_less i

negated_begins : (at : ℕ)
    → IsPrefix (Unless is_number (Seq (IsExpr operand_level) (λ inner. Made (e.unary Negate at inner)))) []
negated_begins at = record {
  more = token_of (Name []) ∷ [];
  tree = e.unary Negate at a_name;
  whole =
      λ after. ((a_name, after, name_is operand_level after, made refl), refl);
}

binds_less : (o : Option BinaryOperator) → is_within 9 o ≡ false
binds_less None = refl
binds_less (Some op) = let small = binds_small op in lt-leb _ _ (omega arith)

pub none_binds : (us : Tokens) → next (goes_on 9) us ≡ false
none_binds [] = refl
none_binds (t ∷ us) = binds_less (operator_in t.kind)

abbrev pub LowEach : ℕ → List Expr → Tokens → Type 0
LowEach depth xs us = deepest (exprs_of xs) ≤ depth

module _ (below : ℕ) (expr : ℕ → ℕ → Parser Expr)
    (tells : (least : ℕ) → least ≤ 9 → Tells (λ e. expr e least) (IsExpr least) (LowExpr below least)) where
  sound_expr : {C : Type 0} (least : ℕ) → least ≤ 9 → Sound C (λ e. expr e least) (IsExpr least) (LowExpr below least)
  sound_expr least le = record { begins = expr_begins least; tells = λ c. tells least le }

  sound_subscript : {C : Type 0} → Sound C (λ e. subscript_at (expr e)) IsSelector (LowSelector below)
  unfolding subscript_at
  sound_subscript = sound_as is_subscript (λ x us d. d) (sound_then (sound_mark m.OpenBracket)
      (λ at. sound_then (sound_expr 1 (omega arith)) (λ x. sound_then (sound_mark m.CloseBracket) (λ end.
      sound_pure (e.subscript x) (LowSelector below) (λ c us. c.0.1.1.0)))))

  sound_selector : {C : Type 0} → Sound C (λ e. selector_at (expr e)) IsSelector (LowSelector below)
  unfolding selector_at
  sound_selector = sound_if (is_mark m.Dot) (sound_member below) sound_subscript

  sound_selectors : {C : Type 0}
      → Sound C (λ e. selectors_at (expr e)) IsSelectors (λ xs us. deepest_subscript (selectors_of xs) ≤ below)
  unfolding selectors_at
  sound_selectors = sound_as (λ ts ys us s. subst (λ (zs : List Selector). IsSelectors ts zs us) (sym s.2) s.1)
      (λ xs us d. each_subscript below xs d.0)
      (sound_several starts_selector (λ e. selector_at (expr e)) IsSelector IsSelectors
      (λ x. depth_of_subscript x ≤ below) (λ ts. no_selector) (λ ts x us xs vs o r. selector o r)
      (λ ts x us o. selector_less o) [] (λ c. tt) sound_selector)

  pub sound_variable_of : {C : Type 0} (x : Identifier)
      → Sound C (λ e. variable_of (expr e) x) (Selected x) (LowVariable (below + 1))
  unfolding variable_of
  sound_variable_of x = sound_then sound_selectors (λ xs.
      sound_pure (e.variable x (selectors_of xs)) (LowVariable (below + 1)) (λ c us. let l = c.1.1 in omega arith))

  sound_read_of : {C : Type 0} (x : Identifier) → Sound C (λ e. read_of (expr e) x) (AfterName x) (Low (below + 1))
  unfolding read_of
  sound_read_of x = sound_as (is_read x) (λ y us d. d)
      (sound_then (sound_variable_of x) (λ v. sound_pure (e.read v) (Low (below + 1)) (λ c us. c.1.1)))

  sound_arguments : {C : Type 0} → Sound C (λ e. arguments_at (expr e)) IsExprs (LowEach below)
  unfolding arguments_at
  sound_arguments = sound_if (is_mark m.Close)
      (sound_as (λ ts xs us s. no_arguments ts xs us s) (λ x us d. d)
      (sound_pure [] (LowEach below) (λ c us. omega arith)))
      (sound_as (λ ts xs us s. s) (λ xs us d. each_depth below xs d.0)
      (sound_listed (λ e. expr e 1) (IsExpr 1) IsMoreExprs IsExprs (λ x. depth_of x ≤ below)
      (λ ts. no_more_arguments) (λ ts us x vs xs ws c o r. next_argument c o r) (λ ts x us o. expr_less o)
      (λ ts x us xs vs o r. argument o r)
      (sound_as (λ ts x us i. i) (λ x us d. d.0) (sound_expr 1 (omega arith)))))
    where
      no_arguments : (ts : Tokens) (xs : List Expr) (us : Tokens) → Made [] ts xs us → IsExprs ts xs us
      no_arguments ts xs us (made eq) = subst (λ (zs : List Expr). IsExprs ts zs ts) (sym eq) no_argument

  sound_call_of : {C : Type 0} (f : Identifier) → Sound C (λ e. call_of (expr e) f) (AfterName f) (Low (below + 1))
  unfolding call_of
  sound_call_of f = sound_as (is_call f) (λ y us d. d)
      (sound_then (sound_mark m.Open) (λ at. sound_then sound_arguments (λ es. sound_then (sound_mark m.Close) (λ end.
      sound_pure (e.call f (exprs_of es)) (Low (below + 1)) (λ c us. let l = c.0.1.1 in omega arith)))))

  sound_named : {C : Type 0} → Sound C (λ e. named_at (expr e)) IsOperand (Low (below + 1))
  unfolding named_at
  sound_named = sound_as is_named (λ y us d. d)
      (sound_then sound_name (λ x. sound_if (is_mark m.Open) (sound_call_of x) (sound_read_of x)))

  sound_parenthesis : {C : Type 0} → Sound C (λ e. parenthesis_at (expr e)) IsOperand (Low (below + 1))
  unfolding parenthesis_at
  sound_parenthesis = sound_as is_parenthesis (λ x us d. d) (sound_then (sound_mark m.Open)
      (λ at. sound_then (sound_expr 1 (omega arith)) (λ x. sound_then (sound_mark m.Close) (λ end.
      sound_pure (e.parenthesis at x) (Low (below + 1)) (λ c us. let l = c.0.1.1.0 in omega arith)))))

  operand_begins : IsPrefix IsOperand []
  operand_begins = record {
    more = token_of (Name []) ∷ [];
    tree = a_name;
    whole =
        λ after. record { any = λ k. name_is k after; plain = refl };
  }

  told_operand_by : (k : TokenKind) (t : Token) (ts : Tokens)
      → Told (λ e. operand_by (expr e) k) IsOperand (Low (below + 1)) (t ∷ ts) (operand_by (expr 0) k (t ∷ ts))
  told_operand_by (Number n) t ts = told_by (sound_literal below) (t ∷ ts)
  told_operand_by (Truth n) t ts = told_by (sound_literal below) (t ∷ ts)
  told_operand_by (Duration n) t ts = told_by (sound_literal below) (t ∷ ts)
  told_operand_by (Enumerated n x) t ts = told_by (sound_literal below) (t ∷ ts)
  told_operand_by (Name n) t ts = told_by sound_named (t ∷ ts)
  told_operand_by (Mark m.Open) t ts = told_by sound_parenthesis (t ∷ ts)
  told_operand_by _ t ts =
      told_refuse (λ e. refuse) IsOperand (Low (below + 1)) (t ∷ ts) operand_begins (λ e more same. refl)

  sound_operand : {C : Type 0} → Sound C (λ e. operand_at (expr e)) IsOperand (Low (below + 1))
  unfolding operand_at
  sound_operand = record {
    begins = operand_begins;
    tells = λ c. told_by_kind (λ e. operand_by (expr e)) IsOperand
        (Low (below + 1)) operand_begins (λ t ts. told_operand_by t.kind t ts);
  }

  sound_negated_of : {C : Type 0} (at : ℕ) → Sound C (λ e. negated_of (expr e) at)
      (Seq (IsExpr operand_level) (λ inner. Made (e.unary Negate at inner))) (Low (below + 1))
  unfolding negated_of
  sound_negated_of at = sound_then (sound_expr 9 (omega arith))
      (λ x. sound_pure (e.unary Negate at x) (Low (below + 1)) (λ c us. let l = c.1.1.0 in omega arith))

  after_minus_begins : (at : ℕ) → IsPrefix (AfterMinus at) []
  after_minus_begins at =
      begins_as (Unless is_number (Seq (IsExpr operand_level) (λ inner. Made (e.unary Negate at inner))))
      (AfterMinus at) (is_negated at) [] (negated_begins at)

  sound_after_minus : {C : Type 0} (at : ℕ)
      → Sound C (λ e. if_next is_number (negative_of at) (negated_of (expr e) at)) (AfterMinus at) (Low (below + 1))
  sound_after_minus at = record {
    begins = after_minus_begins at;
    tells = λ c ts.
        told_if is_number (λ e. negative_of at) (λ e. negated_of (expr e) at) (AfterMinus at) (Low (below + 1)) ts
        (λ hit. told_by (sound_negative below at) ts)
        (λ miss. told_as (λ e. negated_of (expr e) at)
        (Unless is_number (Seq (IsExpr operand_level) (λ inner. Made (e.unary Negate at inner)))) (AfterMinus at)
        (Low (below + 1)) (Low (below + 1)) (is_negated at) (λ x us d. d) ts (negated_of (expr 0) at ts)
        (told_unless is_number (λ e. negated_of (expr e) at)
        (Seq (IsExpr operand_level) (λ inner. Made (e.unary Negate at inner))) (Low (below + 1)) (negated_begins at)
        (negated_less at) ts (negated_of (expr 0) at ts) miss (told_by (sound_negated_of at) ts)));
  }

  sound_minus : {C : Type 0} → Sound C (λ e. minus_at (expr e)) IsSigned (Low (below + 1))
  unfolding minus_at
  sound_minus = sound_as is_minus (λ x us d. d) (sound_then (sound_mark m.Minus) (λ at. sound_after_minus at))

  sound_not : {C : Type 0} → Sound C (λ e. not_at (expr e)) IsSigned (Low (below + 1))
  unfolding not_at
  sound_not = sound_as is_inverted (λ x us d. d) (sound_then (sound_keyword w.Not) (λ at. sound_then (sound_expr 9
      (omega arith)) (λ x. sound_pure (e.unary Not at x) (Low (below + 1)) (λ c us. let l = c.1.1.0 in omega arith))))

  sound_unary : {C : Type 0} → Sound C (λ e. unary_at (expr e)) IsSigned (Low (below + 1))
  unfolding unary_at
  sound_unary = sound_if (is_mark m.Minus) sound_minus (sound_if (is_keyword w.Not) sound_not
      (sound_as (λ ts x us o. record { low = λ k le. o.any k; plain = o.plain }) (λ x us d. d) sound_operand))

  -- ---- operators

  -- one operator that binds at least as strongly as this, and its right operand
  record OneOperation (least : ℕ) (a : Expr) (ts : Tokens) (x : Expr) (us : Tokens) : Type 0 where
    pub op : BinaryOperator
    pub right : Expr
    pub rest : Tokens
    pub strong : least ≤ binds_of op
    pub weak : binds_of op ≤ strength a
    pub here : Is operator ts op rest
    pub operand : IsExpr (binds_of op + 1) rest right us
    pub whole : x ≡ e.binary op a right

  -- an expression with the operators after it
  abbrev Grown : ℕ → Expr → Grammar Expr
  Grown least a ts x us = (whole : Tokens) → IsExpr (strength a) whole a ts → least ≤ strength a
      → IsExpr least whole x us

  grown_more : (least : ℕ) (a : Expr) (ts : Tokens) (b : Expr) (us : Tokens) (x : Expr) (vs : Tokens)
      → OneOperation least a ts b us → Grown least b us x vs → Grown least a ts x vs
  grown_more least a ts b us x vs o g whole i le =
      let left : IsExpr (binds_of o.op) whole a ts = weaken (binds_of o.op) o.weak i in
      let made : IsExpr (binds_of o.op) whole (e.binary o.op a o.right) us =
      binary o.op a o.right (omega arith) left o.here o.operand refl in
      let g' : Grown least (e.binary o.op a o.right) us x vs = subst (λ (z : Expr). Grown least z us x vs) o.whole g in
      g' whole made o.strong

  abbrev Behind : ℕ → Expr → Tokens → Type 0
  Behind least a ts = (depth_of a ≤ below + 1) × (next (goes_on (strength a + 1)) ts ≡ false)

  -- this operator
  abbrev This : BinaryOperator → Grammar BinaryOperator
  This op ts x us = Is operator ts x us × (x ≡ op)

  told_this : (t : Token) (ts : Tokens) (op : BinaryOperator) → operator t ≡ Some op
      → Told (λ e. one operator) (This op) Any (t ∷ ts) (Ok (op, ts))
  told_this t ts op eq =
      record { front = t ∷ []; parts = refl; again = λ e more same. rw eq refl; is = λ after. (is eq, refl); low = tt }

  abbrev Right : Expr → BinaryOperator → Grammar Expr
  Right a op = Seq (IsExpr (binds_of op + 1)) (λ b. Made (e.binary op a b))

  one_operation_is : (least : ℕ) (a : Expr) (op : BinaryOperator) → least ≤ binds_of op → binds_of op ≤ strength a
      → (ts : Tokens) (x : Expr) (us : Tokens) → Seq (This op) (Right a) ts x us → OneOperation least a ts x us
  one_operation_is least a op strong weak ts x us (o, vs, (i, same), (b, ws, ib, made eq)) = record {
    op = o;
    right = b;
    rest = vs;
    strong = rw same strong;
    weak = rw same weak;
    here = i;
    operand = ib;
    whole = eq;
  }

  right_begins : (a : Expr) (op : BinaryOperator) → IsPrefix (Right a op) []
  right_begins a op = seq_begins (IsExpr (binds_of op + 1)) (λ b. Made (e.binary op a b)) []
      (expr_begins (binds_of op + 1)) (λ b. made_begins (e.binary op a b))

  told_right : (least : ℕ) (a : Expr) (op : BinaryOperator) → depth_of a ≤ below → (us : Tokens)
      → Told (λ n. expr n (binds_of op + 1) >>= (λ b. pure (e.binary op a b))) (Right a op) (Behind least) us
      (and_then (expr 0 (binds_of op + 1) us) (λ b. pure (e.binary op a b)))
  told_right least a op low us =
      let small = binds_small op in
      then_at (λ n. expr n (binds_of op + 1)) (λ b n. pure (e.binary op a b)) (IsExpr (binds_of op + 1))
      (λ b. Made (e.binary op a b)) (LowExpr below (binds_of op + 1)) (Behind least)
      (λ b. made_begins (e.binary op a b)) us (expr 0 (binds_of op + 1) us)
      (tells (binds_of op + 1) (omega arith) us)
      (λ b vs eq k. let l = k.low.0 in told_pure (e.binary op a b) (Behind least) vs (omega arith, k.low.1))

  told_operation : (least : ℕ) (a : Expr) (t : Token) (ts : Tokens) (op : BinaryOperator) → operator t ≡ Some op
      → least ≤ binds_of op → binds_of op ≤ strength a → depth_of a ≤ below
      → Told (λ e. operation_of (expr e) a) (OneOperation least a) (Behind least) (t ∷ ts)
      (operation_of (expr 0) a (t ∷ ts))
  unfolding operation_of
  told_operation least a t ts op eq strong weak low =
      told_as (λ e. operation_of (expr e) a) (Seq (This op) (Right a)) (OneOperation least a) (Behind least)
      (Behind least) (one_operation_is least a op strong weak) (λ x us d. d) (t ∷ ts) (operation_of (expr 0) a (t ∷ ts))
      (then_at (λ e. one operator) (λ o n. expr n (binds_of o + 1) >>= (λ b. pure (e.binary o a b))) (This op) (Right a)
      Any (Behind least) (right_begins a) (t ∷ ts) (one operator (t ∷ ts))
      (rw eq (told_this t ts op eq)) (λ o us same k. told_right least a o low us))

  -- ---- tests

  one_begun : (least : ℕ) (a : Expr) (t : Token) (op : BinaryOperator) → operator t ≡ Some op → least ≤ binds_of op
      → binds_of op ≤ strength a → IsPrefix (OneOperation least a) (t ∷ [])
  one_begun least a t op eq strong weak = record {
    more = token_of (Name []) ∷ [];
    tree = e.binary op a a_name;
    whole = λ after. record {
      op = op;
      right = a_name;
      rest = token_of (Name []) ∷ after;
      strong = strong;
      weak = weak;
      here = is eq;
      operand = name_is (binds_of op + 1) after;
      whole = refl;
    };
  }

  within_is : (least : ℕ) (op : BinaryOperator) → is_within least (Some op) ≡ true → least ≤ binds_of op
  within_is least op eq = leb-true _ _ eq

  not_within : (least : ℕ) (op : BinaryOperator) → is_within (least + 1) (Some op) ≡ false → binds_of op ≤ least
  not_within least op eq = let h = leb-false _ _ eq in omega arith

  deeper_still : (d : ℕ) → ltb (below + 0) d ≡ false → (e : ℕ) → ltb (below + e) d ≡ false
  deeper_still d eq e = let h = ltb-false _ _ eq in le-ltb _ _ (omega arith)

  told_step_by : (least : ℕ) (a : Expr) (t : Token) (ts : Tokens) (o : Option BinaryOperator) → operator t ≡ o
      → is_within least o ≡ true → is_within (strength a + 1) o ≡ false
      → Told (λ e. operation_within (expr e) (below + e) a) (OneOperation least a) (Behind least) (t ∷ ts)
      (operation_within (expr 0) (below + 0) a (t ∷ ts))
  told_step_by least a t ts None at go stop = absurd cc
  told_step_by least a t ts (Some op) at go stop =
      let strong = within_is least op go in
      let weak = not_within (strength a) op stop in
      told_guard (λ e. ltb (below + e) (depth_of a)) (λ e. operation_of (expr e) a) (OneOperation least a)
      (Behind least) t ts (one_begun least a t op at strong weak) (deeper_still (depth_of a))
      (λ fits. let low = ltb-false _ _ fits in told_operation least a t ts op at strong weak (omega arith))

  told_step : (least : ℕ) (a : Expr) (ts : Tokens) → Behind least a ts → next (goes_on least) ts ≡ true
      → Told (λ e. operation_within (expr e) (below + e) a) (OneOperation least a) (Behind least) ts
      (operation_within (expr 0) (below + 0) a ts)
  told_step least a [] i go = absurd cc
  told_step least a (t ∷ ts) i go = told_step_by least a t ts (operator t) refl go i.1

  one_less : (least : ℕ) (a : Expr) (ts : Tokens) (x : Expr) (us : Tokens) → OneOperation least a ts x us
      → length us < length ts
  one_less least a ts x us o = let a' = is_less o.here in let b' = expr_less o.operand in omega arith

  grown_stop : (least : ℕ) (a : Expr) (ts : Tokens) → Grown least a ts a ts
  grown_stop least a ts whole i le = weaken least le i

  abbrev Over : ℕ → Expr → Tokens → Type 0
  Over least x us = Behind least x us × (next (goes_on least) us ≡ false)

  told_operations : (least : ℕ) (a : Expr) (ts : Tokens) → Behind least a ts
      → Told (λ e. operations_of (expr e) (below + e) least a) (Grown least a) (Over least) ts
      (operations_of (expr 0) (below + 0) least a ts)
  told_operations least a ts i =
      told_turns (goes_on least) (λ e s. operation_within (expr e) (below + e) s) (Grown least) (OneOperation least)
      (Behind least) (grown_stop least) (grown_more least) (one_less least) (told_step least) a ts i

  operators_are : (least : ℕ) → least ≤ 8 → (ts : Tokens) (x : Expr) (us : Tokens) → Seq IsSigned (Grown least) ts x us
      → IsExpr least ts x us
  operators_are least le ts x us s = let p = s.2.plain in s.3 ts (rw p (s.2.low 8 (omega arith))) (rw p le)

  pub told_operators : (least : ℕ) → least ≤ 8
      → Tells (λ e. operators_at (expr e) (below + e) least) (IsExpr least) (LowExpr (below + 1) least)
  unfolding operators_at
  told_operators least le ts = told_as (λ e. operators_at (expr e) (below + e) least) (Seq IsSigned (Grown least))
      (IsExpr least) (Over least) (LowExpr (below + 1) least) (operators_are least le) (λ x us d. (d.0.0, d.1)) ts
      (operators_at (expr 0) (below + 0) least ts)
      (then_at (λ e. unary_at (expr e)) (λ a e. operations_of (expr e) (below + e) least a) IsSigned (Grown least)
      (Low (below + 1)) (Over least)
      (λ a. record { more = []; tree = a; whole = λ after. grown_stop least a after }) ts (unary_at (expr 0) ts)
      (told_by sound_unary ts)
      (λ a us eq k. let p = (k.is us).plain in told_operations least a us (k.low, rw p (none_past us))))
    where
      none_past : (us : Tokens) → next (goes_on (8 + 1)) us ≡ false
      none_past us = none_binds us

  pub told_operand : Tells (λ e. operand_at (expr e)) (IsExpr 9) (LowExpr (below + 1) 9)
  told_operand ts = told_as (λ e. operand_at (expr e)) IsOperand (IsExpr 9) (Low (below + 1)) (LowExpr (below + 1) 9)
      (λ ts x us o. o.any 9) (λ x us d. (d, none_binds us)) ts (operand_at (expr 0) ts) (told_by sound_operand ts)

-- ---- if no depth is left

operand_refuses : (expr : ℕ → Parser Expr) (k : TokenKind) (ts : Tokens) → starts_operand k ≡ false
    → operand_by expr k ts ≡ Err (Unexpected (length ts))
operand_refuses expr (Number n) ts eq = absurd cc
operand_refuses expr (Truth n) ts eq = absurd cc
operand_refuses expr (Duration n) ts eq = absurd cc
operand_refuses expr (Enumerated n x) ts eq = absurd cc
operand_refuses expr (Name n) ts eq = absurd cc
operand_refuses expr (Mark m.Open) ts eq = let h = mark_same m.Open in absurd cc
operand_refuses expr _ ts eq = refl

no_sign : (least : ℕ) (a b : Bool) → leb least 8 ≡ true → leb least 8 && (a || b) ≡ false → (a ≡ false) × (b ≡ false)
no_sign least a b le eq = or_false a b (rw le at eq)

pub operand_at_refuses : (expr : ℕ → Parser Expr) (ts : Tokens) → next starts_operand ts ≡ false
    → operand_at expr ts ≡ Err (Unexpected (length ts))
unfolding operand_at
operand_at_refuses expr [] eq = refl
operand_at_refuses expr (t ∷ ts) eq = operand_refuses expr t.kind (t ∷ ts) eq

unary_refuses : (expr : ℕ → Parser Expr) (ts : Tokens) → next starts_operand ts ≡ false
    → next (is_mark m.Minus) ts ≡ false → next (is_keyword w.Not) ts ≡ false
    → unary_at expr ts ≡ Err (Unexpected (length ts))
unfolding unary_at
unary_refuses expr ts a b c = rw (b, c) (operand_at_refuses expr ts a)

-- a token that doesn't begin an expression begins none of any level
starts_nothing : (least : ℕ) (ts : Tokens) → next (starts_expr least) ts ≡ false → (next starts_operand ts ≡ false)
    × (least ≤ 8 → (next (is_mark m.Minus) ts ≡ false) × (next (is_keyword w.Not) ts ≡ false))
starts_nothing least [] eq = (refl, λ le. (refl, refl))
starts_nothing least (t ∷ ts) eq = let o =
    or_false (starts_operand t.kind) (leb least 8 && (is_mark m.Minus t.kind || is_keyword w.Not t.kind)) eq in
    (o.0, λ le. no_sign least (is_mark m.Minus t.kind) (is_keyword w.Not t.kind) (le-leb _ _ le) o.1)

operators_refuse : (expr : ℕ → Parser Expr) (below least : ℕ) (ts : Tokens)
    → unary_at expr ts ≡ Err (Unexpected (length ts)) → operators_at expr below least ts ≡ Err (Unexpected (length ts))
unfolding operators_at
operators_refuse expr below least ts eq = rw eq refl

pub expr_refuses : (depth least : ℕ) (ts : Tokens) → next (starts_expr least) ts ≡ false
    → expr_at depth least ts ≡ Err (Unexpected (length ts))
unfolding expr_at
expr_refuses zero least ts eq = rw eq refl
expr_refuses (suc below) least ts eq =
    let o = starts_nothing least ts eq in
    elim (cases_Bool (ltb 8 least)) [
      | inl hit ↦ rw hit (operand_at_refuses (expr_at below) ts o.0)
      | inr miss ↦ let s = o.1 (ltb-false _ _ miss) in
          rw miss (operators_refuse (expr_at below) below least ts (unary_refuses (expr_at below) ts o.0 s.0 s.1))
    ]

literal_begun : (least : ℕ) (t : Token) (l : Literal) → literal_of t ≡ Some l → IsPrefix (IsExpr least) (t ∷ [])
literal_begun least t l eq = record { more = []; tree = e.literal l; whole = λ after. literal l (is eq) refl }

abbrev close_token : Token
close_token = token_of (Mark m.Close)

operand_begun : (least : ℕ) (t : Token) (k : TokenKind) → t.kind ≡ k → starts_operand k ≡ true
    → IsPrefix (IsExpr least) (t ∷ [])
operand_begun least t (Number n) eq yes' =
    literal_begun least t (literals.Number (unsigned t.start n)) (ap (literal_in t.start) eq)
operand_begun least t (Truth b) eq yes' = literal_begun least t (literals.Truth t.start b) (ap (literal_in t.start) eq)
operand_begun least t (Duration d) eq yes' =
    literal_begun least t (literals.Duration t.start d) (ap (literal_in t.start) eq)
operand_begun least t (Enumerated n x) eq yes' =
    literal_begun least t (literals.Enumerated (value_at t.start (Some n) x)) (ap (literal_in t.start) eq)
operand_begun least t (Name x) eq yes' =
    record {
      more = [];
      tree = e.read (e.variable (record { name = x; place = t.start }) e.no_selectors);
      whole =
          λ after. variable (e.variable (record { name = x; place = t.start }) e.no_selectors)
          (selected (record { name = x; place = t.start }) [] (is (ap (name_in t.start) eq)) no_selector refl) refl;
    }
operand_begun least t (Mark k) eq yes' =
    let opens : t.kind ≡ Mark m.Open = eq ∙ mark_is m.Open (Mark k) yes' in
    record {
      more = token_of (Name []) ∷ close_token ∷ [];
      tree = e.parenthesis t.start a_name;
      whole = λ after. parenthesis t.start a_name (is (mark_at m.Open t opens)) (name_is 1 (close_token ∷ after))
          (0, is (mark_at m.Close close_token refl)) refl;
    }
operand_begun least t _ eq yes' = absurd cc

sign_begun : (least : ℕ) (t : Token) → least ≤ 8 → (is_mark m.Minus t.kind ≡ true) ⊎ (is_keyword w.Not t.kind ≡ true)
    → IsPrefix (IsExpr least) (t ∷ [])
sign_begun least t le (inl sign) =
    record {
      more = token_of (Name []) ∷ [];
      tree = e.unary Negate t.start a_name;
      whole = λ after.
          negated t.start a_name le (is (mark_at m.Minus t (mark_is m.Minus t.kind sign))) refl (name_is 9 after) refl;
    }
sign_begun least t le (inr word) =
    record {
      more = token_of (Name []) ∷ [];
      tree = e.unary Not t.start a_name;
      whole = λ after.
          inverted t.start a_name le (is (keyword_at w.Not t (keyword_is w.Not t.kind word))) (name_is 9 after) refl;
    }

expr_begun : (least : ℕ) (t : Token) → starts_expr least t.kind ≡ true → IsPrefix (IsExpr least) (t ∷ [])
expr_begun least t eq =
    elim (or_true (starts_operand t.kind) (leb least 8 && (is_mark m.Minus t.kind || is_keyword w.Not t.kind)) eq) [
      | inl a ↦ operand_begun least t t.kind refl a
      | inr b ↦ let c = and_parts (leb least 8) (is_mark m.Minus t.kind || is_keyword w.Not t.kind) b in
          sign_begun least t (leb-true _ _ c.0) (or_true (is_mark m.Minus t.kind) (is_keyword w.Not t.kind) c.1)
    ]

-- ---- all depths

abbrev Deeper : ℕ → ℕ → Family Expr
Deeper below least n = λ ts.
    cond (ltb 8 least) (operand_at (expr_at (below + n)) ts) (operators_at (expr_at (below + n)) (below + n) least ts)

deeper_is : (below least n : ℕ) (ts : Tokens) → expr_at (suc below + n) least ts ≡ Deeper below least n ts
unfolding expr_at
deeper_is below least n ts = let h : suc below + n ≡ suc (below + n) = omega arith in rw h refl

zero_is : (least n : ℕ) (ts : Tokens) → expr_at (0 + n) least ts ≡ expr_at n least ts
zero_is least n ts = let h : 0 + n ≡ n = omega arith in rw h refl

none_left : (least : ℕ) (ts : Tokens) → expr_at (0 + 0) least ts ≡ too_deep (starts_expr least) ts
unfolding expr_at
none_left least ts = refl

abbrev ToldAt : ℕ → Type 0
ToldAt depth = (least : ℕ) → least ≤ 9 → Tells (λ n. expr_at (depth + n) least) (IsExpr least) (LowExpr depth least)

at_operand : (below : ℕ) → ToldAt below → (least : ℕ) → 8 < least → least ≤ 9 → (ts : Tokens)
    → Told (λ n. operand_at (expr_at (below + n))) (IsExpr least) (LowExpr (suc below) least) ts
    (operand_at (expr_at (below + 0)) ts)
at_operand below tells least more le ts =
    let h : least ≡ 9 = omega arith in
    told_as (λ n. operand_at (expr_at (below + n))) (IsExpr 9) (IsExpr least) (LowExpr (below + 1) 9)
    (LowExpr (suc below) least) (λ ts x us i. weaken least le i) (λ x us d. let l = d.0 in (omega arith, rw h d.1))
    ts (operand_at (expr_at (below + 0)) ts)
    (told_operand below (λ n. expr_at (below + n)) tells ts)

at_operators : (below : ℕ) → ToldAt below → (least : ℕ) → least ≤ 8 → (ts : Tokens)
    → Told (λ n. operators_at (expr_at (below + n)) (below + n) least) (IsExpr least) (LowExpr (suc below) least) ts
    (operators_at (expr_at (below + 0)) (below + 0) least ts)
at_operators below tells least low ts =
    told_as (λ n. operators_at (expr_at (below + n)) (below + n) least) (IsExpr least) (IsExpr least)
    (LowExpr (below + 1) least) (LowExpr (suc below) least) (λ ts x us i. i)
    (λ x us d. let l = d.0 in (omega arith, d.1)) ts (operators_at (expr_at (below + 0)) (below + 0) least ts)
    (told_operators below (λ n. expr_at (below + n)) tells least low ts)

told_deeper : (below : ℕ) → ToldAt below → ToldAt (suc below)
told_deeper below tells least le ts =
    rw (deeper_is below least 0 ts) (told_agree (Deeper below least) (λ n. expr_at (suc below + n) least) (IsExpr least)
    (LowExpr (suc below) least) ts (Deeper below least 0 ts) (λ n more same. deeper_is below least n more)
    (elim (cases_Bool (ltb 8 least)) [
      | inl hit ↦ rw hit (told_agree (λ n. operand_at (expr_at (below + n))) (Deeper below least) (IsExpr least)
          (LowExpr (suc below) least) ts (operand_at (expr_at (below + 0)) ts) (λ n more same. rw hit refl)
          (at_operand below tells least (ltb-true _ _ hit) le ts))
      | inr miss ↦ rw miss (told_agree (λ n. operators_at (expr_at (below + n)) (below + n) least) (Deeper below least)
          (IsExpr least) (LowExpr (suc below) least) ts (operators_at (expr_at (below + 0)) (below + 0) least ts)
          (λ n more same. rw miss refl) (at_operators below tells least (ltb-false _ _ miss) ts))
    ]))

pub told_expr : (depth : ℕ) → ToldAt depth
told_expr zero least le = told_too_deep (starts_expr least) (λ n. expr_at (zero + n) least) (IsExpr least)
    (LowExpr zero least) (expr_begins least) (expr_begun least) (none_left least)
    (λ n ts eq. zero_is least n ts ∙ expr_refuses n least ts eq)
told_expr (suc below) least le = told_deeper below (told_expr below) least le

-- ---- variables

pub variable_begins : IsPrefix IsVariable []
variable_begins = record {
  more = token_of (Name []) ∷ [];
  tree = e.variable an_identifier e.no_selectors;
  whole =
      λ after. a_variable_is after;
}

abbrev VariableBelow : ℕ → Family Variable
VariableBelow below n = one name >>= (λ x. variable_of (expr_at (below + n)) x)

variable_deeper : (below n : ℕ) (ts : Tokens) → variable_at (suc below + n) ts ≡ VariableBelow below n ts
unfolding variable_at
variable_deeper below n ts = let h : suc below + n ≡ suc (below + n) = omega arith in rw h refl

variable_refuses : (depth : ℕ) (ts : Tokens) → next is_name ts ≡ false
    → variable_at depth ts ≡ Err (Unexpected (length ts))
unfolding variable_at
variable_refuses zero ts eq = rw eq refl
variable_refuses (suc below) [] eq = refl
variable_refuses (suc below) (t ∷ ts) eq = rw (not_name t.start t.kind eq) refl
  where
    not_name : (at : ℕ) (k : TokenKind) → is_name k ≡ false → name_in at k ≡ None
    not_name at (Name x) eq = absurd cc
    not_name at _ eq = refl

variable_zero : (n : ℕ) (ts : Tokens) → variable_at (0 + n) ts ≡ variable_at n ts
variable_zero n ts = let h : 0 + n ≡ n = omega arith in rw h refl

variable_none : (ts : Tokens) → variable_at (0 + 0) ts ≡ too_deep is_name ts
unfolding variable_at
variable_none ts = refl

variable_begun : (t : Token) (k : TokenKind) → t.kind ≡ k → is_name k ≡ true → IsPrefix IsVariable (t ∷ [])
variable_begun t (Name x) eq named' =
    record {
      more = [];
      tree = e.variable (record { name = x; place = t.start }) e.no_selectors;
      whole =
          λ after. selected (record { name = x; place = t.start }) [] (is (ap (name_in t.start) eq)) no_selector refl;
    }
variable_begun t _ eq named' = absurd cc

is_selected : (ts : Tokens) (v : Variable) (us : Tokens) → Seq (Is name) Selected ts v us → IsVariable ts v us
is_selected ts v us s = selected_is s.0 ts s.1 us v s.2 s.3

pub sound_selected : {C : Type 0} (depth : ℕ) (x : Identifier)
    → Sound C (λ n. variable_of (expr_at (depth + n)) x) (Selected x) (LowVariable (depth + 1))
sound_selected depth x = sound_variable_of depth (λ n. expr_at (depth + n)) (told_expr depth) x

pub told_variable : (depth : ℕ) → Tells (λ n. variable_at (depth + n)) IsVariable (LowVariable depth)
told_variable zero ts = told_too_deep is_name (λ n. variable_at (zero + n)) IsVariable (LowVariable zero)
    variable_begins (λ t eq. variable_begun t t.kind refl eq) variable_none
    (λ n ts eq. variable_zero n ts ∙ variable_refuses n ts eq) ts
told_variable (suc below) ts =
    rw (variable_deeper below 0 ts) (told_agree (VariableBelow below) (λ n. variable_at (suc below + n)) IsVariable
    (LowVariable (suc below)) ts (VariableBelow below 0 ts) (λ n more same. variable_deeper below n more)
    (told_by (sound_as is_selected (λ v us d. let l = d in omega arith)
    (sound_then sound_name (λ x. sound_selected below x))) ts))
