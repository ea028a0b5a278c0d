-- A part that is read as a statement without statements in it is one, and the tokens before a refusal begin one.
use Rattle.std.proofs.Common.{◌≡◌, ℕ, zero, suc, ◌+◌, ◌-◌, ◌≤◌, max, Bool, true, false, ◌||◌, List, [], ◌∷◌, ◌++◌}
use Rattle.std.proofs.Common.{length, Option, Some, None, Err, refl, sym, ap, subst, arith, append_assoc}
use Rattle.st_types.specs.declared.identifier.Identifier.{Identifier}
use Rattle.st_lex.specs.declared.token.Token.{Token}
use Rattle.st_lex.specs.declared.token.TokenKind.{TokenKind}
use Rattle.st_lex.specs.declared.token.TokenKind.TheVariants.{Name, Keyword, Mark}
use Rattle.st_lex.specs.declared.mark.Mark.{Mark as MarkType}
use Rattle.st_lex.specs.declared.mark.Mark.TheVariants as m
use Rattle.st_lex.specs.declared.keyword.Keyword.{Keyword as KeywordType}
use Rattle.st_lex.specs.declared.keyword.Keyword.TheVariants as w
use Rattle.st_types.specs.Expressions.{Expr, Variable, selectors_of}
use Rattle.st_types.specs.Statements.{Argument, Stmt, Arm, CaseArm, stmts_of, case_arms_of}
use Rattle.st_types.specs.Statements as s
use Rattle.st_types.specs.Depths.{depth_of, depth_of_variable, depth_of_step, depth_of_argument, deepest_argument}
use Rattle.st_types.specs.Depths.{depth_of_stmt, deepest_stmt, deepest_case_arm}
use Rattle.st_parse.specs.Tokens.{Tokens, next, Is, is, Passes, mark, keyword, name, is_mark, is_keyword}
use Rattle.st_parse.specs.Tokens.{same_mark}
use Rattle.st_parse.specs.declared.fault.Refusal.TheVariants.{Unexpected}
use Rattle.st_parse.specs.Parsers.{◌>>=◌, ◌>>◌, pure, one, too_deep}
use Rattle.st_parse.specs.ExpressionReading.{expr_at, variable_at, variable_of, starts_selector}
use Rattle.st_parse.specs.StatementReading.{exit_at, return_at, assign_of, given_of, copied_of, argument_at}
use Rattle.st_parse.specs.StatementReading.{arguments_at, invoke_of, named_at, by_at, step_at, bounds_at}
use Rattle.st_parse.specs.StatementReading.{goes_on_named, named_of, named_line_of}
use Rattle.st_parse.specs.Laws.{Grammar, IsPrefix}
use Rattle.st_parse.specs.Expressions.{IsExpr, IsVariable, no_selector, selector, member, subscript, selected}
use Rattle.st_parse.specs.Statements.{IsArgument, given, copied, IsMoreArguments, no_more_arguments, next_argument}
use Rattle.st_parse.specs.Statements.{IsArguments, no_argument, argument, IsStep, no_step, step, IsStmt, assign}
use Rattle.st_parse.specs.Statements.{invoke, exit, leave, empty}
use Rattle.st_parse.proofs.Sound.{Family, Tells, Seq, Made, made, told_agree, told_too_deep, told_shift}
use Rattle.st_parse.proofs.SoundReadings.{Sound, told_by, sound_then, sound_pure, sound_as, sound_if, sound_mark}
use Rattle.st_parse.proofs.SoundReadings.{sound_keyword, sound_name, token_of, an_identifier, mark_at, keyword_at}
use Rattle.st_parse.proofs.SoundLists.{sound_listed}
use Rattle.st_parse.proofs.ExpressionFacts.{depth_some, expr_begins, a_name, name_is, or_false}
use Rattle.st_parse.proofs.SoundExpressions.{LowExpr, LowVariable, Selected, selected_is, sound_selected}
use Rattle.st_parse.proofs.SoundExpressions.{told_expr, told_variable, variable_begins}
use Rattle.st_parse.proofs.StatementFacts.{IsLine, argument_less, each_argument}
use Rattle.st_types.specs.Expressions as e
use Rattle.st_parse.proofs.CompleteExpressions.{variable_of_complete}

abbrev pub LowStmt : ℕ → Stmt → Tokens → Type 0
LowStmt depth x us = depth_of_stmt x ≤ depth

abbrev pub LowStmts : ℕ → List Stmt → Tokens → Type 0
LowStmts depth xs us = deepest_stmt (stmts_of xs) ≤ depth

abbrev pub LowArgument : ℕ → Argument → Tokens → Type 0
LowArgument depth a us = depth_of_argument a ≤ depth

abbrev pub LowArm : ℕ → Arm → Tokens → Type 0
LowArm depth a us = max (depth_of a.0) (deepest_stmt a.1) ≤ depth

abbrev pub semicolon : Token
semicolon = token_of (Mark m.Semicolon)

abbrev pub key : KeywordType → Token
key x = token_of (Keyword x)

abbrev pub sign : MarkType → Token
sign x = token_of (Mark x)

abbrev pub a_name_token : Token
a_name_token = token_of (Name [])

pub passes_key : (x : KeywordType) (after : Tokens) → Passes (keyword x) (key x ∷ after) after
passes_key x after = (0, is (keyword_at x (key x) refl))

pub passes_sign : (x : MarkType) (after : Tokens) → Passes (mark x) (sign x ∷ after) after
passes_sign x after = (0, is (mark_at x (sign x) refl))

-- ---- leaves

is_exit : (ts : Tokens) (x : Stmt) (us : Tokens) → Seq (Is (keyword w.Exit)) (λ at. Made (s.EXIT at)) ts x us
    → IsStmt ts x us
is_exit ts x us (at, vs, o, made eq) = exit at o eq

pub sound_exit : {C : Type 0} (n : ℕ) → Sound C (λ e. exit_at) IsStmt (LowStmt (n + 1))
unfolding exit_at
sound_exit n = sound_as is_exit (λ x us d. d)
    (sound_then (sound_keyword w.Exit) (λ at. sound_pure (s.EXIT at) (LowStmt (n + 1)) (λ c us. omega arith)))

is_return : (ts : Tokens) (x : Stmt) (us : Tokens) → Seq (Is (keyword w.Return)) (λ at. Made s.RETURN) ts x us
    → IsStmt ts x us
is_return ts x us (at, vs, o, made eq) = leave (at, o) eq

pub sound_return : {C : Type 0} (n : ℕ) → Sound C (λ e. return_at) IsStmt (LowStmt (n + 1))
unfolding return_at
sound_return n = sound_as is_return (λ x us d. d)
    (sound_then (sound_keyword w.Return) (λ at. sound_pure s.RETURN (LowStmt (n + 1)) (λ c us. omega arith)))

-- ---- expressions one level down

abbrev AfterName : Identifier → Grammar Stmt
AfterName x us y vs = (ts : Tokens) → Is name ts x us → IsStmt ts y vs

abbrev AfterParameter : Identifier → Grammar Argument
AfterParameter x us y vs = (ts : Tokens) → Is name ts x us → IsArgument ts y vs

is_assign : (x : Identifier) (us : Tokens) (y : Stmt) (vs : Tokens)
    → Seq (Selected x) (λ v. Seq (Is (mark m.Assign)) (λ at. Seq (IsExpr 1) (λ value. Made (s.assign v value)))) us y vs
    → AfterName x us y vs
is_assign x us y vs (v, ws, p, (at, zs, o, (value, qs, i, made eq))) ts n =
    assign v value (selected_is x ts us ws v n p) (at, o) i eq

is_invoke : (f : Identifier) (us : Tokens) (y : Stmt) (vs : Tokens) → Seq (Is (mark m.Open))
    (λ at. Seq IsArguments (λ xs. Seq (Is (mark m.Close)) (λ end. Made (s.invoke f xs)))) us y vs → AfterName f us y vs
is_invoke f us y vs (at, ws, o, (xs, zs, i, (end, qs, c, made eq))) ts n = invoke f xs n (at, o) i (end, c) eq

is_given : (x : Identifier) (us : Tokens) (y : Argument) (vs : Tokens)
    → Seq (Is (mark m.Assign)) (λ at. Seq (IsExpr 1) (λ v. Made (s.given x v))) us y vs → AfterParameter x us y vs
is_given x us y vs (at, ws, o, (v, zs, i, made eq)) ts n = given x v n (at, o) i eq

is_copied : (x : Identifier) (us : Tokens) (y : Argument) (vs : Tokens)
    → Seq (Is (mark m.Arrow)) (λ at. Seq IsVariable (λ v. Made (s.copied x v))) us y vs → AfterParameter x us y vs
is_copied x us y vs (at, ws, o, (v, zs, i, made eq)) ts n = copied x v n (at, o) i eq

no_arguments : (ts : Tokens) (xs : List Argument) (us : Tokens) → Made [] ts xs us → IsArguments ts xs us
no_arguments ts xs us (made eq) = subst (λ (zs : List Argument). IsArguments ts zs ts) (sym eq) no_argument

is_by : (ts : Tokens) (o : Option Expr) (us : Tokens)
    → Seq (Is (keyword w.By)) (λ at. Seq (IsExpr 1) (λ x. Made (Some x))) ts o us → IsStep ts o us
is_by ts o us (at, vs, p, (x, ws, i, made eq)) = step x (at, p) i eq

no_by : (ts : Tokens) (o : Option Expr) (us : Tokens) → Made None ts o us → IsStep ts o us
no_by ts o us (made eq) = subst (λ (z : Option Expr). IsStep ts z ts) (sym eq) no_step

abbrev pub Bounds : Grammar (Expr × Expr × Option Expr)
Bounds ts y us = (vs : Tokens) × (ws : Tokens) × (zs : Tokens) × IsExpr 1 ts y.0 vs × Passes (keyword w.To) vs ws
    × IsExpr 1 ws y.1 zs × IsStep zs y.2 us

is_bounds : (ts : Tokens) (y : Expr × Expr × Option Expr) (us : Tokens)
    → Seq (IsExpr 1) (λ start. Seq (Is (keyword w.To)) (λ at. Seq (IsExpr 1)
    (λ limit. Seq IsStep (λ by. Made (start, limit, by))))) ts y us → Bounds ts y us
is_bounds ts y us (start, vs, i, (at, ws, t, (limit, zs, j, (by, qs, st, made eq)))) =
    rw eq (vs, ws, zs, i, (at, t), j, st)

abbrev pub LowStep : ℕ → Option Expr → Tokens → Type 0
LowStep depth o us = depth_of_step o ≤ depth

abbrev pub LowBounds : ℕ → Expr × Expr × Option Expr → Tokens → Type 0
LowBounds depth b us = (depth_of b.0 ≤ depth) × (depth_of b.1 ≤ depth) × (depth_of_step b.2 ≤ depth)

abbrev pub LowChoices : ℕ → List CaseArm × List Stmt → Tokens → Type 0
LowChoices depth y us = (deepest_case_arm (case_arms_of y.0) ≤ depth) × (deepest_stmt (stmts_of y.1) ≤ depth)

module _ (below : ℕ) where
  pub sound_expr : {C : Type 0} → Sound C (λ n. expr_at (below + n) 1) (IsExpr 1) (LowExpr below 1)
  sound_expr = record { begins = expr_begins 1; tells = λ c. told_expr below 1 (omega arith) }

  sound_variable : {C : Type 0} → Sound C (λ n. variable_at (below + n)) IsVariable (LowVariable below)
  sound_variable = record { begins = variable_begins; tells = λ c. told_variable below }

  abbrev Target : Identifier → Family Variable
  Target x n = variable_of (expr_at ((below + n) - 1)) x

  abbrev shifted : ℕ → ℕ
  shifted n = ((below + n) - 1) - (below - 1)

  target_is : (x : Identifier) (n : ℕ) (ts : Tokens)
      → Target x n ts ≡ variable_of (expr_at ((below - 1) + shifted n)) x ts
  target_is x n ts = let h : (below + n) - 1 ≡ (below - 1) + shifted n = omega arith in
      ap (λ (k : ℕ). variable_of (expr_at k) x ts) h

  told_target : (x : Identifier) → Tells (Target x) (Selected x) (LowVariable ((below - 1) + 1))
  told_target x ts =
      let h : shifted 0 ≡ 0 = omega arith in
      let k : (below + 0) - 1 ≡ (below - 1) + 0 = omega arith in
      rw k (told_agree (λ n. variable_of (expr_at ((below - 1) + shifted n)) x) (Target x) (Selected x) (LowVariable
      ((below - 1) + 1)) ts (variable_of (expr_at ((below - 1) + 0)) x ts) (λ n more same. target_is x n more)
      (told_shift (λ n. variable_of (expr_at ((below - 1) + n)) x) shifted (Selected x) (LowVariable ((below - 1) + 1))
      h ts (variable_of (expr_at ((below - 1) + 0)) x ts) (told_by (sound_selected (below - 1) x) ts)))

  sound_target : {C : Type 0} (x : Identifier) → Sound C (Target x) (Selected x) (LowVariable ((below - 1) + 1))
  sound_target x = record { begins = (sound_selected {C = Unit {0}} (below - 1) x).begins; tells = λ c. told_target x }

  assign_low : (d v x : ℕ) → v ≤ (d - 1) + 1 → x ≤ d → 1 ≤ x → max v x + 1 ≤ d + 1
  assign_low d v x a b c = omega arith

  sound_assign_of : {C : Type 0} (x : Identifier)
      → Sound C (λ n. assign_of (below + n) x) (AfterName x) (LowStmt (below + 1))
  unfolding assign_of
  sound_assign_of x = sound_as (is_assign x) (λ y us d. d)
      (sound_then (sound_target x) (λ v. sound_then (sound_mark m.Assign) (λ at. sound_then sound_expr (λ value.
      sound_pure (s.assign v value) (LowStmt (below + 1))
      (λ c us. assign_low below (depth_of_variable v) (depth_of value) c.0.0.1.1 c.1.1.0 (depth_some value))))))

  sound_given_of : {C : Type 0} (x : Identifier)
      → Sound C (λ n. given_of (below + n) x) (AfterParameter x) (LowArgument below)
  unfolding given_of
  sound_given_of x = sound_as (is_given x) (λ y us d. d) (sound_then (sound_mark m.Assign)
      (λ at. sound_then sound_expr (λ v. sound_pure (s.given x v) (LowArgument below) (λ c us. c.1.1.0))))

  sound_copied_of : {C : Type 0} (x : Identifier)
      → Sound C (λ n. copied_of (below + n) x) (AfterParameter x) (LowArgument below)
  unfolding copied_of
  sound_copied_of x = sound_as (is_copied x) (λ y us d. d) (sound_then (sound_mark m.Arrow)
      (λ at. sound_then sound_variable (λ v. sound_pure (s.copied x v) (LowArgument below) (λ c us. c.1.1))))

  sound_argument : {C : Type 0} → Sound C (λ n. argument_at (below + n)) IsArgument (LowArgument below)
  unfolding argument_at
  sound_argument = sound_as (λ ts y us p. p.3 ts p.2) (λ y us d. d)
      (sound_then sound_name (λ x. sound_if (is_mark m.Assign) (sound_given_of x) (sound_copied_of x)))

  sound_arguments : {C : Type 0}
      → Sound C (λ n. arguments_at (below + n)) IsArguments (λ xs us. deepest_argument xs ≤ below)
  unfolding arguments_at
  sound_arguments = sound_if (is_mark m.Close)
      (sound_as no_arguments (λ x us d. d) (sound_pure [] (λ xs us. deepest_argument xs ≤ below) (λ c us. omega arith)))
      (sound_as (λ ts xs us p. p) (λ xs us d. each_argument below xs d.0)
      (sound_listed (λ n. argument_at (below + n)) IsArgument IsMoreArguments IsArguments
      (λ x. depth_of_argument x ≤ below) (λ ts. no_more_arguments) (λ ts us x vs xs ws c o r. next_argument c o r)
      (λ ts x us o. argument_less o) (λ ts x us xs vs o r. argument o r) sound_argument))

  sound_invoke_of : {C : Type 0} (f : Identifier)
      → Sound C (λ n. invoke_of (below + n) f) (AfterName f) (LowStmt (below + 1))
  unfolding invoke_of
  sound_invoke_of f = sound_as (is_invoke f) (λ y us d. d)
      (sound_then (sound_mark m.Open) (λ at. sound_then sound_arguments (λ xs. sound_then (sound_mark m.Close) (λ end.
      sound_pure (s.invoke f xs) (LowStmt (below + 1)) (λ c us. let l = c.0.1.1 in omega arith)))))

  sound_named_of : {C : Type 0} (x : Identifier)
      → Sound C (λ n. named_of (below + n) x) (AfterName x) (LowStmt (below + 1))
  unfolding named_of
  sound_named_of x = sound_if (is_mark m.Open) (sound_invoke_of x) (sound_assign_of x)

  pub sound_named : {C : Type 0} → Sound C (λ n. named_at (below + n)) IsStmt (LowStmt (below + 1))
  unfolding named_at
  sound_named = sound_as (λ ts y us p. p.3 ts p.2) (λ y us d. d) (sound_then sound_name (λ x. sound_named_of x))

  sound_by : {C : Type 0} → Sound C (λ n. by_at (below + n)) IsStep (LowStep below)
  unfolding by_at
  sound_by = sound_as is_by (λ x us d. d) (sound_then (sound_keyword w.By)
      (λ at. sound_then sound_expr (λ x. sound_pure (Some x) (LowStep below) (λ c us. c.1.1.0))))

  sound_step : {C : Type 0} → Sound C (λ n. step_at (below + n)) IsStep (LowStep below)
  unfolding step_at
  sound_step = sound_if (is_keyword w.By) sound_by
      (sound_as no_by (λ x us d. d) (sound_pure None (LowStep below) (λ c us. omega arith)))

  pub sound_bounds : {C : Type 0} → Sound C (λ n. bounds_at (below + n)) Bounds (LowBounds below)
  unfolding bounds_at
  sound_bounds = sound_as is_bounds (λ x us d. d) (sound_then sound_expr (λ start. sound_then (sound_keyword w.To)
      (λ at. sound_then sound_expr (λ limit. sound_then sound_step (λ by. sound_pure (start, limit, by)
      (LowBounds below) (λ c us. (c.0.0.0.1.1.0, c.0.1.1.0, c.1.1)))))))

-- ---- a statement with its semicolon

pub line_begins : IsPrefix IsLine []
line_begins = record {
  more = semicolon ∷ [];
  tree = s.empty;
  whole = λ after. (
    s.empty,
    semicolon ∷ after,
    empty refl,
    ((passes_sign m.Semicolon after).0, after, (passes_sign m.Semicolon after).1, made refl),
  );
}

-- ---- after its first name

abbrev pub LineAfter : Identifier → Grammar Stmt
LineAfter x us y vs = (ts : Tokens) → Is name ts x us → IsLine ts y vs

line_after : (x : Identifier) (us : Tokens) (y : Stmt) (vs : Tokens)
    → Seq (AfterName x) (λ y. Seq (Is (mark m.Semicolon)) (λ at. Made y)) us y vs → LineAfter x us y vs
line_after x us y vs (z, ws, i, (at, zs, o, made eq)) ts n = (z, ws, i ts n, (at, zs, o, made eq))

-- a statement that is whole but for its semicolon
named_with_semicolon : (x : Identifier) (front more : Tokens) (y : Stmt)
    → ((ts after : Tokens) → Is name ts x (front ++ (more ++ after)) → IsStmt ts y after) → IsPrefix (LineAfter x) front
named_with_semicolon x front more y is' = record {
  more = more ++ semicolon ∷ [];
  tree = y;
  whole = λ after. λ ts n. (
    y,
    semicolon ∷ after,
    is' ts (semicolon ∷ after)
        (subst (λ (zs : Tokens). Is name ts x (front ++ zs)) (append_assoc more (semicolon ∷ []) after) n),
    ((passes_sign m.Semicolon after).0, after, (passes_sign m.Semicolon after).1, made refl),
  );
}

named_begun : (x : Identifier) (t : Token) (k : TokenKind) → t.kind ≡ k → goes_on_named k ≡ true
    → IsPrefix (LineAfter x) (t ∷ [])
unfolding same_mark
named_begun x t (Mark m.Open) eq start = named_with_semicolon x (t ∷ []) (sign m.Close ∷ []) (s.invoke x [])
    (λ ts after n. invoke x [] n (t.start, is (mark_at m.Open t eq)) no_argument (passes_sign m.Close after) refl)
named_begun x t (Mark m.Assign) eq start = named_with_semicolon x (t ∷ []) (a_name_token ∷ [])
    (s.assign (e.variable x (selectors_of [])) a_name)
    (λ ts after n. assign (e.variable x (selectors_of [])) a_name (selected x [] n no_selector refl)
    (t.start, is (mark_at m.Assign t eq)) (name_is 1 after) refl)
named_begun x t (Mark m.Dot) eq start =
    named_with_semicolon x (t ∷ []) (a_name_token ∷ sign m.Assign ∷ a_name_token ∷ [])
    (s.assign (e.variable x (selectors_of (e.member an_identifier ∷ []))) a_name)
    (λ ts after n. assign (e.variable x (selectors_of (e.member an_identifier ∷ []))) a_name
    (selected x (e.member an_identifier ∷ []) n
    (selector (member an_identifier (t.start, is (mark_at m.Dot t eq)) (is refl) refl) no_selector) refl)
    (passes_sign m.Assign (a_name_token ∷ after)) (name_is 1 after) refl)
named_begun x t (Mark m.OpenBracket) eq start = named_with_semicolon x (t ∷ [])
    (a_name_token ∷ sign m.CloseBracket ∷ sign m.Assign ∷ a_name_token ∷ [])
    (s.assign (e.variable x (selectors_of (e.subscript a_name ∷ []))) a_name)
    (λ ts after n. assign (e.variable x (selectors_of (e.subscript a_name ∷ []))) a_name
    (selected x (e.subscript a_name ∷ []) n (selector (subscript a_name (t.start, is (mark_at m.OpenBracket t eq))
    (name_is 1 (sign m.CloseBracket ∷ sign m.Assign ∷ a_name_token ∷ after))
    (passes_sign m.CloseBracket (sign m.Assign ∷ a_name_token ∷ after)) refl) no_selector) refl)
    (passes_sign m.Assign (a_name_token ∷ after)) (name_is 1 after) refl)
named_begun x t _ eq start = absurd cc

named_line_begins : (x : Identifier) → IsPrefix (LineAfter x) []
named_line_begins x = named_with_semicolon x [] (sign m.Open ∷ sign m.Close ∷ []) (s.invoke x [])
    (λ ts after n. invoke x [] n (passes_sign m.Open (sign m.Close ∷ after)) no_argument (passes_sign m.Close after)
    refl)

named_line_none : (x : Identifier) (ts : Tokens) → named_line_of (0 + 0) x ts ≡ too_deep goes_on_named ts
unfolding named_line_of
named_line_none x ts = refl

abbrev NamedBelow : ℕ → Identifier → Family Stmt
NamedBelow below x n = named_of (below + n) x >>= (λ y. one (mark m.Semicolon) >> pure y)

named_line_deeper : (below n : ℕ) (x : Identifier) (ts : Tokens)
    → named_line_of (suc below + n) x ts ≡ NamedBelow below x n ts
unfolding named_line_of
named_line_deeper below n x ts = let h : suc below + n ≡ suc (below + n) = omega arith in rw h refl

next_or : (f g : TokenKind → Bool) (ts : Tokens) → next (λ k. f k || g k) ts ≡ false
    → (next f ts ≡ false) × (next g ts ≡ false)
next_or f g [] eq = (refl, refl)
next_or f g (t ∷ ts) eq = or_false (f t.kind) (g t.kind) eq

no_mark : (x : MarkType) (ts : Tokens) → next (is_mark x) ts ≡ false → one (mark x) ts ≡ Err (Unexpected (length ts))
no_mark x [] eq = refl
no_mark x (t ∷ ts) eq = rw eq refl

-- no selector, and then no `:=`
assign_refuses : (below : ℕ) (x : Identifier) (ts : Tokens) → next starts_selector ts ≡ false
    → next (is_mark m.Assign) ts ≡ false → assign_of below x ts ≡ Err (Unexpected (length ts))
unfolding assign_of
assign_refuses below x ts bare none = rw (
  variable_of_complete (below - 1) ts ts x [] no_selector (omega arith) bare,
  no_mark m.Assign ts none,
) refl

named_line_refuses : (depth : ℕ) (x : Identifier) (ts : Tokens) → next goes_on_named ts ≡ false
    → named_line_of depth x ts ≡ Err (Unexpected (length ts))
unfolding named_line_of named_of
named_line_refuses zero x ts eq = rw eq refl
named_line_refuses (suc below) x ts eq =
    let a = next_or (is_mark m.Open) (λ k. is_mark m.Assign k || starts_selector k) ts eq in
    let b = next_or (is_mark m.Assign) starts_selector ts a.1 in
    rw (a.0, assign_refuses below x ts b.1 b.0) refl

told_named_line : (depth : ℕ) (x : Identifier)
    → Tells (λ n. named_line_of (depth + n) x) (LineAfter x) (LowStmt depth)
told_named_line zero x ts = told_too_deep goes_on_named (λ n. named_line_of (zero + n) x) (LineAfter x) (LowStmt zero)
    (named_line_begins x) (λ t eq. named_begun x t t.kind refl eq) (named_line_none x)
    (λ n us eq. named_line_refuses (0 + n) x us eq) ts
told_named_line (suc below) x ts = rw (named_line_deeper below 0 x ts) (told_agree (NamedBelow below x)
    (λ n. named_line_of (suc below + n) x) (LineAfter x) (LowStmt (suc below)) ts (NamedBelow below x 0 ts)
    (λ n more same. named_line_deeper below n x more)
    (told_by (sound_as (line_after x) (λ x us d. let l = d in omega arith) (sound_then (sound_named_of below x)
    (λ y. sound_then (sound_mark m.Semicolon) (λ at. sound_pure y (LowStmt (below + 1)) (λ c us. c.0.1.1))))) ts))

pub sound_named_line : {C : Type 0} (depth : ℕ) (x : Identifier)
    → Sound C (λ n. named_line_of (depth + n) x) (LineAfter x) (LowStmt depth)
sound_named_line depth x = record { begins = named_line_begins x; tells = λ c. told_named_line depth x }
