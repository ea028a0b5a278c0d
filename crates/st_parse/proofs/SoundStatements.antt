-- Parts that are read as statements are statements, and the tokens before a refusal begin some.
use Rattle.std.proofs.Common.{◌≡◌, ℕ, zero, suc, ◌+◌, ◌-◌, ◌<◌, ◌≤◌, max, true, false, List, [], ◌∷◌, ◌++◌, length}
use Rattle.std.proofs.Common.{None, Err, refl, sym, ap, subst, ◌∙◌, arith, append_assoc}
use Rattle.st_lex.specs.declared.token.Token.{Token}
use Rattle.st_lex.specs.declared.token.TokenKind.{TokenKind}
use Rattle.st_lex.specs.declared.token.TokenKind.TheVariants.{Name, Keyword, Mark}
use Rattle.st_lex.specs.declared.mark.Mark.TheVariants as m
use Rattle.st_lex.specs.declared.keyword.Keyword.{Keyword as KeywordType}
use Rattle.st_lex.specs.declared.keyword.Keyword.TheVariants as w
use Rattle.st_types.specs.Statements.{Stmt, Arm, CaseArm, stmts_of, arms_of, case_arms_of}
use Rattle.st_types.specs.Statements as s
use Rattle.st_types.specs.Depths.{depth_of, depth_of_stmt, deepest_stmt, deepest_arm}
use Rattle.st_parse.specs.Tokens.{Tokens, next, Is, is, Passes, mark, keyword, name, name_in, is_keyword}
use Rattle.st_parse.specs.declared.fault.Refusal.TheVariants.{Unexpected}
use Rattle.st_parse.specs.Parsers.{Parser, ◌>>=◌, ◌>>◌, pure, refuse, one, too_deep, several, between}
use Rattle.st_parse.specs.StatementReading.{starts_stmt, arm_at, elsif_at, otherwise_at, else_at, if_at}
use Rattle.st_parse.specs.StatementReading.{choices_at, case_at, for_at, while_at, repeat_at, stmt_by, stmt_at}
use Rattle.st_parse.specs.StatementReading.{lines, line_at, stmts_at}
use Rattle.st_parse.specs.Laws.{Grammar, IsPrefix}
use Rattle.st_parse.specs.Expressions.{IsExpr}
use Rattle.st_parse.specs.Statements.{no_argument, no_step, IsStmt, empty, invoke, choose, select, count}
use Rattle.st_parse.specs.Statements.{repeat_while, repeat_until, exit, leave, IsStmts, no_stmt, IsElse, no_else}
use Rattle.st_parse.specs.Statements.{otherwise, IsArm, arm, IsMoreArms, no_more_arms, elsif, IsCaseArms}
use Rattle.st_parse.specs.Statements.{no_case_arm}
use Rattle.st_parse.proofs.Sound.{Family, Told, Tells, Seq, Made, made, told_agree, told_refuse, told_by_kind}
use Rattle.st_parse.proofs.Sound.{told_too_deep}
use Rattle.st_parse.proofs.SoundReadings.{Sound, told_by, sound_then, sound_pure, sound_as, sound_if, sound_mark}
use Rattle.st_parse.proofs.SoundReadings.{sound_keyword, sound_name, an_identifier, mark_at, keyword_at}
use Rattle.st_parse.proofs.SoundLists.{sound_several}
use Rattle.st_parse.proofs.ExpressionFacts.{a_name, name_is}
use Rattle.st_parse.proofs.StatementFacts.{IsLine, line_less, line_then, arm_less, each_stmt, each_arm}
use Rattle.st_parse.proofs.SoundSimple.{LowStmt, LowStmts, LowArm, LowChoices, sound_exit, sound_return}
use Rattle.st_parse.proofs.SoundSimple.{sound_named, Bounds, sound_expr, sound_bounds, semicolon, key, sign}
use Rattle.st_parse.proofs.SoundSimple.{a_name_token, passes_key, passes_sign, line_begins}
use Rattle.st_parse.proofs.SoundChoices.{sound_case_arms}

-- ---- statements one level down

is_arm : (ts : Tokens) (y : Arm) (us : Tokens)
    → Seq (IsExpr 1) (λ c. Seq (Is (keyword w.Then)) (λ at. Seq IsStmts (λ body. Made (c, stmts_of body)))) ts y us
    → IsArm ts y us
is_arm ts y us (c, vs, i, (at, ws, t, (body, zs, b, made eq))) = arm c body i (at, t) b eq

abbrev Elsif : Grammar Arm
Elsif = Seq (Is (keyword w.Elsif)) (λ at. IsArm)

elsif_less : (ts : Tokens) (y : Arm) (us : Tokens) → Elsif ts y us → length us < length ts
elsif_less ts y us (at, vs, is eq, a) = let l = arm_less a in omega arith

is_otherwise : (ts : Tokens) (xs : List Stmt) (us : Tokens) → Seq (Is (keyword w.Else)) (λ at. IsStmts) ts xs us
    → IsElse ts xs us
is_otherwise ts xs us p = otherwise (p.0, p.2) p.3

is_no_else : (ts : Tokens) (xs : List Stmt) (us : Tokens) → Made [] ts xs us → IsElse ts xs us
is_no_else ts xs us (made eq) = subst (λ (zs : List Stmt). IsElse ts zs ts) (sym eq) no_else

-- arms after the first
abbrev Arms : Arm → Grammar (List Arm)
Arms a ts ys us = (xs : List Arm) × IsMoreArms ts xs us × (ys ≡ (a ∷ []) ++ xs)

is_if : (ts : Tokens) (y : Stmt) (us : Tokens) → Seq (Is (keyword w.If)) (λ at. Seq IsArm (λ a. Seq (Arms a)
    (λ arms. Seq IsElse (λ other. Seq (Is (keyword w.EndIf)) (λ end. Made (s.IF (arms_of arms) (stmts_of other))))))) ts
    y us → IsStmt ts y us
is_if ts y us (at, vs, o, (a, ws, i, (arms, zs, r, (other, qs, x, (end, rs, c, made eq))))) =
    choose a r.0 other (at, o) i r.1 x (end, c) (eq ∙ ap (λ (as' : List Arm). s.IF (arms_of as') (stmts_of other)) r.2)

abbrev Choices : Grammar (List CaseArm × List Stmt)
Choices ts y us = (vs : Tokens) × (ws : Tokens) × (zs : Tokens) × Passes (keyword w.Of) ts vs × IsCaseArms vs y.0 ws
    × IsElse ws y.1 zs × Passes (keyword w.EndCase) zs us

is_choices : (ts : Tokens) (y : List CaseArm × List Stmt) (us : Tokens)
    → Seq (Is (keyword w.Of)) (λ of. Seq IsCaseArms (λ arms. Seq IsElse
    (λ other. Seq (Is (keyword w.EndCase)) (λ end. Made (arms, other))))) ts y us → Choices ts y us
is_choices ts y us (of, vs, p, (arms, ws, r, (other, zs, q, (end, os, c, made eq)))) =
    rw eq (vs, ws, zs, (of, p), r, q, (end, c))

is_case : (ts : Tokens) (y : Stmt) (us : Tokens)
    → Seq (Is (keyword w.Case)) (λ at. Seq (IsExpr 1) (λ x. Seq Choices
    (λ c. Made (s.CASE x (case_arms_of c.0) (stmts_of c.1))))) ts y us → IsStmt ts y us
is_case ts y us (at, vs, o, (x, ws, i, (c, zs, (ps, qs, rs, p, r, q, e), made eq))) =
    select x c.0 c.1 (at, o) i p r q e eq

-- statements between two keywords
abbrev Block : KeywordType → KeywordType → Grammar (List Stmt)
Block first last ts xs us = (vs : Tokens) × (ws : Tokens) × Passes (keyword first) ts vs × IsStmts vs xs ws
    × Passes (keyword last) ws us

is_block : (first last : KeywordType) (ts : Tokens) (xs : List Stmt) (us : Tokens) → Seq (Is (keyword first))
    (λ at. Seq IsStmts (λ body. Seq (Is (keyword last)) (λ end. Made body))) ts xs us → Block first last ts xs us
is_block first last ts xs us (at, vs, o, (body, ws, b, (end, zs, c, made eq))) = rw eq (vs, ws, (at, o), b, (end, c))

is_for : (ts : Tokens) (y : Stmt) (us : Tokens)
    → Seq (Is (keyword w.For)) (λ at. Seq (Is name) (λ x. Seq (Is (mark m.Assign)) (λ a1. Seq Bounds
    (λ b. Seq (Block w.Do w.EndFor) (λ body. Made (s.FOR x b.0 b.1 b.2 (stmts_of body))))))) ts y us → IsStmt ts y us
is_for ts y us (
  at,
  vs,
  o,
  (
    x,
    ws,
    n,
    (a1, zs, p, (b, qs, (ks, ls, ms, i, t, j, st), (body, rs, (os, ps, d, l, e), made eq))),
  ),
) =
    count x b.0 b.1 b.2 body (at, o) n (a1, p) i t j st d l e eq

is_while : (ts : Tokens) (y : Stmt) (us : Tokens)
    → Seq (Is (keyword w.While)) (λ at. Seq (IsExpr 1) (λ x. Seq (Block w.Do w.EndWhile)
    (λ body. Made (s.WHILE x (stmts_of body))))) ts y us → IsStmt ts y us
is_while ts y us (at, vs, o, (x, ws, i, (body, zs, (os, ps, d, l, e), made eq))) =
    repeat_while x body (at, o) i d l e eq

is_repeat : (ts : Tokens) (y : Stmt) (us : Tokens)
    → Seq (Is (keyword w.Repeat)) (λ at. Seq IsStmts (λ body. Seq (Is (keyword w.Until))
    (λ a1. Seq (IsExpr 1) (λ x. Seq (Is (keyword w.EndRepeat)) (λ a2. Made (s.REPEAT (stmts_of body) x)))))) ts y us
    → IsStmt ts y us
is_repeat ts y us (at, vs, o, (body, ws, b, (a1, zs, u, (x, qs, i, (a2, rs, f, made eq))))) =
    repeat_until body x (at, o) b (a1, u) i (a2, f) eq

is_empty : (ts : Tokens) (y : Stmt) (us : Tokens) → Made s.empty ts y us → IsStmt ts y us
is_empty ts y us (made eq) = empty eq

pub stmt_begins : IsPrefix IsStmt []
stmt_begins = record { more = []; tree = s.empty; whole = λ after. empty refl }

pub stmts_begins : IsPrefix IsStmts []
stmts_begins = record { more = []; tree = []; whole = λ after. no_stmt }

module _ (depth : ℕ) (line : ℕ → Parser Stmt) (tells : Tells line IsLine (LowStmt depth)) where
  pub sound_lines : {C : Type 0}
      → Sound C (λ n. lines (line n)) IsStmts (λ xs us. LowStmts depth xs us × (next starts_stmt us ≡ false))
  unfolding lines
  sound_lines = sound_as (λ ts ys us p. subst (λ (zs : List Stmt). IsStmts ts zs us) (sym p.2) p.1)
      (λ xs us d. (each_stmt depth xs d.0, d.1))
      (sound_several starts_stmt line IsLine IsStmts (λ x. depth_of_stmt x ≤ depth) (λ ts. no_stmt)
      line_then line_less [] (λ c. tt) (record { begins = line_begins; tells = λ c. tells }))

module _ (below : ℕ) (line : ℕ → Parser Stmt) (tells : Tells line IsLine (LowStmt below)) where
  sound_stmts : {C : Type 0} → Sound C (λ n. lines (line n)) IsStmts (LowStmts below)
  sound_stmts = sound_as (λ ts x us i. i) (λ xs us d. d.0) (sound_lines below line tells)

  sound_arm : {C : Type 0} → Sound C (λ n. arm_at (below + n) (line n)) IsArm (LowArm below)
  unfolding arm_at
  sound_arm = sound_as is_arm (λ x us d. d)
      (sound_then (sound_expr below) (λ x. sound_then (sound_keyword w.Then) (λ at. sound_then sound_stmts (λ body.
      sound_pure (x, stmts_of body) (LowArm below) (λ c us. let a = c.0.0.1.1.0 in let b = c.1.1 in omega arith)))))

  sound_elsif : {C : Type 0} → Sound C (λ n. elsif_at (below + n) (line n)) Elsif (LowArm below)
  unfolding elsif_at
  sound_elsif = sound_then (sound_keyword w.Elsif) (λ at. sound_arm)

  sound_otherwise : {C : Type 0} → Sound C (λ n. otherwise_at (below + n) (line n)) IsElse (LowStmts below)
  unfolding otherwise_at
  sound_otherwise = sound_as is_otherwise (λ x us d. d) (sound_then (sound_keyword w.Else) (λ at. sound_stmts))

  sound_else : {C : Type 0} → Sound C (λ n. else_at (below + n) (line n)) IsElse (LowStmts below)
  unfolding else_at
  sound_else = sound_if (is_keyword w.Else) sound_otherwise
      (sound_as is_no_else (λ x us d. d) (sound_pure [] (LowStmts below) (λ c us. omega arith)))

  sound_arms : {C : Type 0} (a : Arm) → (C → max (depth_of a.0) (deepest_stmt a.1) ≤ below)
      → Sound C (λ n. several (is_keyword w.Elsif) (elsif_at (below + n) (line n)) (a ∷ [])) (Arms a)
      (λ xs us. deepest_arm (arms_of xs) ≤ below)
  sound_arms a low = sound_as (λ ts xs us p. p) (λ xs us d. each_arm below xs d.0)
      (sound_several (is_keyword w.Elsif) (λ n. elsif_at (below + n) (line n)) Elsif IsMoreArms
      (λ a. max (depth_of a.0) (deepest_stmt a.1) ≤ below) (λ ts. no_more_arms)
      (λ ts x us xs vs o r. elsif (o.0, o.2) o.3 r) elsif_less (a ∷ []) (λ c. (low c, tt)) sound_elsif)

  sound_if_stmt : {C : Type 0} → Sound C (λ n. if_at (below + n) (line n)) IsStmt (LowStmt (below + 1))
  unfolding if_at
  sound_if_stmt =
      sound_as is_if (λ x us d. d) (sound_then (sound_keyword w.If) (λ at. sound_then sound_arm (λ a. sound_then
      (sound_arms a (λ c. c.1.1)) (λ arms. sound_then sound_else (λ other. sound_then (sound_keyword w.EndIf) (λ end.
      sound_pure (s.IF (arms_of arms) (stmts_of other)) (LowStmt (below + 1))
      (λ c us. let a' = c.0.0.1.1 in let b' = c.0.1.1 in omega arith)))))))

  sound_choices : {C : Type 0} → Sound C (λ n. choices_at (below + n) (line n)) Choices (LowChoices below)
  unfolding choices_at
  sound_choices = sound_as is_choices (λ x us d. d) (sound_then (sound_keyword w.Of)
      (λ of. sound_then (sound_case_arms below line tells) (λ arms. sound_then sound_else (λ other. sound_then (sound_keyword w.EndCase)
      (λ end. sound_pure (arms, other) (LowChoices below) (λ c us. (c.0.0.1.1, c.0.1.1)))))))

  sound_case : {C : Type 0} → Sound C (λ n. case_at (below + n) (line n)) IsStmt (LowStmt (below + 1))
  unfolding case_at
  sound_case = sound_as is_case (λ x us d. d) (sound_then (sound_keyword w.Case)
      (λ at. sound_then (sound_expr below) (λ x. sound_then sound_choices (λ y.
      sound_pure (s.CASE x (case_arms_of y.0) (stmts_of y.1)) (LowStmt (below + 1))
      (λ c us. let a' = c.1.1.0 in let b' = c.1.1.1 in let d' = c.0.1.1.0 in omega arith)))))

  sound_block : {C : Type 0} (first last : KeywordType)
      → Sound C (λ n. between first last (lines (line n))) (Block first last) (LowStmts below)
  unfolding between
  sound_block first last = sound_as (is_block first last) (λ x us d. d) (sound_then (sound_keyword first)
      (λ at. sound_then sound_stmts (λ body. sound_then (sound_keyword last)
      (λ end. sound_pure body (LowStmts below) (λ c us. c.0.1.1)))))

  sound_for : {C : Type 0} → Sound C (λ n. for_at (below + n) (line n)) IsStmt (LowStmt (below + 1))
  unfolding for_at
  sound_for = sound_as is_for (λ x us d. d) (sound_then (sound_keyword w.For)
      (λ at. sound_then sound_name (λ x. sound_then (sound_mark m.Assign) (λ a1. sound_then (sound_bounds below)
      (λ b. sound_then (sound_block w.Do w.EndFor) (λ body.
      sound_pure (s.FOR x b.0 b.1 b.2 (stmts_of body)) (LowStmt (below + 1)) (λ c us. let a' = c.1.1 in
      let b' = c.0.1.1.2 in let d' = c.0.1.1.1 in let e' = c.0.1.1.0 in omega arith)))))))

  sound_while : {C : Type 0} → Sound C (λ n. while_at (below + n) (line n)) IsStmt (LowStmt (below + 1))
  unfolding while_at
  sound_while = sound_as is_while (λ x us d. d)
      (sound_then (sound_keyword w.While) (λ at. sound_then (sound_expr below) (λ x.
      sound_then (sound_block w.Do w.EndWhile) (λ body. sound_pure (s.WHILE x (stmts_of body)) (LowStmt (below + 1))
      (λ c us. let a' = c.1.1 in let b' = c.0.1.1.0 in omega arith)))))

  sound_repeat : {C : Type 0} → Sound C (λ n. repeat_at (below + n) (line n)) IsStmt (LowStmt (below + 1))
  unfolding repeat_at
  sound_repeat = sound_as is_repeat (λ x us d. d)
      (sound_then (sound_keyword w.Repeat) (λ at. sound_then sound_stmts (λ body. sound_then (sound_keyword w.Until)
      (λ a1. sound_then (sound_expr below) (λ x. sound_then (sound_keyword w.EndRepeat) (λ a2.
      sound_pure (s.REPEAT (stmts_of body) x) (LowStmt (below + 1))
      (λ c us. let a' = c.0.1.1.0 in let b' = c.0.0.0.1.1 in omega arith)))))))

  sound_empty : {C : Type 0} → Sound C (λ n. pure s.empty) IsStmt (LowStmt (below + 1))
  sound_empty = sound_as is_empty (λ x us d. d) (sound_pure s.empty (LowStmt (below + 1)) (λ c us. omega arith))

  told_stmt_by : (k : TokenKind) (t : Token) (ts : Tokens) → Told (λ n. stmt_by (below + n) (line n) k) IsStmt
      (LowStmt (below + 1)) (t ∷ ts) (stmt_by (below + 0) (line 0) k (t ∷ ts))
  told_stmt_by (Name x) t ts = told_by (sound_named below) (t ∷ ts)
  told_stmt_by (Mark m.Semicolon) t ts = told_by sound_empty (t ∷ ts)
  told_stmt_by (Keyword w.If) t ts = told_by sound_if_stmt (t ∷ ts)
  told_stmt_by (Keyword w.Case) t ts = told_by sound_case (t ∷ ts)
  told_stmt_by (Keyword w.For) t ts = told_by sound_for (t ∷ ts)
  told_stmt_by (Keyword w.While) t ts = told_by sound_while (t ∷ ts)
  told_stmt_by (Keyword w.Repeat) t ts = told_by sound_repeat (t ∷ ts)
  told_stmt_by (Keyword w.Exit) t ts = told_by (sound_exit below) (t ∷ ts)
  told_stmt_by (Keyword w.Return) t ts = told_by (sound_return below) (t ∷ ts)
  told_stmt_by _ t ts =
      told_refuse (λ n. refuse) IsStmt (LowStmt (below + 1)) (t ∷ ts) stmt_begins (λ n more same. refl)

  sound_stmt : {C : Type 0} → Sound C (λ n. stmt_at (below + n) (line n)) IsStmt (LowStmt (below + 1))
  unfolding stmt_at
  sound_stmt = record {
    begins = stmt_begins;
    tells = λ c. told_by_kind (λ n. stmt_by (below + n) (line n)) IsStmt
        (LowStmt (below + 1)) stmt_begins (λ t ts. told_stmt_by t.kind t ts);
  }

  pub sound_line : {C : Type 0} → Sound C
      (λ n. stmt_at (below + n) (line n) >>= (λ x. one (mark m.Semicolon) >> pure x)) IsLine (LowStmt (below + 1))
  sound_line = sound_then sound_stmt
      (λ x. sound_then (sound_mark m.Semicolon) (λ at. sound_pure x (LowStmt (below + 1)) (λ c us. c.0.1.1)))

-- ---- if no depth is left

stmt_refuses : (below : ℕ) (line : Parser Stmt) (k : TokenKind) (ts : Tokens) → starts_stmt k ≡ false
    → stmt_by below line k ts ≡ Err (Unexpected (length ts))
stmt_refuses below line (Name x) ts eq = absurd cc
stmt_refuses below line (Mark m.Semicolon) ts eq = absurd cc
stmt_refuses below line (Keyword w.If) ts eq = absurd cc
stmt_refuses below line (Keyword w.Case) ts eq = absurd cc
stmt_refuses below line (Keyword w.For) ts eq = absurd cc
stmt_refuses below line (Keyword w.While) ts eq = absurd cc
stmt_refuses below line (Keyword w.Repeat) ts eq = absurd cc
stmt_refuses below line (Keyword w.Exit) ts eq = absurd cc
stmt_refuses below line (Keyword w.Return) ts eq = absurd cc
stmt_refuses below line _ ts eq = refl

line_refuses : (depth : ℕ) (ts : Tokens) → next starts_stmt ts ≡ false → line_at depth ts ≡ Err (Unexpected (length ts))
unfolding line_at stmt_at
line_refuses zero ts eq = rw eq refl
line_refuses (suc below) [] eq = refl
line_refuses (suc below) (t ∷ ts) eq = rw (stmt_refuses below (line_at below) t.kind (t ∷ ts) eq) refl

-- a statement that is whole but for its semicolon
with_semicolon : (t : Token) (more : Tokens) (x : Stmt) → ((after : Tokens) → IsStmt (t ∷ (more ++ after)) x after)
    → IsPrefix IsLine (t ∷ [])
with_semicolon t more x is' = record {
  more = more ++ semicolon ∷ [];
  tree = x;
  whole = λ after. subst (λ (zs : Tokens). IsLine (t ∷ zs) x after) (sym (append_assoc more (semicolon ∷ []) after)) (
    x,
    semicolon ∷ after,
    is' (semicolon ∷ after),
    ((passes_sign m.Semicolon after).0, after, (passes_sign m.Semicolon after).1, made refl),
  );
}

line_begun : (t : Token) (k : TokenKind) → t.kind ≡ k → starts_stmt k ≡ true → IsPrefix IsLine (t ∷ [])
line_begun t (Name x) eq start =
    with_semicolon t (sign m.Open ∷ sign m.Close ∷ []) (s.invoke (record { name = x; place = t.start }) [])
    (λ after. invoke (record { name = x; place = t.start }) [] (is (ap (name_in t.start) eq))
    (passes_sign m.Open (sign m.Close ∷ after)) no_argument (passes_sign m.Close after) refl)
line_begun t (Mark m.Semicolon) eq start = record {
  more = [];
  tree = s.empty;
  whole =
      λ after. (s.empty, t ∷ after, empty refl, (t.start, after, is (mark_at m.Semicolon t eq), made refl));
}
line_begun t (Keyword w.If) eq start = with_semicolon t (a_name_token ∷ key w.Then ∷ key w.EndIf ∷ [])
    (s.IF (arms_of ((a_name, stmts_of []) ∷ [])) (stmts_of []))
    (λ after. choose (a_name, stmts_of []) [] [] (t.start, is (keyword_at w.If t eq)) (arm a_name []
    (name_is 1 (key w.Then ∷ key w.EndIf ∷ after)) (passes_key w.Then (key w.EndIf ∷ after)) no_stmt refl)
    no_more_arms no_else (passes_key w.EndIf after) refl)
line_begun t (Keyword w.Case) eq start =
    with_semicolon t (a_name_token ∷ key w.Of ∷ key w.EndCase ∷ []) (s.CASE a_name (case_arms_of []) (stmts_of []))
    (λ after. select a_name [] [] (t.start, is (keyword_at w.Case t eq)) (name_is 1 (key w.Of ∷ key w.EndCase ∷ after))
    (passes_key w.Of (key w.EndCase ∷ after)) no_case_arm no_else (passes_key w.EndCase after) refl)
line_begun t (Keyword w.For) eq start = with_semicolon t (a_name_token ∷ sign m.Assign ∷ a_name_token ∷ key w.To
    ∷ a_name_token ∷ key w.Do ∷ key w.EndFor ∷ []) (s.FOR an_identifier a_name a_name None (stmts_of []))
    (λ after. count an_identifier a_name a_name None [] (t.start, is (keyword_at w.For t eq)) (is refl)
    (passes_sign m.Assign (a_name_token ∷ key w.To ∷ a_name_token ∷ key w.Do ∷ key w.EndFor ∷ after))
    (name_is 1 (key w.To ∷ a_name_token ∷ key w.Do ∷ key w.EndFor ∷ after))
    (passes_key w.To (a_name_token ∷ key w.Do ∷ key w.EndFor ∷ after)) (name_is 1 (key w.Do ∷ key w.EndFor ∷ after))
    no_step (passes_key w.Do (key w.EndFor ∷ after)) no_stmt (passes_key w.EndFor after) refl)
line_begun t (Keyword w.While) eq start =
    with_semicolon t (a_name_token ∷ key w.Do ∷ key w.EndWhile ∷ []) (s.WHILE a_name (stmts_of []))
    (λ after. repeat_while a_name [] (t.start, is (keyword_at w.While t eq)) (name_is 1 (key w.Do ∷ key w.EndWhile
    ∷ after)) (passes_key w.Do (key w.EndWhile ∷ after)) no_stmt (passes_key w.EndWhile after) refl)
line_begun t (Keyword w.Repeat) eq start =
    with_semicolon t (key w.Until ∷ a_name_token ∷ key w.EndRepeat ∷ []) (s.REPEAT (stmts_of []) a_name)
    (λ after. repeat_until [] a_name (t.start, is (keyword_at w.Repeat t eq)) no_stmt (passes_key w.Until (a_name_token
    ∷ key w.EndRepeat ∷ after)) (name_is 1 (key w.EndRepeat ∷ after)) (passes_key w.EndRepeat after) refl)
line_begun t (Keyword w.Exit) eq start =
    with_semicolon t [] (s.EXIT t.start) (λ after. exit t.start (is (keyword_at w.Exit t eq)) refl)
line_begun t (Keyword w.Return) eq start =
    with_semicolon t [] s.RETURN (λ after. leave (t.start, is (keyword_at w.Return t eq)) refl)
line_begun t _ eq start = absurd cc

-- ---- all depths

abbrev ToldLine : ℕ → Type 0
ToldLine depth = Tells (λ n. line_at (depth + n)) IsLine (LowStmt depth)

line_none : (ts : Tokens) → line_at (0 + 0) ts ≡ too_deep starts_stmt ts
unfolding line_at
line_none ts = refl

abbrev Deeper : ℕ → Family Stmt
Deeper below n = stmt_at (below + n) (line_at (below + n)) >>= (λ x. one (mark m.Semicolon) >> pure x)

line_deeper : (below n : ℕ) (ts : Tokens) → line_at (suc below + n) ts ≡ Deeper below n ts
unfolding line_at
line_deeper below n ts = let h : suc below + n ≡ suc (below + n) = omega arith in rw h refl

pub told_line : (depth : ℕ) → ToldLine depth
told_line zero ts = told_too_deep starts_stmt (λ n. line_at (zero + n)) IsLine (LowStmt zero) line_begins
    (λ t eq. line_begun t t.kind refl eq) line_none (λ n us eq. line_refuses (0 + n) us eq) ts
told_line (suc below) ts = rw (line_deeper below 0 ts) (told_agree (Deeper below) (λ n. line_at (suc below + n)) IsLine
    (LowStmt (suc below)) ts (Deeper below 0 ts) (λ n more same. line_deeper below n more)
    (told_by (sound_as (λ ts x us p. p) (λ x us d. let l = d in omega arith)
    (sound_line below (λ n. line_at (below + n)) (told_line below))) ts))

pub told_stmts : (depth : ℕ)
    → Tells (λ n. stmts_at (depth + n)) IsStmts (λ xs us. LowStmts depth xs us × (next starts_stmt us ≡ false))
told_stmts depth = told_by (sound_lines depth (λ n. line_at (depth + n)) (told_line depth))
