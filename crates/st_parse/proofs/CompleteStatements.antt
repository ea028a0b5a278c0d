-- A statement is read.
use Rattle.std.proofs.Common.{true≢false, ◌≡◌, ℕ, zero, suc, ◌+◌, ◌-◌, ◌≤◌, max, Bool, true, false, List, [], ◌∷◌}
use Rattle.std.proofs.Common.{Option, Some, Ok, refl, ap, subst, ◌∙◌, arith, ◌<◌, ◌||◌, ◌++◌, length, None, sym}
use Rattle.std.proofs.Common.{append_assoc, inl, inr}
use Rattle.st_types.specs.declared.identifier.Identifier.{Identifier}
use Rattle.st_types.specs.declared.literal.Number.{Number as NumberLeaf}
use Rattle.st_lex.specs.declared.token.TokenKind.{TokenKind}
use Rattle.st_lex.specs.declared.token.TokenKind.TheVariants.{Name, Keyword, Mark, Number, Enumerated}
use Rattle.st_lex.specs.declared.mark.Mark.TheVariants as m
use Rattle.st_lex.specs.declared.keyword.Keyword.{Keyword as KeywordType}
use Rattle.st_lex.specs.declared.keyword.Keyword.TheVariants as w
use Rattle.st_types.specs.declared.statement.Label.{Label}
use Rattle.st_types.specs.declared.statement.Label.TheVariants as label_forms
use Rattle.st_types.specs.Expressions.{Expr, Variable, Selector, selectors_of}
use Rattle.st_types.specs.Expressions as e
use Rattle.st_types.specs.Statements.{Argument, Stmt, Arm, CaseArm, stmts_of, arms_of, case_arms_of}
use Rattle.st_types.specs.Statements as s
use Rattle.st_types.specs.Depths.{depth_of, depth_of_variable, depth_of_step, depth_of_argument, deepest_argument}
use Rattle.st_types.specs.Depths.{depth_of_stmt, deepest_stmt, deepest_arm, deepest_case_arm, deepest_subscript}
use Rattle.st_parse.specs.Tokens.{Tokens, next, Is, is, Passes, mark, keyword, name, is_mark, is_keyword}
use Rattle.st_parse.specs.Tokens.{is_number, same_mark, same_keyword, IsNumber, plain, negative, is_name, is_value}
use Rattle.st_parse.specs.Tokens.{name_in, value, value_at, value_in}
use Rattle.st_parse.specs.Parsers.{Parser, by_kind, after_comma, listed, between, Outcome, and_then, loops, turns}
use Rattle.st_parse.specs.ExpressionReading.{starts_selector, continues, expr_at, variable_at}
use Rattle.st_parse.specs.StatementReading.{starts_number, starts_stmt, range_of, label_at, exit_at, return_at}
use Rattle.st_parse.specs.StatementReading.{assign_of, given_of, copied_of, argument_at, arguments_at, invoke_of}
use Rattle.st_parse.specs.StatementReading.{named_at, by_at, step_at, bounds_at, arm_at, elsif_at, otherwise_at}
use Rattle.st_parse.specs.StatementReading.{else_at, if_at, choices_at, case_at, for_at, while_at, repeat_at}
use Rattle.st_parse.specs.StatementReading.{stmt_by, stmt_at, lines, line_at, stmts_at, starts_label, starts_part}
use Rattle.st_parse.specs.StatementReading.{ends_label, number_label_at, named_label_at, label_of, head_of}
use Rattle.st_parse.specs.StatementReading.{head_at, Arms, first_arm, all_arms, with_arm, with_stmt, next_arm_of}
use Rattle.st_parse.specs.StatementReading.{label_part, closed, named_of, named_line_of, named_line_part}
use Rattle.st_parse.specs.StatementReading.{named_part, line_part, part_at, some_arms_at, case_arms_at}
use Rattle.st_parse.specs.Expressions.{IsVariable, selected, IsSelectors, no_selector, selector, member, subscript}
use Rattle.st_parse.specs.Statements.{IsArgument, given, copied, IsMoreArguments, no_more_arguments, next_argument}
use Rattle.st_parse.specs.Statements.{IsArguments, no_argument, argument, IsLabel, single, range, named}
use Rattle.st_parse.specs.Statements.{IsMoreLabels, no_more_labels, next_label, IsLabels, labels, IsStep, no_step}
use Rattle.st_parse.specs.Statements.{step, IsStmt, empty, assign, invoke, choose, select, count, repeat_while}
use Rattle.st_parse.specs.Statements.{repeat_until, exit, leave, IsStmts, no_stmt, stmt, IsElse, no_else}
use Rattle.st_parse.specs.Statements.{otherwise, IsArm, arm, IsMoreArms, no_more_arms, elsif, case_arm, IsCaseArms}
use Rattle.st_parse.specs.Statements.{no_case_arm, next_case_arm}
use Rattle.st_parse.proofs.ExpressionFacts.{is_less}
use Rattle.st_parse.proofs.StatementFacts.{argument_less, arm_less, stmt_less, stmt_some, labels_less, label_less}
use Rattle.st_parse.proofs.Complete.{one_complete, mark_kind, keyword_kind, name_in_is, mark_head, keyword_head}
use Rattle.st_parse.proofs.Complete.{name_head, whole_head, number_complete, Repeats, repeats_halt, repeats_step}
use Rattle.st_parse.proofs.Complete.{several_complete, after_comma_complete, comma_next, listed_complete}
use Rattle.st_parse.proofs.CompleteExpressions.{Stops, stops_all, close_stops, comma_stops, open_first, close_no_comma}
use Rattle.st_parse.proofs.CompleteExpressions.{expr_complete, variable_of_complete}
use Rattle.std.proofs.lemmas.Bool.{cases_Bool}
use Rattle.std.proofs.lemmas.List.{append-nil}
use Rattle.st_types.specs.declared.literal.EnumeratedValue.{EnumeratedValue}
use Rattle.st_lex.specs.declared.token.Token.{Token}
use Rattle.st_parse.proofs.SoundTurns.{halts, turn_is}

-- ---- the tokens after it

keyword_stops : (x : KeywordType) {ts us : Tokens} → Passes (keyword x) ts us → continues (Keyword x) ≡ false → Stops ts
keyword_stops x p eq = keyword_head x continues p.1 ∙ eq

semicolon_stops : {ts us : Tokens} → Passes (mark m.Semicolon) ts us → Stops ts
unfolding same_mark
semicolon_stops p = mark_head m.Semicolon continues p.1

then_stops : {ts us : Tokens} → Passes (keyword w.Then) ts us → Stops ts
then_stops p = keyword_stops w.Then p refl

of_stops : {ts us : Tokens} → Passes (keyword w.Of) ts us → Stops ts
of_stops p = keyword_stops w.Of p refl

to_stops : {ts us : Tokens} → Passes (keyword w.To) ts us → Stops ts
to_stops p = keyword_stops w.To p refl

do_stops : {ts us : Tokens} → Passes (keyword w.Do) ts us → Stops ts
do_stops p = keyword_stops w.Do p refl

end_repeat_stops : {ts us : Tokens} → Passes (keyword w.EndRepeat) ts us → Stops ts
end_repeat_stops p = keyword_stops w.EndRepeat p refl

step_stops : {ts us vs : Tokens} {o : Option Expr} → IsStep ts o us → Passes (keyword w.Do) us vs → Stops ts
step_stops no_step d = do_stops d
step_stops (step x p i eq) d = keyword_stops w.By p refl

-- ---- labels

-- one of two kinds
pub or_left : (f g : TokenKind → Bool) (ts : Tokens) → next f ts ≡ true → next (λ k. f k || g k) ts ≡ true
or_left f g [] eq = absurd cc
or_left f g (t ∷ ts) eq = rw eq refl

pub or_right : (f g : TokenKind → Bool) (ts : Tokens) → next g ts ≡ true → next (λ k. f k || g k) ts ≡ true
or_right f g [] eq = absurd cc
or_right f g (t ∷ ts) eq = other (f t.kind) (g t.kind) eq
  where
    other : (a b : Bool) → b ≡ true → a || b ≡ true
    other true b eq = refl
    other false b eq = eq

number_kind : (k : TokenKind) → is_number k ≡ true
    → (starts_number k ≡ true) × (is_value k ≡ false) × (is_name k ≡ false)
number_kind (Number x) eq = (refl, refl, refl)
number_kind _ eq = absurd cc

abbrev StartsNumber : Tokens → Type 0
StartsNumber ts = (next starts_number ts ≡ true) × (next is_value ts ≡ false) × (next is_name ts ≡ false)

number_next : (ts : Tokens) → next is_number ts ≡ true → StartsNumber ts
number_next [] eq = absurd cc
number_next (t ∷ ts) eq = number_kind t.kind eq

number_head : {ts us : Tokens} {n : NumberLeaf} → IsNumber ts n us → StartsNumber ts
unfolding same_mark
number_head {ts = ts} (plain p) = number_next ts (whole_head p)
number_head (negative at k p q eq) =
    (mark_head m.Minus starts_number p, mark_head m.Minus is_value p, mark_head m.Minus is_name p)

value_kind : (at : ℕ) (k : TokenKind) (v : EnumeratedValue) → value_in at k ≡ Some v → is_value k ≡ true
value_kind at (Name n) v eq = refl
value_kind at (Enumerated t n) v eq = refl
value_kind at _ v eq = absurd cc

value_head : {ts us : Tokens} {v : EnumeratedValue} → Is value ts v us → next is_value ts ≡ true
value_head {v = v} (is {t} eq) = value_kind t.start t.kind v eq

label_head : {ts us : Tokens} {l : Label} → IsLabel ts l us → next starts_label ts ≡ true
label_head {ts = ts} (single n i eq) = let h = number_head i in or_left starts_number is_value ts h.0
label_head {ts = ts} (range a b i o j eq) = let h = number_head i in or_left starts_number is_value ts h.0
label_head {ts = ts} (named v i eq) = or_right starts_number is_value ts (value_head i)

labels_head : {ts us : Tokens} {xs : List Label} → IsLabels ts xs us → next starts_label ts ≡ true
labels_head (labels i r) = label_head i

labels_plain : {us vs ws : Tokens} {xs : List Label} → IsMoreLabels us xs vs → Passes (mark m.Colon) vs ws
    → next (is_mark m.Range) us ≡ false
unfolding same_mark
labels_plain no_more_labels c = mark_head m.Colon (is_mark m.Range) c.1
labels_plain (next_label p i r) c = mark_head m.Comma (is_mark m.Range) p.1

label_complete : {ts us : Tokens} {l : Label} → IsLabel ts l us → next (is_mark m.Range) us ≡ false
    → label_at ts ≡ Ok (l, us)
unfolding label_at named_label_at number_label_at range_of same_mark
label_complete (single n i eq) bare = let h = number_head i in rw (h.1, number_complete i, bare, eq) refl
label_complete (range a b i o j eq) bare =
    let h = number_head i in
    let d = mark_head m.Range (is_mark m.Range) o.1 in
    rw (h.1, number_complete i, d, one_complete o.1, number_complete j, eq) refl
label_complete (named v i eq) bare = rw (value_head i, one_complete i, eq) refl

pub colon_no_comma : {ts us : Tokens} → Passes (mark m.Colon) ts us → next (is_mark m.Comma) ts ≡ false
unfolding same_mark
colon_no_comma c = mark_head m.Colon (is_mark m.Comma) c.1

more_labels_complete : {ts us vs : Tokens} {xs : List Label} → IsMoreLabels ts xs us → Passes (mark m.Colon) us vs
    → Repeats (is_mark m.Comma) (after_comma label_at) ts xs us
more_labels_complete (no_more_labels {ts}) c =
    repeats_halt (is_mark m.Comma) (after_comma label_at) ts (colon_no_comma c)
more_labels_complete (next_label {ts} {us} {vs} {ws} {x} {xs} p i r) c =
    let less = is_less p.1 in
    let less' = label_less i in
    repeats_step (is_mark m.Comma) (after_comma label_at) ts vs ws x xs (comma_next p)
    (after_comma_complete label_at p (label_complete i (labels_plain r c))) (omega arith) (more_labels_complete r c)

head_of_complete : {us vs ws : Tokens} {ls : List Label} (l : Label) → IsMoreLabels us ls vs
    → Passes (mark m.Colon) vs ws → head_of l us ≡ Ok (l ∷ ls, ws)
unfolding head_of
head_of_complete {us = us} {vs = vs} {ls = ls} l r c = rw (
  several_complete (is_mark m.Comma) (after_comma label_at) us vs (l ∷ []) ls (more_labels_complete r c),
  one_complete c.1,
) refl

head_complete : {ts us vs : Tokens} {ls : List Label} → IsLabels ts ls us → Passes (mark m.Colon) us vs
    → head_at ts ≡ Ok (ls, vs)
unfolding head_at
head_complete (labels {x = l} i r) c = rw (label_complete i (labels_plain r c), head_of_complete l r c) refl

-- ---- the arms of a CASE, part by part

label_ends : {us vs ws : Tokens} {ls : List Label} → IsMoreLabels us ls vs → Passes (mark m.Colon) vs ws
    → next ends_label us ≡ true
unfolding same_mark
label_ends no_more_labels c = mark_head m.Colon ends_label c.1
label_ends (next_label p i r) c = mark_head m.Comma ends_label p.1

-- a value that is a name alone
abbrev Alone : Token → EnumeratedValue → Type 0
Alone t v = (x : Identifier) × (name t ≡ Some x) × (v ≡ value_at x.place None x.name)

alone : (t : Token) (v : EnumeratedValue) → value t ≡ Some v → is_name t.kind ≡ true → Alone t v
alone t v eq hit = let a = by_kind_of t.start t.kind v eq hit in (a.0, a.1, a.2)
  where
    given : {a b : EnumeratedValue} → Some a ≡ Some b → a ≡ b
    given eq = cc

    by_kind_of : (at : ℕ) (k : TokenKind) (v : EnumeratedValue) → value_in at k ≡ Some v → is_name k ≡ true
        → (x : Identifier) × (name_in at k ≡ Some x) × (v ≡ value_at x.place None x.name)
    by_kind_of at (Name n) v eq hit = (record { name = n; place = at }, refl, sym (given eq))
    by_kind_of at _ v eq hit = absurd cc

named_label : {ts us : Tokens} {l : Label} → IsLabel ts l us → next is_name ts ≡ true
    → (x : Identifier) × Is name ts x us × (l ≡ label_of x)
named_label (single n i eq) hit = let h = number_head i in absurd (true≢false (sym hit ∙ h.2))
named_label (range a b i o j eq) hit = let h = number_head i in absurd (true≢false (sym hit ∙ h.2))
named_label (named v (is {t} o) eq) hit =
    let a = alone t v o hit in
    (a.0, is a.1, eq ∙ ap label_forms.Enumerated a.2)

selectors_end : {us vs ws : Tokens} {xs : List Selector} → IsSelectors us xs vs → Passes (mark m.Assign) vs ws
    → next ends_label us ≡ false
unfolding same_mark
selectors_end no_selector o = mark_head m.Assign ends_label o.1
selectors_end (selector (member x p n eq) r) o = mark_head m.Dot ends_label p.1
selectors_end (selector (subscript x p i c eq) r) o = mark_head m.OpenBracket ends_label p.1

module _ (below : ℕ) (line : Parser Stmt) where
  abbrev Arrives : Arms → Tokens → List CaseArm → Tokens → Type 0
  Arrives a ts arms us = (n : ℕ) → length ts ≤ n
      → (z : Arms) × (loops starts_part (part_at below line) n a ts ≡ Ok (z, us)) × (all_arms z ≡ arms)

  arrived : (a : Arms) (ts : Tokens) → next starts_part ts ≡ false → Arrives a ts (all_arms a) ts
  arrived a ts eq n le = (a, halts starts_part (part_at below line) n a ts eq, refl)

  onward : (a a' : Arms) (ts us vs : Tokens) (arms : List CaseArm) → next starts_part ts ≡ true
      → part_at below line a ts ≡ Ok (a', us) → length us < length ts → Arrives a' us arms vs → Arrives a ts arms vs
  onward a a' ts us vs arms hit eq less others zero le = absurd (omega arith)
  onward a a' ts us vs arms hit eq less others (suc n) le =
      let o = others n (omega arith) in (
        o.0,
        turn_is starts_part (part_at below line) n a ts hit
            ∙ (ap (λ (r : Outcome Arms). and_then r (loops starts_part (part_at below line) n)) eq ∙ o.1),
        o.2,
      )

  headed_by_name : (a : Arms) {ts us vs ws : Tokens} {x : Identifier} {ls : List Label} → Is name ts x us
      → IsMoreLabels us ls vs → Passes (mark m.Colon) vs ws
      → part_at below line a ts ≡ Ok (with_arm a (label_of x ∷ ls), ws)
  unfolding part_at named_part next_arm_of
  headed_by_name a {x = x} n r c =
      rw (name_head is_name n, one_complete n, label_ends r c, head_of_complete (label_of x) r c) refl

  headed_by_other : (a : Arms) {ts us vs ws : Tokens} {l : Label} {ls : List Label} → next is_name ts ≡ false
      → IsLabel ts l us → IsMoreLabels us ls vs → Passes (mark m.Colon) vs ws
      → part_at below line a ts ≡ Ok (with_arm a (l ∷ ls), ws)
  unfolding part_at label_part next_arm_of
  headed_by_other a {l = l} miss i r c =
      rw (miss, label_head i, label_complete i (labels_plain r c), head_of_complete l r c) refl

  headed_is : (a : Arms) {ts us vs : Tokens} {ls : List Label} → IsLabels ts ls us → Passes (mark m.Colon) us vs
      → part_at below line a ts ≡ Ok (with_arm a ls, vs)
  headed_is a {ts = ts} (labels {x = l} i r) c = elim (cases_Bool (next is_name ts)) [
    | inl hit ↦ (let n = named_label i hit in rw n.2 (headed_by_name a n.1 r c))
    | inr miss ↦ headed_by_other a miss i r c
  ]

  lined_is : (a : Arms) {ts us : Tokens} {x : Stmt} → next is_name ts ≡ false → next starts_label ts ≡ false
      → line ts ≡ Ok (x, us) → part_at below line a ts ≡ Ok (with_stmt a x, us)
  unfolding part_at line_part
  lined_is a miss none eq = rw (miss, none, eq) refl

  named_line_is : (a : Arms) {ts us vs : Tokens} {f : Identifier} {x : Stmt} → Is name ts f us
      → next ends_label us ≡ false → named_line_of below f us ≡ Ok (x, vs)
      → part_at below line a ts ≡ Ok (with_stmt a x, vs)
  unfolding part_at named_part named_line_part
  named_line_is a n none eq = rw (name_head is_name n, one_complete n, none, eq) refl

-- ---- arguments

rest_stops : {us vs ws : Tokens} {xs : List Argument} → IsMoreArguments us xs vs → Passes (mark m.Close) vs ws
    → Stops us
rest_stops no_more_arguments c = close_stops c
rest_stops (next_argument p i r) c = comma_stops p

variable_complete : (depth : ℕ) {ts us : Tokens} {v : Variable} → IsVariable ts v us → depth_of_variable v ≤ depth
    → next starts_selector us ≡ false → variable_at depth ts ≡ Ok (v, us)
unfolding variable_at
variable_complete zero (selected {ts} {us} {vs} {v} x xs n s q) low stop =
    let low' : depth_of_variable (e.variable x (selectors_of xs)) ≤ zero =
    subst (λ (z : Variable). depth_of_variable z ≤ zero) q low in absurd (omega arith)
variable_complete (suc below) (selected {ts} {us} {vs} {v} x xs n s q) low stop =
    let low' : depth_of_variable (e.variable x (selectors_of xs)) ≤ suc below =
    subst (λ (z : Variable). depth_of_variable z ≤ suc below) q low in
    rw (one_complete n, q) (variable_of_complete below us vs x xs s (omega arith) stop)

given_complete : (below : ℕ) {ts us vs ws : Tokens} {x : Identifier} {v : Expr} → Is name ts x us
    → Passes (mark m.Assign) us vs → expr_at below 1 vs ≡ Ok (v, ws) → argument_at below ts ≡ Ok (s.given x v, ws)
unfolding argument_at given_of same_mark
given_complete below n o eq = let h = mark_head m.Assign (is_mark m.Assign) o.1 in
    rw (one_complete n, h, one_complete o.1, eq) refl

copied_complete : (below : ℕ) {ts us vs ws : Tokens} {x : Identifier} {v : Variable} → Is name ts x us
    → Passes (mark m.Arrow) us vs → variable_at below vs ≡ Ok (v, ws) → argument_at below ts ≡ Ok (s.copied x v, ws)
unfolding argument_at copied_of same_mark
copied_complete below n o eq = let h = mark_head m.Arrow (is_mark m.Assign) o.1 in
    rw (one_complete n, h, one_complete o.1, eq) refl

argument_complete : (below : ℕ) {ts us : Tokens} {a : Argument} → IsArgument ts a us → depth_of_argument a ≤ below
    → Stops us → argument_at below ts ≡ Ok (a, us)
argument_complete below (given {ts} {us} {vs} {ws} {a} x v n o i eq) low stop =
    let low' : depth_of_argument (s.given x v) ≤ below = subst (λ (z : Argument). depth_of_argument z ≤ below) eq low in
    rw eq (given_complete below n o (expr_complete below i low' stop))
argument_complete below (copied {ts} {us} {vs} {ws} {a} x v n o i eq) low stop =
    let low' : depth_of_argument (s.copied x v) ≤ below =
    subst (λ (z : Argument). depth_of_argument z ≤ below) eq low in
    let all = stops_all ws stop in
    rw eq (copied_complete below n o (variable_complete below i low' all.1.0))

more_arguments_complete : (below : ℕ) {ts us vs : Tokens} {xs : List Argument} → IsMoreArguments ts xs us
    → Passes (mark m.Close) us vs → deepest_argument xs ≤ below
    → Repeats (is_mark m.Comma) (after_comma (argument_at below)) ts xs us
more_arguments_complete below (no_more_arguments {ts}) c low =
    repeats_halt (is_mark m.Comma) (after_comma (argument_at below)) ts (close_no_comma c)
more_arguments_complete below (next_argument {ts} {us} {vs} {ws} {x} {xs} p i r) c low =
    let less = is_less p.1 in
    let less' = argument_less i in
    repeats_step (is_mark m.Comma) (after_comma (argument_at below)) ts vs ws x xs (comma_next p)
    (after_comma_complete (argument_at below) p (argument_complete below i (omega arith) (rest_stops r c)))
    (omega arith) (more_arguments_complete below r c (omega arith))

argument_open : {ts us : Tokens} {a : Argument} → IsArgument ts a us → next (is_mark m.Close) ts ≡ false
argument_open (given x v n o i eq) = name_head (is_mark m.Close) n
argument_open (copied x v n o i eq) = name_head (is_mark m.Close) n

no_arguments_complete : (below : ℕ) {ts us : Tokens} → Passes (mark m.Close) ts us → arguments_at below ts ≡ Ok ([], ts)
unfolding arguments_at same_mark
no_arguments_complete below c = let h = mark_head m.Close (is_mark m.Close) c.1 in rw h refl

some_arguments_complete : (below : ℕ) (ts us : Tokens) (xs : List Argument) → next (is_mark m.Close) ts ≡ false
    → listed (argument_at below) ts ≡ Ok (xs, us) → arguments_at below ts ≡ Ok (xs, us)
unfolding arguments_at
some_arguments_complete below ts us xs other eq = rw other eq

arguments_complete : (below : ℕ) {ts us vs : Tokens} {xs : List Argument} → IsArguments ts xs us
    → Passes (mark m.Close) us vs → deepest_argument xs ≤ below → arguments_at below ts ≡ Ok (xs, us)
arguments_complete below no_argument c low = no_arguments_complete below c
arguments_complete below (argument {ts} {us} {vs} {x} {xs} i r) c low =
    some_arguments_complete below ts vs (x ∷ xs) (argument_open i) (listed_complete (argument_at below)
    (argument_complete below i (omega arith) (rest_stops r c)) (more_arguments_complete below r c (omega arith)))

-- ---- statements without statements in them

by_keyword : {A : Type 0} (f : TokenKind → Parser A) (x : KeywordType) {ts us : Tokens} → Passes (keyword x) ts us
    → by_kind f ts ≡ f (Keyword x) ts
by_keyword f x (at, is {t} {us} eq) = ap (λ (k : TokenKind). f k (t ∷ us)) (keyword_kind x t at eq)

by_name : {A : Type 0} (f : TokenKind → Parser A) {ts us : Tokens} {x : Identifier} → Is name ts x us
    → by_kind f ts ≡ f (Name x.name) ts
by_name f {x = x} (is {t} {us} eq) = ap (λ (k : TokenKind). f k (t ∷ us)) (name_in_is t.start t.kind x eq)

by_semicolon : {A : Type 0} (f : TokenKind → Parser A) {ts us : Tokens} → Passes (mark m.Semicolon) ts us
    → by_kind f ts ≡ f (Mark m.Semicolon) ts
by_semicolon f (at, is {t} {us} eq) = ap (λ (k : TokenKind). f k (t ∷ us)) (mark_kind m.Semicolon t at eq)

step_complete : (below : ℕ) {ts us vs : Tokens} {o : Option Expr} → IsStep ts o us → Passes (keyword w.Do) us vs
    → depth_of_step o ≤ below → step_at below ts ≡ Ok (o, us)
unfolding step_at by_at same_keyword
step_complete below no_step d low = let h = keyword_head w.Do (is_keyword w.By) d.1 in rw h refl
step_complete below (step {ts} {us} {vs} {o} x p i eq) d low =
    let low' : depth_of_step (Some x) ≤ below = subst (λ (z : Option Expr). depth_of_step z ≤ below) eq low in
    let h = keyword_head w.By (is_keyword w.By) p.1 in
    rw (h, one_complete p.1, expr_complete below i low' (do_stops d), eq) refl

module _ (below : ℕ) (line : Parser Stmt) where
  assign_complete : {ts us vs ws zs : Tokens} {x : Identifier} {xs : List Selector} {value : Expr} → Is name ts x us
      → IsSelectors us xs vs → deepest_subscript (selectors_of xs) ≤ below - 1 → Passes (mark m.Assign) vs ws
      → expr_at below 1 ws ≡ Ok (value, zs)
      → stmt_at below line ts ≡ Ok (s.assign (e.variable x (selectors_of xs)) value, zs)
  unfolding stmt_at named_at named_of assign_of same_mark
  assign_complete {us = us} {vs = vs} {x = x} {xs = xs} n i low o eq =
      let bare = open_first i (mark_head m.Assign (is_mark m.Open) o.1) in
      let stop = mark_head m.Assign starts_selector o.1 in
      by_name (stmt_by below line) n
      ∙ rw (one_complete n, bare, variable_of_complete (below - 1) us vs x xs i low stop, one_complete o.1, eq) refl

  invoke_complete : {ts us vs ws zs : Tokens} {f : Identifier} {xs : List Argument} → Is name ts f us
      → Passes (mark m.Open) us vs → arguments_at below vs ≡ Ok (xs, ws) → Passes (mark m.Close) ws zs
      → stmt_at below line ts ≡ Ok (s.invoke f xs, zs)
  unfolding stmt_at named_at named_of invoke_of same_mark
  invoke_complete n o eq c = let h = mark_head m.Open (is_mark m.Open) o.1 in
      by_name (stmt_by below line) n ∙ rw (one_complete n, h, one_complete o.1, eq, one_complete c.1) refl

  empty_complete : {ts us : Tokens} → Passes (mark m.Semicolon) ts us → stmt_at below line ts ≡ Ok (s.empty, ts)
  unfolding stmt_at
  empty_complete o = by_semicolon (stmt_by below line) o

  exit_complete : {ts us : Tokens} {at : ℕ} → Is (keyword w.Exit) ts at us → stmt_at below line ts ≡ Ok (s.EXIT at, us)
  unfolding stmt_at exit_at
  exit_complete {at = at} o = by_keyword (stmt_by below line) w.Exit (at, o) ∙ rw (one_complete o) refl

  return_complete : {ts us : Tokens} → Passes (keyword w.Return) ts us → stmt_at below line ts ≡ Ok (s.RETURN, us)
  unfolding stmt_at return_at
  return_complete o = by_keyword (stmt_by below line) w.Return o ∙ rw (one_complete o.1) refl

  -- ---- statements with statements in them

  arm_is : (ts us vs ws : Tokens) (x : Expr) (body : List Stmt) → expr_at below 1 ts ≡ Ok (x, us)
      → Passes (keyword w.Then) us vs → lines line vs ≡ Ok (body, ws) → arm_at below line ts ≡ Ok ((x, stmts_of body), ws)
  unfolding arm_at
  arm_is ts us vs ws x body eq t same = rw (eq, one_complete t.1, same) refl

  elsif_is : {ts us vs : Tokens} {a : Arm} → Passes (keyword w.Elsif) ts us → arm_at below line us ≡ Ok (a, vs)
      → elsif_at below line ts ≡ Ok (a, vs)
  unfolding elsif_at
  elsif_is p eq = rw (one_complete p.1) eq

  otherwise_is : {ts us vs : Tokens} {xs : List Stmt} → Passes (keyword w.Else) ts us → lines line us ≡ Ok (xs, vs)
      → else_at below line ts ≡ Ok (xs, vs)
  unfolding else_at otherwise_at same_keyword
  otherwise_is p eq = let h = keyword_head w.Else (is_keyword w.Else) p.1 in rw (h, one_complete p.1) eq

  no_else_is : {ts : Tokens} → next (is_keyword w.Else) ts ≡ false → else_at below line ts ≡ Ok ([], ts)
  unfolding else_at
  no_else_is other = rw other refl

  if_is : {ts us vs ws zs qs : Tokens} {a : Arm} {arms : List Arm} {other : List Stmt} → Passes (keyword w.If) ts us
      → arm_at below line us ≡ Ok (a, vs) → Repeats (is_keyword w.Elsif) (elsif_at below line) vs arms ws
      → else_at below line ws ≡ Ok (other, zs)
      → Passes (keyword w.EndIf) zs qs → stmt_at below line ts ≡ Ok (s.IF (arms_of (a ∷ arms)) (stmts_of other), qs)
  unfolding stmt_at if_at
  if_is {vs = vs} {ws = ws} {a = a} {arms = arms} o eq r same c =
      by_keyword (stmt_by below line) w.If o ∙ rw (
        one_complete o.1,
        eq,
        several_complete (is_keyword w.Elsif) (elsif_at below line) vs ws (a ∷ []) arms r,
        same,
        one_complete c.1,
      ) refl

  some_arms_is : (ts us vs : Tokens) (ls : List Label) (arms : List CaseArm) → next starts_label ts ≡ true
      → head_at ts ≡ Ok (ls, us) → Arrives below line (first_arm ls) us arms vs
      → case_arms_at below line ts ≡ Ok (arms, vs)
  unfolding case_arms_at some_arms_at turns
  some_arms_is ts us vs ls arms hit eq others = let o = others (length us) (omega arith) in rw (hit, eq, o.1, o.2) refl

  no_arms_is : {ts : Tokens} → next starts_label ts ≡ false → case_arms_at below line ts ≡ Ok ([], ts)
  unfolding case_arms_at
  no_arms_is miss = rw miss refl

  case_is : {ts us vs ws zs qs rs : Tokens} {x : Expr} {arms : List CaseArm} {other : List Stmt}
      → Passes (keyword w.Case) ts us → expr_at below 1 us ≡ Ok (x, vs) → Passes (keyword w.Of) vs ws
      → case_arms_at below line ws ≡ Ok (arms, zs)
      → else_at below line zs ≡ Ok (other, qs) → Passes (keyword w.EndCase) qs rs
      → stmt_at below line ts ≡ Ok (s.CASE x (case_arms_of arms) (stmts_of other), rs)
  unfolding stmt_at choices_at case_at
  case_is o eq p arms same c = by_keyword (stmt_by below line) w.Case o
      ∙ rw (one_complete o.1, eq, one_complete p.1, arms, same, one_complete c.1) refl

  for_is : {ts us vs ws zs qs rs ns os ps ms : Tokens} {x : Identifier} {start limit : Expr} {by : Option Expr}
      {body : List Stmt} → Passes (keyword w.For) ts us → Is name us x vs → Passes (mark m.Assign) vs ws
      → expr_at below 1 ws ≡ Ok (start, zs)
      → Passes (keyword w.To) zs qs → expr_at below 1 qs ≡ Ok (limit, rs) → step_at below rs ≡ Ok (by, ns)
      → Passes (keyword w.Do) ns os → lines line os ≡ Ok (body, ps) → Passes (keyword w.EndFor) ps ms
      → stmt_at below line ts ≡ Ok (s.FOR x start limit by (stmts_of body), ms)
  unfolding stmt_at bounds_at between for_at
  for_is o n p eq t eq' st d same c = by_keyword (stmt_by below line) w.For o ∙ rw (
    one_complete o.1,
    one_complete n,
    one_complete p.1,
    eq,
    one_complete t.1,
    eq',
    st,
    one_complete d.1,
    same,
    one_complete c.1,
  ) refl

  while_is : {ts us vs ws zs qs : Tokens} {x : Expr} {body : List Stmt} → Passes (keyword w.While) ts us
      → expr_at below 1 us ≡ Ok (x, vs) → Passes (keyword w.Do) vs ws → lines line ws ≡ Ok (body, zs)
      → Passes (keyword w.EndWhile) zs qs
      → stmt_at below line ts ≡ Ok (s.WHILE x (stmts_of body), qs)
  unfolding stmt_at between while_at
  while_is o eq d same c = by_keyword (stmt_by below line) w.While o
      ∙ rw (one_complete o.1, eq, one_complete d.1, same, one_complete c.1) refl

  repeat_is : {ts us vs ws zs qs : Tokens} {x : Expr} {body : List Stmt} → Passes (keyword w.Repeat) ts us
      → lines line us ≡ Ok (body, vs) → Passes (keyword w.Until) vs ws → expr_at below 1 ws ≡ Ok (x, zs)
      → Passes (keyword w.EndRepeat) zs qs
      → stmt_at below line ts ≡ Ok (s.REPEAT (stmts_of body) x, qs)
  unfolding stmt_at repeat_at
  repeat_is o same u eq c = by_keyword (stmt_by below line) w.Repeat o
      ∙ rw (one_complete o.1, same, one_complete u.1, eq, one_complete c.1) refl

-- ---- the ends of lists of statements

else_next : (f : TokenKind → Bool) (x : KeywordType) {ts us vs : Tokens} {xs : List Stmt} → IsElse ts xs us
    → Passes (keyword x) us vs → f (Keyword w.Else) ≡ false → f (Keyword x) ≡ false → next f ts ≡ false
else_next f x no_else c a b = keyword_head x f c.1 ∙ b
else_next f x (otherwise p i) c a b = keyword_head w.Else f p.1 ∙ a

arms_next : (f : TokenKind → Bool) {ts us vs ws : Tokens} {arms : List Arm} {xs : List Stmt} → IsMoreArms ts arms us
    → IsElse us xs vs → Passes (keyword w.EndIf) vs ws → f (Keyword w.Elsif) ≡ false → f (Keyword w.Else) ≡ false
    → f (Keyword w.EndIf) ≡ false → next f ts ≡ false
arms_next f no_more_arms i c a b d = else_next f w.EndIf i c b d
arms_next f (elsif p x r) i c a b d = keyword_head w.Elsif f p.1 ∙ a

pub stmt_next : {ts us vs : Tokens} {x : Stmt} → IsStmt ts x us → Passes (mark m.Semicolon) us vs
    → next starts_stmt ts ≡ true
unfolding same_mark
stmt_next (empty q) o = mark_head m.Semicolon starts_stmt o.1
stmt_next (assign v value (selected x xs n i r) p j q) o = name_head starts_stmt n
stmt_next (invoke f xs n p i c q) o = name_head starts_stmt n
stmt_next (choose arm' arms other p a b c d q) o = keyword_head w.If starts_stmt p.1
stmt_next (select chosen arms other p i r a b c q) o = keyword_head w.Case starts_stmt p.1
stmt_next (count control start limit by body p n r i t j st d b f q) o = keyword_head w.For starts_stmt p.1
stmt_next (repeat_while condition body p i d b f q) o = keyword_head w.While starts_stmt p.1
stmt_next (repeat_until body condition p b u i f q) o = keyword_head w.Repeat starts_stmt p.1
stmt_next (exit at p q) o = keyword_head w.Exit starts_stmt p
stmt_next (leave p q) o = keyword_head w.Return starts_stmt p.1

line_complete : (below : ℕ) (ts us vs : Tokens) (x : Stmt) → stmt_at below (line_at below) ts ≡ Ok (x, us)
    → Passes (mark m.Semicolon) us vs → line_at (suc below) ts ≡ Ok (x, vs)
unfolding line_at
line_complete below ts us vs x eq o = rw (eq, one_complete o.1) refl

lines_complete : (depth : ℕ) (ts us : Tokens) (xs : List Stmt) → Repeats starts_stmt (line_at depth) ts xs us
    → stmts_at depth ts ≡ Ok (xs, us)
unfolding lines
lines_complete depth ts us xs r = several_complete starts_stmt (line_at depth) ts us [] xs r

-- ---- all

lower : (x y : Stmt) (n : ℕ) → x ≡ y → depth_of_stmt x ≤ n → depth_of_stmt y ≤ n
lower x y n eq low = subst (λ (z : Stmt). depth_of_stmt z ≤ n) eq low

elsif_word : {ts us : Tokens} → Passes (keyword w.Elsif) ts us → next (is_keyword w.Elsif) ts ≡ true
unfolding same_keyword
elsif_word p = keyword_head w.Elsif (is_keyword w.Elsif) p.1

no_elsif : {ts us vs : Tokens} {xs : List Stmt} → IsElse ts xs us → Passes (keyword w.EndIf) us vs
    → next (is_keyword w.Elsif) ts ≡ false
unfolding same_keyword
no_elsif i c = else_next (is_keyword w.Elsif) w.EndIf i c refl refl

no_else_word : (x : KeywordType) {ts us : Tokens} → Passes (keyword x) ts us → is_keyword w.Else (Keyword x) ≡ false
    → next (is_keyword w.Else) ts ≡ false
no_else_word x c eq = keyword_head x (is_keyword w.Else) c.1 ∙ eq

end_if_word : is_keyword w.Else (Keyword w.EndIf) ≡ false
unfolding same_keyword
end_if_word = refl

end_case_word : is_keyword w.Else (Keyword w.EndCase) ≡ false
unfolding same_keyword
end_case_word = refl

-- an arm with other statements, and with more of them
abbrev with_body : Arms → List Stmt → Arms
with_body a xs = record { before = a.before; labels = a.labels; body = xs }

abbrev with_stmts : Arms → List Stmt → Arms
with_stmts a xs = with_body a (a.body ++ xs)

line_named : (below : ℕ) {ts us : Tokens} {f : Identifier} → Is name ts f us
    → line_at (suc below) ts ≡ named_line_of (suc below) f us
unfolding line_at stmt_at named_at named_line_of
line_named below n =
    ap (λ (r : Outcome Stmt). and_then r closed) (by_name (stmt_by below (line_at below)) n) ∙ rw (one_complete n) refl

-- a line in an arm
line_part_is : {ts us vs : Tokens} {x : Stmt} → IsStmt ts x us → Passes (mark m.Semicolon) us vs → (below : ℕ)
    → line_at (suc below) ts ≡ Ok (x, vs) → (a : Arms)
    → part_at (suc below) (line_at (suc below)) a ts ≡ Ok (with_stmt a x, vs)
unfolding same_mark
line_part_is (empty q) o below eq a = lined_is (suc below) (line_at (suc below)) a
    (mark_head m.Semicolon is_name o.1) (mark_head m.Semicolon starts_label o.1) eq
line_part_is (assign v value (selected y xs n i r) p j q) o below eq a =
    named_line_is (suc below) (line_at (suc below)) a n (selectors_end i p) (sym (line_named below n) ∙ eq)
line_part_is (invoke f xs n p i c q) o below eq a = named_line_is (suc below) (line_at (suc below)) a n
    (mark_head m.Open ends_label p.1) (sym (line_named below n) ∙ eq)
line_part_is (choose y ys other p i r j c q) o below eq a = lined_is (suc below) (line_at (suc below)) a
    (keyword_head w.If is_name p.1) (keyword_head w.If starts_label p.1) eq
line_part_is (select chosen arms other p i d r j c q) o below eq a = lined_is (suc below) (line_at (suc below)) a
    (keyword_head w.Case is_name p.1) (keyword_head w.Case starts_label p.1) eq
line_part_is (count control start limit by body p n k i t j st d b c q) o below eq a =
    lined_is (suc below) (line_at (suc below)) a (keyword_head w.For is_name p.1) (keyword_head w.For starts_label p.1) eq
line_part_is (repeat_while condition body p i d b c q) o below eq a = lined_is (suc below) (line_at (suc below)) a
    (keyword_head w.While is_name p.1) (keyword_head w.While starts_label p.1) eq
line_part_is (repeat_until body condition p b u i c q) o below eq a = lined_is (suc below) (line_at (suc below)) a
    (keyword_head w.Repeat is_name p.1) (keyword_head w.Repeat starts_label p.1) eq
line_part_is (exit at p q) o below eq a = lined_is (suc below) (line_at (suc below)) a
    (keyword_head w.Exit is_name p) (keyword_head w.Exit starts_label p) eq
line_part_is (leave p q) o below eq a = lined_is (suc below) (line_at (suc below)) a
    (keyword_head w.Return is_name p.1) (keyword_head w.Return starts_label p.1) eq

mutual
  pub stmt_complete : {ts us vs : Tokens} {x : Stmt} → IsStmt ts x us → Passes (mark m.Semicolon) us vs → (below : ℕ)
      → depth_of_stmt x ≤ below + 1 → stmt_at below (line_at below) ts ≡ Ok (x, us)
  stmt_complete (empty {ts} {x} q) o below low = rw q (empty_complete below (line_at below) o)
  stmt_complete (assign {ts} {us} {vs} {ws} {x} v value (selected {v = v'} y xs n i r) p j q) o below low =
      let low' = lower x (s.assign v value) (below + 1) q low in
      let low'' : depth_of_variable (e.variable y (selectors_of xs)) ≤ below =
      subst (λ (z : Variable). depth_of_variable z ≤ below) r (omega arith) in
      rw (q, r) (assign_complete below (line_at below) n i (omega arith) p
      (expr_complete below j (omega arith) (semicolon_stops o)))
  stmt_complete (invoke {ts} {us} {vs} {ws} {zs} {x} f xs n p i c q) o below low =
      let low' = lower x (s.invoke f xs) (below + 1) q low in
      rw q (invoke_complete below (line_at below) n p (arguments_complete below i c (omega arith)) c)
  stmt_complete (choose {ts} {us} {vs} {ws} {zs} {qs} {x} a arms other p i r j c q) o below low =
      let low' = lower x (s.IF (arms_of (a ∷ arms)) (stmts_of other)) (below + 1) q low in
      rw q
      (if_is below (line_at below) p (arm_complete i below (omega arith) (arms_next starts_stmt r j c refl refl refl))
      (more_arms_complete r j c below (omega arith)) (else_complete w.EndIf j c refl end_if_word below (omega arith)) c)
  stmt_complete (select {ts} {us} {vs} {ws} {zs} {qs} {rs} {x} chosen arms other p i d r j c q) o below low =
      let low' = lower x (s.CASE chosen (case_arms_of arms) (stmts_of other)) (below + 1) q low in
      rw q (case_is below (line_at below) p (expr_complete below i (omega arith) (of_stops d)) d
      (case_arms_complete r j c below (omega arith))
      (else_complete w.EndCase j c refl end_case_word below (omega arith)) c)
  stmt_complete (count {ts} {us} {vs} {ws} {zs} {qs} {rs} {ns} {os} {ps} {ms} {x} control start limit by body p n a i t
      j st d b c q) o below low =
      let low' = lower x (s.FOR control start limit by (stmts_of body)) (below + 1) q low in
      rw q (for_is below (line_at below) p n a (expr_complete below i (omega arith) (to_stops t)) t
      (expr_complete below j (omega arith) (step_stops st d)) (step_complete below st d (omega arith)) d
      (lines_complete below os ps body
      (stmts_complete b below (omega arith) (keyword_head w.EndFor starts_stmt c.1))) c)
  stmt_complete (repeat_while {ts} {us} {vs} {ws} {zs} {qs} {x} condition body p i d b c q) o below low =
      let low' = lower x (s.WHILE condition (stmts_of body)) (below + 1) q low in
      rw q (while_is below (line_at below) p (expr_complete below i (omega arith) (do_stops d)) d
      (lines_complete below ws zs body
      (stmts_complete b below (omega arith) (keyword_head w.EndWhile starts_stmt c.1))) c)
  stmt_complete (repeat_until {ts} {us} {vs} {ws} {zs} {qs} {x} body condition p b u i c q) o below low =
      let low' = lower x (s.REPEAT (stmts_of body) condition) (below + 1) q low in
      rw q (repeat_is below (line_at below) p (lines_complete below us vs body (stmts_complete b below (omega arith)
      (keyword_head w.Until starts_stmt u.1))) u (expr_complete below i (omega arith) (end_repeat_stops c)) c)
  stmt_complete (exit {ts} {us} {x} at p q) o below low = rw q (exit_complete below (line_at below) p)
  stmt_complete (leave {ts} {us} {x} p q) o below low = rw q (return_complete below (line_at below) p)

  pub stmts_complete : {ts us : Tokens} {xs : List Stmt} → IsStmts ts xs us → (depth : ℕ)
      → deepest_stmt (stmts_of xs) ≤ depth → next starts_stmt us ≡ false → Repeats starts_stmt (line_at depth) ts xs us
  stmts_complete (no_stmt {ts}) depth low stop = repeats_halt starts_stmt (line_at depth) ts stop
  stmts_complete (stmt {ts} {us} {vs} {ws} {x} {xs} i o r) zero low stop =
      let some = stmt_some x in absurd (omega arith)
  stmts_complete (stmt {ts} {us} {vs} {ws} {x} {xs} i o r) (suc below) low stop =
      let less = stmt_less i in
      let less' = is_less o.1 in
      repeats_step starts_stmt (line_at (suc below)) ts vs ws x xs (stmt_next i o) (line_complete below ts us vs x
      (stmt_complete i o below (omega arith)) o) (omega arith) (stmts_complete r (suc below) (omega arith) stop)

  arm_complete : {ts us : Tokens} {a : Arm} → IsArm ts a us → (below : ℕ)
      → max (depth_of a.0) (deepest_stmt a.1) ≤ below
      → next starts_stmt us ≡ false → arm_at below (line_at below) ts ≡ Ok (a, us)
  arm_complete (arm {ts} {us} {vs} {ws} {a} condition body i t b q) below low stop =
      let low' : max (depth_of condition) (deepest_stmt (stmts_of body)) ≤ below =
      subst (λ (z : Arm). max (depth_of z.0) (deepest_stmt z.1) ≤ below) q low in
      rw q (arm_is below (line_at below) ts us vs ws condition body
      (expr_complete below i (omega arith) (then_stops t)) t
      (lines_complete below vs ws body (stmts_complete b below (omega arith) stop)))

  more_arms_complete : {ts us vs ws : Tokens} {arms : List Arm} {other : List Stmt} → IsMoreArms ts arms us
      → IsElse us other vs → Passes (keyword w.EndIf) vs ws → (below : ℕ) → deepest_arm (arms_of arms) ≤ below
      → Repeats (is_keyword w.Elsif) (elsif_at below (line_at below)) ts arms us
  more_arms_complete (no_more_arms {ts}) j c below low =
      repeats_halt (is_keyword w.Elsif) (elsif_at below (line_at below)) ts (no_elsif j c)
  more_arms_complete (elsif {ts} {us} {vs} {ws} {x} {xs} p a r) j c below low =
      let less = is_less p.1 in
      let less' = arm_less a in
      repeats_step (is_keyword w.Elsif) (elsif_at below (line_at below)) ts vs ws x xs (elsif_word p) (elsif_is below
      (line_at below) p (arm_complete a below (omega arith) (arms_next starts_stmt r j c refl refl refl)))
      (omega arith) (more_arms_complete r j c below (omega arith))

  else_complete : (x : KeywordType) {ts us vs : Tokens} {xs : List Stmt} → IsElse ts xs us → Passes (keyword x) us vs
      → starts_stmt (Keyword x) ≡ false → is_keyword w.Else (Keyword x) ≡ false → (below : ℕ)
      → deepest_stmt (stmts_of xs) ≤ below → else_at below (line_at below) ts ≡ Ok (xs, us)
  else_complete x no_else c a b below low = no_else_is below (line_at below) (no_else_word x c b)
  else_complete x (otherwise {ts} {us} {vs} {xs} p i) c a b below low = otherwise_is below (line_at below) p
      (lines_complete below us vs xs (stmts_complete i below low (keyword_head x starts_stmt c.1 ∙ a)))

  -- the statements of the last arm, and then what follows
  arm_arrives : {ts us : Tokens} {xs : List Stmt} → IsStmts ts xs us → (depth : ℕ)
      → deepest_stmt (stmts_of xs) ≤ depth → (a : Arms) (arms : List CaseArm) (vs : Tokens)
      → Arrives depth (line_at depth) (with_stmts a xs) us arms vs → Arrives depth (line_at depth) a ts arms vs
  arm_arrives (no_stmt {ts}) depth low a arms vs others = subst
      (λ (ys : List Stmt). Arrives depth (line_at depth) (with_body a ys) ts arms vs) (append-nil a.body) others
  arm_arrives (stmt {ts} {us} {vs} {ws} {x} {xs} i o r) zero low a arms zs others =
      let some = stmt_some x in absurd (omega arith)
  arm_arrives (stmt {ts} {us} {vs} {ws} {x} {xs} i o r) (suc below) low a arms zs others =
      let less = stmt_less i in
      let less' = is_less o.1 in
      onward (suc below) (line_at (suc below)) a (with_stmt a x) ts vs zs arms
      (or_right starts_label starts_stmt ts (stmt_next i o))
      (line_part_is i o below (line_complete below ts us vs x (stmt_complete i o below (omega arith)) o) a) (omega arith)
      (arm_arrives r (suc below) (omega arith) (with_stmt a x) arms zs
      (subst (λ (ys : List Stmt). Arrives (suc below) (line_at (suc below)) (with_body a ys) ws arms zs)
      (sym (append_assoc a.body (x ∷ []) xs)) others))

  -- other arms after those so far
  arms_arrive : {ts us vs ws : Tokens} {arms : List CaseArm} {other : List Stmt} → IsCaseArms ts arms us
      → IsElse us other vs → Passes (keyword w.EndCase) vs ws → (below : ℕ) → deepest_case_arm (case_arms_of arms)
      ≤ below → (a : Arms) → Arrives below (line_at below) a ts (all_arms a ++ arms) us
  arms_arrive (no_case_arm {ts}) j c below low a =
      subst (λ (ys : List CaseArm). Arrives below (line_at below) a ts ys ts) (sym (append-nil (all_arms a)))
      (arrived below (line_at below) a ts (else_next starts_part w.EndCase j c refl refl))
  arms_arrive (next_case_arm {ts} {us} {vs} {x} {xs} (case_arm {us = ks} {vs = os} ls body i d b q) r) j c below low a =
      let low' : deepest_stmt (stmts_of body) ≤ below =
      subst (λ (z : CaseArm). deepest_stmt z.1 ≤ below) q (omega arith) in
      let less = labels_less i in
      let less' = is_less d.1 in
      onward below (line_at below) a (with_arm a ls) ts os vs (all_arms a ++ x ∷ xs)
      (or_left starts_label starts_stmt ts (labels_head i)) (headed_is below (line_at below) a i d) (omega arith)
      (arm_arrives b below low' (with_arm a ls) (all_arms a ++ x ∷ xs) vs
      (subst (λ (ys : List CaseArm). Arrives below (line_at below) (with_stmts (with_arm a ls) body) us ys vs)
      (rw q (append_assoc (all_arms a) ((ls, stmts_of body) ∷ []) xs))
      (arms_arrive r j c below (omega arith) (with_stmts (with_arm a ls) body))))

  case_arms_complete : {ts us vs ws : Tokens} {arms : List CaseArm} {other : List Stmt} → IsCaseArms ts arms us
      → IsElse us other vs → Passes (keyword w.EndCase) vs ws → (below : ℕ) → deepest_case_arm (case_arms_of arms)
      ≤ below → case_arms_at below (line_at below) ts ≡ Ok (arms, us)
  case_arms_complete (no_case_arm {ts}) j c below low =
      no_arms_is below (line_at below) (else_next starts_label w.EndCase j c refl refl)
  case_arms_complete (next_case_arm {ts} {us} {vs} {x} {xs} (case_arm {us = ks} {vs = os} ls body i d b q) r) j c below
      low =
      let low' : deepest_stmt (stmts_of body) ≤ below =
      subst (λ (z : CaseArm). deepest_stmt z.1 ≤ below) q (omega arith) in
      some_arms_is below (line_at below) ts os vs ls (x ∷ xs) (labels_head i) (head_complete i d)
      (arm_arrives b below low' (first_arm ls) (x ∷ xs) vs
      (rw q (arms_arrive r j c below (omega arith) (with_stmts (first_arm ls) body))))

pub all_complete : (depth : ℕ) {ts us : Tokens} {xs : List Stmt} → IsStmts ts xs us → deepest_stmt (stmts_of xs) ≤ depth
    → next starts_stmt us ≡ false → stmts_at depth ts ≡ Ok (xs, us)
all_complete depth {ts = ts} {us = us} {xs = xs} i low stop =
    lines_complete depth ts us xs (stmts_complete i depth low stop)
