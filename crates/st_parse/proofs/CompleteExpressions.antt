-- An expression is read.
use Rattle.std.proofs.Common.{◌≡◌, ℕ, zero, suc, ◌+◌, ◌<◌, ◌≤◌, ltb, cond, Bool, true, false, ◌||◌, List, [], ◌∷◌}
use Rattle.std.proofs.Common.{length, Option, Some, None, Ok, Err, refl, ap, subst, ◌∙◌, arith, inl, inr}
use Rattle.std.proofs.lemmas.Bool.{cases_Bool, ltb-false, ltb-true, leb-false, le-ltb, lt-leb, le-leb}
use Rattle.st_types.specs.declared.identifier.Identifier.{Identifier}
use Rattle.st_types.specs.declared.literal.Number.{Number as NumberLeaf}
use Rattle.st_types.specs.declared.literal.Literal.{Literal}
use Rattle.st_types.specs.declared.literal.Literal.TheVariants as literals
use Rattle.st_types.specs.declared.operator.UnaryOperator.TheVariants.{Negate, Not}
use Rattle.st_types.specs.declared.operator.BinaryOperator.{BinaryOperator}
use Rattle.st_lex.specs.declared.token.Token.{Token}
use Rattle.st_lex.specs.declared.token.TokenKind.{TokenKind}
use Rattle.st_lex.specs.declared.token.TokenKind.TheVariants.{Name, Keyword, Mark, Number, Truth, Duration, Enumerated}
use Rattle.st_lex.specs.declared.mark.Mark.TheVariants as m
use Rattle.st_lex.specs.declared.keyword.Keyword.TheVariants as w
use Rattle.st_types.specs.Expressions.{Expr, Variable, Selector, exprs_of, selectors_of}
use Rattle.st_types.specs.Expressions as e
use Rattle.st_types.specs.Depths.{depth_of, depth_of_variable, depth_of_subscript, deepest, deepest_subscript}
use Rattle.st_parse.specs.Tokens.{Tokens, next, Is, is, Passes, mark, keyword, name, literal_in, whole}
use Rattle.st_parse.specs.Tokens.{literal as literal_of, negative_at, is_mark, is_keyword, is_number, same_mark}
use Rattle.st_parse.specs.Tokens.{same_keyword}
use Rattle.st_parse.specs.Operators.{operator_in, operator, binds_of, is_within, goes_on, operand_level}
use Rattle.st_parse.specs.declared.fault.Refusal.TheVariants.{Unexpected}
use Rattle.st_parse.specs.Parsers.{Outcome, Parser, and_then, loops, turns, after_comma}
use Rattle.st_parse.specs.ExpressionReading.{starts_selector, starts_operand, continues, parenthesis_at, member_at}
use Rattle.st_parse.specs.ExpressionReading.{subscript_at, selector_at, selectors_at, variable_of, read_of}
use Rattle.st_parse.specs.ExpressionReading.{arguments_at, call_of, named_at, literal_at, operand_by, operand_at}
use Rattle.st_parse.specs.ExpressionReading.{negative_of, negated_of, minus_at, not_at, unary_at, operation_of}
use Rattle.st_parse.specs.ExpressionReading.{operation_within, operators_at, expr_at}
use Rattle.st_parse.specs.Expressions.{IsExpr, literal, variable, call, parenthesis, negative, negated, inverted}
use Rattle.st_parse.specs.Expressions.{binary, IsVariable, selected, IsSelectors, no_selector, selector}
use Rattle.st_parse.specs.Expressions.{IsSelector, member, subscript, IsExprs, no_argument, argument}
use Rattle.st_parse.specs.Expressions.{IsMoreExprs, no_more_arguments, next_argument}
use Rattle.st_parse.proofs.SoundReadings.{mark_is}
use Rattle.st_parse.proofs.SoundTurns.{halts, turn_is}
use Rattle.st_parse.proofs.ExpressionFacts.{is_less, expr_less, selector_less, depth_some, binds_small, or_false}
use Rattle.st_parse.proofs.SoundExpressions.{operand_at_refuses, none_binds}
use Rattle.st_parse.proofs.Complete.{one_complete, mark_head, keyword_head, name_head, name_in_is, whole_head}
use Rattle.st_parse.proofs.Complete.{Repeats, repeats_halt, repeats_step, several_complete, after_comma_complete}
use Rattle.st_parse.proofs.Complete.{comma_next, listed_complete}

-- ---- the tokens after it

-- no token that continues a name
abbrev pub Closed : Tokens → Type 0
Closed us = (next starts_selector us ≡ false) × (next (is_mark m.Open) us ≡ false)

-- no token that continues an expression
abbrev pub Stops : Tokens → Type 0
Stops us = next continues us ≡ false

pub stops_all : (us : Tokens) → Stops us → (next (goes_on 1) us ≡ false) × Closed us
stops_all [] eq = (refl, (refl, refl))
stops_all (t ∷ us) eq =
    let a = or_false (goes_on 1 t.kind) (is_mark m.Open t.kind || starts_selector t.kind) eq in
    let b = or_false (is_mark m.Open t.kind) (starts_selector t.kind) a.1 in
    (a.0, (b.1, b.0))

later : (j k : ℕ) (o : Option BinaryOperator) → j ≤ k → is_within j o ≡ false → is_within k o ≡ false
later j k None le eq = refl
later j k (Some op) le eq = let h = leb-false _ _ eq in lt-leb _ _ (omega arith)

pub stops_later : (j k : ℕ) (us : Tokens) → j ≤ k → next (goes_on j) us ≡ false → next (goes_on k) us ≡ false
stops_later j k [] le eq = refl
stops_later j k (t ∷ us) le eq = later j k (operator_in t.kind) le eq

pub close_stops : {ts us : Tokens} → Passes (mark m.Close) ts us → Stops ts
unfolding same_mark
close_stops p = mark_head m.Close continues p.1

pub bracket_stops : {ts us : Tokens} → Passes (mark m.CloseBracket) ts us → Stops ts
unfolding same_mark
bracket_stops p = mark_head m.CloseBracket continues p.1

pub comma_stops : {ts us : Tokens} → Passes (mark m.Comma) ts us → Stops ts
unfolding same_mark
comma_stops p = mark_head m.Comma continues p.1

rest_stops : {us vs ws : Tokens} {xs : List Expr} → IsMoreExprs us xs vs → Passes (mark m.Close) vs ws → Stops us
rest_stops no_more_arguments c = close_stops c
rest_stops (next_argument p i r) c = comma_stops p

kind_closes : (k : TokenKind) (op : BinaryOperator) → operator_in k ≡ Some op
    → (starts_selector k ≡ false) × (is_mark m.Open k ≡ false)
unfolding same_mark
kind_closes (Keyword k) op eq = (refl, refl)
kind_closes (Mark m.Equal) op eq = (refl, refl)
kind_closes (Mark m.NotEqual) op eq = (refl, refl)
kind_closes (Mark m.Less) op eq = (refl, refl)
kind_closes (Mark m.Greater) op eq = (refl, refl)
kind_closes (Mark m.LessOrEqual) op eq = (refl, refl)
kind_closes (Mark m.GreaterOrEqual) op eq = (refl, refl)
kind_closes (Mark m.Plus) op eq = (refl, refl)
kind_closes (Mark m.Minus) op eq = (refl, refl)
kind_closes (Mark m.Star) op eq = (refl, refl)
kind_closes (Mark m.Slash) op eq = (refl, refl)
kind_closes _ op eq = absurd cc

operator_closes : {us vs : Tokens} {op : BinaryOperator} → Is operator us op vs → Closed us
operator_closes {op = op} (is {t} eq) = kind_closes t.kind op eq

-- an operator has its own strength
operator_next : (least : ℕ) {us vs : Tokens} {op : BinaryOperator} → Is operator us op vs → least ≤ binds_of op
    → next (goes_on least) us ≡ true
operator_next least (is eq) le = rw eq (le-leb _ _ le)

operator_passes : (least : ℕ) {us vs : Tokens} {op : BinaryOperator} → Is operator us op vs → binds_of op < least
    → next (goes_on least) us ≡ false
operator_passes least (is eq) less = rw eq (lt-leb _ _ less)

-- ---- operands

literal_by : (expr : ℕ → Parser Expr) (at : ℕ) (k : TokenKind) (l : Literal) (ts : Tokens) → literal_in at k ≡ Some l
    → operand_by expr k ts ≡ literal_at ts
literal_by expr at (Number n) l ts eq = refl
literal_by expr at (Truth b) l ts eq = refl
literal_by expr at (Duration d) l ts eq = refl
literal_by expr at (Enumerated n x) l ts eq = refl
literal_by expr at _ l ts eq = absurd cc

literal_complete : (expr : ℕ → Parser Expr) {ts us : Tokens} {l : Literal} → Is literal_of ts l us
    → operand_at expr ts ≡ Ok (e.literal l, us)
unfolding operand_at literal_at
literal_complete expr {us = us} {l = l} (is {t} eq) = literal_by expr t.start t.kind l (t ∷ us) eq ∙ rw eq refl

named_by : (expr : ℕ → Parser Expr) {ts us : Tokens} {x : Identifier} → Is name ts x us
    → operand_at expr ts ≡ named_at expr ts
unfolding operand_at
named_by expr {us = us} {x = x} (is {t} eq) = let h = name_in_is t.start t.kind x eq in rw h refl

parenthesis_by : (expr : ℕ → Parser Expr) {ts us : Tokens} {at : ℕ} → Is (mark m.Open) ts at us
    → operand_at expr ts ≡ parenthesis_at expr ts
unfolding operand_at
parenthesis_by expr {us = us} {at = at} (is {t} eq) = let h = open_is t at eq in rw h refl
  where
    open_is : (t : Token) (at : ℕ) → mark m.Open t ≡ Some at → t.kind ≡ Mark m.Open
    open_is t at eq = mark_is m.Open t.kind (given (is_mark m.Open t.kind) t.start at eq)
      where
        given : (b : Bool) (s at : ℕ) → cond b (Some s) None ≡ Some at → b ≡ true
        given true s at eq = refl
        given false s at eq = absurd cc

-- an operand has no sign
kind_unsigned : (k : TokenKind) → starts_operand k ≡ true → (is_mark m.Minus k ≡ false) × (is_keyword w.Not k ≡ false)
unfolding same_mark
kind_unsigned (Mark k) eq = let h : Mark k ≡ Mark m.Open = mark_is m.Open (Mark k) eq in (ap (is_mark m.Minus) h, refl)
kind_unsigned (Number n) eq = (refl, refl)
kind_unsigned (Truth n) eq = (refl, refl)
kind_unsigned (Duration n) eq = (refl, refl)
kind_unsigned (Enumerated n x) eq = (refl, refl)
kind_unsigned (Name n) eq = (refl, refl)
kind_unsigned _ eq = absurd cc

unsigned_at : (ts : Tokens) → next starts_operand ts ≡ true
    → (next (is_mark m.Minus) ts ≡ false) × (next (is_keyword w.Not) ts ≡ false)
unsigned_at [] eq = (refl, refl)
unsigned_at (t ∷ ts) eq = kind_unsigned t.kind eq

no_answer : (n : ℕ) (x : Expr) (us : Tokens) (r : Outcome Expr) → r ≡ Err (Unexpected n) → r ≡ Ok (x, us) → ⊥
no_answer n x us r p q = absurd cc

operand_unary : (expr : ℕ → Parser Expr) (ts us : Tokens) (x : Expr) → operand_at expr ts ≡ Ok (x, us)
    → unary_at expr ts ≡ Ok (x, us)
unfolding unary_at
operand_unary expr ts us x eq = elim (cases_Bool (next starts_operand ts)) [
  | inl hit ↦ let u = unsigned_at ts hit in rw (u.0, u.1) eq
  | inr miss ↦ absurd (no_answer (length ts) x us (operand_at expr ts) (operand_at_refuses expr ts miss) eq)
]

variable_complete : (expr : ℕ → Parser Expr) {ts us vs : Tokens} {x : Identifier} {xs : List Selector} → Is name ts x us
    → next (is_mark m.Open) us ≡ false → selectors_at expr us ≡ Ok (xs, vs)
    → operand_at expr ts ≡ Ok (e.read (e.variable x (selectors_of xs)), vs)
unfolding named_at read_of variable_of
variable_complete expr n plain eq = named_by expr n ∙ rw (one_complete n, plain, eq) refl

call_complete : (expr : ℕ → Parser Expr) {ts us vs ws zs : Tokens} {f : Identifier} {es : List Expr} → Is name ts f us
    → Passes (mark m.Open) us vs → arguments_at expr vs ≡ Ok (es, ws) → Passes (mark m.Close) ws zs
    → operand_at expr ts ≡ Ok (e.call f (exprs_of es), zs)
unfolding named_at call_of same_mark
call_complete expr n o eq c = let h = mark_head m.Open (is_mark m.Open) o.1 in
    named_by expr n ∙ rw (one_complete n, h, one_complete o.1, eq, one_complete c.1) refl

parenthesis_complete : (expr : ℕ → Parser Expr) {ts us vs ws : Tokens} {at : ℕ} {x : Expr} → Is (mark m.Open) ts at us
    → expr 1 us ≡ Ok (x, vs) → Passes (mark m.Close) vs ws → operand_at expr ts ≡ Ok (e.parenthesis at x, ws)
unfolding parenthesis_at
parenthesis_complete expr o eq c = parenthesis_by expr o ∙ rw (one_complete o, eq, one_complete c.1) refl

negative_complete : (expr : ℕ → Parser Expr) {ts us vs : Tokens} {at : ℕ} {n : NumberLeaf} → Is (mark m.Minus) ts at us
    → Is whole us n vs → unary_at expr ts ≡ Ok (e.literal (literals.Number (negative_at at n)), vs)
unfolding unary_at minus_at negative_of same_mark
negative_complete expr s i = let h = mark_head m.Minus (is_mark m.Minus) s in
    rw (h, one_complete s, whole_head i, one_complete i) refl

negated_complete : (expr : ℕ → Parser Expr) {ts us vs : Tokens} {at : ℕ} {x : Expr} → Is (mark m.Minus) ts at us
    → next is_number us ≡ false → expr operand_level us ≡ Ok (x, vs) → unary_at expr ts ≡ Ok (e.unary Negate at x, vs)
unfolding unary_at minus_at negated_of same_mark
negated_complete expr s other eq =
    let h = mark_head m.Minus (is_mark m.Minus) s in rw (h, one_complete s, other, eq) refl

inverted_complete : (expr : ℕ → Parser Expr) {ts us vs : Tokens} {at : ℕ} {x : Expr} → Is (keyword w.Not) ts at us
    → expr operand_level us ≡ Ok (x, vs) → unary_at expr ts ≡ Ok (e.unary Not at x, vs)
unfolding unary_at not_at same_keyword
inverted_complete expr s eq = let h = keyword_head w.Not (is_keyword w.Not) s in
    let g = keyword_head w.Not (is_mark m.Minus) s in rw (g, h, one_complete s, eq) refl

-- ---- operators

-- the operators after an expression make a longer one of it
abbrev pub TurnsTo : ℕ → ℕ → Expr → Tokens → Expr → Tokens → Type 0
TurnsTo below least a us y ws = (n : ℕ) → length us ≤ n
    → loops (goes_on least) (operation_within (expr_at below) below) n a us ≡ Ok (y, ws)

operation_complete : (below least : ℕ) {us vs ws : Tokens} {op : BinaryOperator} {a b : Expr} → depth_of a ≤ below
    → Is operator us op vs → expr_at below (binds_of op + 1) vs ≡ Ok (b, ws)
    → operation_within (expr_at below) below a us ≡ Ok (e.binary op a b, ws)
unfolding operation_of
operation_complete below least low o eq = let fits = le-ltb _ _ low in rw (fits, one_complete o, eq) refl

turns_on : (below least : ℕ) (us vs ws zs : Tokens) (op : BinaryOperator) (a b y : Expr) → least ≤ binds_of op
    → depth_of a ≤ below → Is operator us op vs → length ws < length us
    → expr_at below (binds_of op + 1) vs ≡ Ok (b, ws)
    → TurnsTo below least (e.binary op a b) ws y zs → TurnsTo below least a us y zs
turns_on below least us vs ws zs op a b y le low o less eq t zero long = absurd (omega arith)
turns_on below least us vs ws zs op a b y le low o less eq t (suc n) long =
    turn_is (goes_on least) (operation_within (expr_at below) below) n a us (operator_next least o le)
    ∙ (ap (λ (r : Outcome Expr). and_then r (loops (goes_on least) (operation_within (expr_at below) below) n))
    (operation_complete below least low o eq) ∙ t n (omega arith))

first_complete : (below least : ℕ) (ts us : Tokens) (x y : Expr) (ws : Tokens)
    → unary_at (expr_at below) ts ≡ Ok (x, us)
    → TurnsTo below least x us y ws → operators_at (expr_at below) below least ts ≡ Ok (y, ws)
unfolding operators_at turns
first_complete below least ts us x y ws eq t = rw eq (t (length us) (omega arith))

-- ---- all

pub record Read (k : ℕ) (ts : Tokens) (x : Expr) (us : Tokens) : Type 0 where
  pub alone : (below : ℕ) → depth_of x ≤ below + 1 → 9 ≤ k → Closed us → operand_at (expr_at below) ts ≡ Ok (x, us)
  pub first : (below least : ℕ) → depth_of x ≤ below + 1 → least ≤ k → least ≤ 8 → Closed us
      → next (goes_on (k + 1)) us ≡ false → (y : Expr) (ws : Tokens) → TurnsTo below least x us y ws
      → operators_at (expr_at below) below least ts ≡ Ok (y, ws)

read_operand : (k : ℕ) (ts us : Tokens) (x : Expr)
    → ((below : ℕ) → depth_of x ≤ below + 1 → Closed us → operand_at (expr_at below) ts ≡ Ok (x, us)) → Read k ts x us
read_operand k ts us x p = record {
  alone = λ below low strong shut. p below low shut;
  first = λ below least low le small shut stop y ws t.
      first_complete below least ts us x y ws (operand_unary (expr_at below) ts us x (p below low shut)) t;
}

read_signed : (k : ℕ) (ts us : Tokens) (x : Expr) → k ≤ 8
    → ((below : ℕ) → depth_of x ≤ below + 1 → Closed us → unary_at (expr_at below) ts ≡ Ok (x, us)) → Read k ts x us
read_signed k ts us x le p = record {
  alone = λ below low strong shut. absurd (omega arith);
  first = λ below least low le small shut stop y ws t. first_complete below least ts us x y ws (p below low shut) t;
}

as_read : {y : Expr} (x : Expr) (k : ℕ) (ts us : Tokens) → x ≡ y → Read k ts y us → Read k ts x us
as_read x k ts us p r = rw p r

-- an expression with nothing that continues it
pub whole_complete : (depth least k : ℕ) (ts us : Tokens) (x : Expr) → Read k ts x us → depth_of x ≤ depth → least ≤ k
    → least ≤ 9 → Closed us → next (goes_on least) us ≡ false → expr_at depth least ts ≡ Ok (x, us)
unfolding expr_at
whole_complete zero least k ts us x read low le small shut stop = let some = depth_some x in absurd (omega arith)
whole_complete (suc below) least k ts us x read low le small shut stop = elim (cases_Bool (ltb 8 least)) [
  | inl hit ↦ let h = ltb-true _ _ hit in rw hit (read.alone below (omega arith) (omega arith) shut)
  | inr miss ↦
      let h = ltb-false _ _ miss in
      rw miss (read.first below least (omega arith) le (omega arith) shut (stops_later least (k + 1) us (omega arith)
      stop) x us (λ n long. halts (goes_on least) (operation_within (expr_at below) below) n x us stop))
]

pub open_first : {us vs : Tokens} {xs : List Selector} → IsSelectors us xs vs → next (is_mark m.Open) vs ≡ false
    → next (is_mark m.Open) us ≡ false
unfolding same_mark
open_first no_selector eq = eq
open_first (selector (member x d n q) r) eq = mark_head m.Dot (is_mark m.Open) d.1
open_first (selector (subscript x o i c q) r) eq = mark_head m.OpenBracket (is_mark m.Open) o.1

not_close : {ts us : Tokens} {k : ℕ} {x : Expr} → IsExpr k ts x us → next (is_mark m.Close) ts ≡ false
unfolding same_mark
not_close (literal l (is {t} eq) q) = literal_close t.start t.kind l eq
  where
    literal_close : (at : ℕ) (k : TokenKind) (l : Literal) → literal_in at k ≡ Some l → is_mark m.Close k ≡ false
    literal_close at (Mark k) l eq = absurd cc
    literal_close at _ l eq = refl
not_close (variable v (selected x xs n s p) q) = name_head (is_mark m.Close) n
not_close (call f es n o s c q) = name_head (is_mark m.Close) n
not_close (parenthesis at inner o s c q) = mark_head m.Open (is_mark m.Close) o
not_close (negative at n l s i q) = mark_head m.Minus (is_mark m.Close) s
not_close (negated at inner l s p i q) = mark_head m.Minus (is_mark m.Close) s
not_close (inverted at inner l s i q) = keyword_head w.Not (is_mark m.Close) s
not_close (binary op a b l s o t q) = not_close s

member_complete : {ts us vs : Tokens} {x : Identifier} → Passes (mark m.Dot) ts us → Is name us x vs
    → member_at ts ≡ Ok (e.member x, vs)
unfolding member_at
member_complete d n = rw (one_complete d.1, one_complete n) refl

dot_selector : (expr : ℕ → Parser Expr) {ts us : Tokens} → Passes (mark m.Dot) ts us
    → selector_at expr ts ≡ member_at ts
unfolding selector_at same_mark
dot_selector expr d = let h = mark_head m.Dot (is_mark m.Dot) d.1 in rw h refl

bracket_selector : (expr : ℕ → Parser Expr) {ts us : Tokens} → Passes (mark m.OpenBracket) ts us
    → selector_at expr ts ≡ subscript_at expr ts
unfolding selector_at same_mark
bracket_selector expr o = let h = mark_head m.OpenBracket (is_mark m.Dot) o.1 in rw h refl

subscript_complete : (expr : ℕ → Parser Expr) {ts us vs ws : Tokens} {x : Expr} → Passes (mark m.OpenBracket) ts us
    → expr 1 us ≡ Ok (x, vs) → Passes (mark m.CloseBracket) vs ws → subscript_at expr ts ≡ Ok (e.subscript x, ws)
unfolding subscript_at
subscript_complete expr o eq c = rw (one_complete o.1, eq, one_complete c.1) refl

selector_next : {ts us : Tokens} {s : Selector} → IsSelector ts s us → next starts_selector ts ≡ true
unfolding same_mark
selector_next (member x d n q) = mark_head m.Dot starts_selector d.1
selector_next (subscript x o i c q) = mark_head m.OpenBracket starts_selector o.1

no_arguments_complete : (expr : ℕ → Parser Expr) {ts us : Tokens} → Passes (mark m.Close) ts us
    → arguments_at expr ts ≡ Ok ([], ts)
unfolding arguments_at same_mark
no_arguments_complete expr c = let h = mark_head m.Close (is_mark m.Close) c.1 in rw h refl

arguments_complete : (expr : ℕ → Parser Expr) {ts us vs : Tokens} {x : Expr} {xs : List Expr}
    → next (is_mark m.Close) ts ≡ false → expr 1 ts ≡ Ok (x, us)
    → Repeats (is_mark m.Comma) (after_comma (expr 1)) us xs vs → arguments_at expr ts ≡ Ok (x ∷ xs, vs)
unfolding arguments_at
arguments_complete expr other eq r = rw other (listed_complete (expr 1) eq r)

selectors_are : (expr : ℕ → Parser Expr) (ts us : Tokens) (xs : List Selector)
    → Repeats starts_selector (selector_at expr) ts xs us → selectors_at expr ts ≡ Ok (xs, us)
unfolding selectors_at
selectors_are expr ts us xs r = several_complete starts_selector (selector_at expr) ts us [] xs r

pub close_no_comma : {ts us : Tokens} → Passes (mark m.Close) ts us → next (is_mark m.Comma) ts ≡ false
unfolding same_mark
close_no_comma c = mark_head m.Close (is_mark m.Comma) c.1

selector_is : (p q : Selector) (r : Outcome Selector) (us : Tokens) → p ≡ q → r ≡ Ok (q, us) → r ≡ Ok (p, us)
selector_is p q r us eq same = rw eq same

mutual
  pub read_complete : {k : ℕ} {ts us : Tokens} {x : Expr} → IsExpr k ts x us → Read k ts x us
  read_complete (literal {k} {ts} {us} {x} l i q) =
      as_read x k ts us q (read_operand k ts us (e.literal l) (λ below low shut. literal_complete (expr_at below) i))
  read_complete (variable {k} {ts} {us} {x} v i q) =
      as_read x k ts us q (read_operand k ts us (e.read v) (λ below low shut. operand_variable i below low shut))
  read_complete (call {k} {ts} {us} {vs} {ws} {zs} {x} f es n o s c q) =
      as_read x k ts zs q (read_operand k ts zs (e.call f (exprs_of es)) (λ below low shut.
      call_complete (expr_at below) n o (all_arguments_complete s c below (omega arith)) c))
  read_complete (parenthesis {k} {ts} {us} {vs} {ws} {x} at inner o s c q) =
      let deeper = read_complete s in
      as_read x k ts ws q (read_operand k ts ws (e.parenthesis at inner) (λ below low shut.
      let stop = stops_all vs (close_stops c) in
      parenthesis_complete (expr_at below) o
      (whole_complete below 1 1 us vs inner deeper (omega arith) (omega arith) (omega arith) stop.1 stop.0) c))
  read_complete (negative {k} {ts} {us} {vs} {x} at n l s i q) = as_read x k ts vs q (read_signed k ts vs
      (e.literal (literals.Number (negative_at at n))) l (λ below low shut. negative_complete (expr_at below) s i))
  read_complete (negated {k} {ts} {us} {vs} {x} at inner l s p i q) =
      let deeper = read_complete i in
      as_read x k ts vs q (read_signed k ts vs (e.unary Negate at inner) l (λ below low shut.
      negated_complete (expr_at below) s p
      (whole_complete below 9 9 us vs inner deeper (omega arith) (omega arith) (omega arith) shut (none_binds vs))))
  read_complete (inverted {k} {ts} {us} {vs} {x} at inner l s i q) =
      let deeper = read_complete i in
      as_read x k ts vs q (read_signed k ts vs (e.unary Not at inner) l (λ below low shut.
      inverted_complete (expr_at below) s
      (whole_complete below 9 9 us vs inner deeper (omega arith) (omega arith) (omega arith) shut (none_binds vs))))
  read_complete (binary {k} {ts} {us} {vs} {ws} {x} op a b l s o t q) =
      let left = read_complete s in
      let right = read_complete t in
      let small = binds_small op in
      let less = is_less o in
      let less' = expr_less t in
      as_read x k ts ws q (record {
        alone = λ below low strong shut. absurd (omega arith);
        first = λ below least low le fits shut stop y zs turn.
            left.first below least (omega arith) (omega arith) fits (operator_closes o)
            (operator_passes (binds_of op + 1) o (omega arith)) y zs
            (turns_on below least us vs ws zs op a b y (omega arith) (omega arith) o (omega arith)
            (whole_complete below (binds_of op + 1) (binds_of op + 1) vs ws b right (omega arith) (omega arith)
            (omega arith) shut (stops_later (k + 1) (binds_of op + 1) ws (omega arith) stop)) turn);
      })

  operand_variable : {ts us : Tokens} {v : Variable} → IsVariable ts v us → (below : ℕ)
      → depth_of_variable v ≤ below + 1 → Closed us → operand_at (expr_at below) ts ≡ Ok (e.read v, us)
  operand_variable (selected {ts} {us} {vs} {v} x xs n s q) below low shut =
      let low' : depth_of_variable (e.variable x (selectors_of xs)) ≤ below + 1 =
      subst (λ (z : Variable). depth_of_variable z ≤ below + 1) q low in
      rw q (variable_complete (expr_at below) n (open_first s shut.1)
      (selectors_are (expr_at below) us vs xs (selectors_complete s below (omega arith) shut.0)))

  pub selectors_complete : {ts us : Tokens} {xs : List Selector} → IsSelectors ts xs us → (below : ℕ)
      → deepest_subscript (selectors_of xs) ≤ below → next starts_selector us ≡ false
      → Repeats starts_selector (selector_at (expr_at below)) ts xs us
  selectors_complete (no_selector {ts}) below low stop =
      repeats_halt starts_selector (selector_at (expr_at below)) ts stop
  selectors_complete (selector {ts} {us} {vs} {x} {xs} i r) below low stop =
      let less = selector_less i in
      repeats_step starts_selector (selector_at (expr_at below)) ts us vs x xs (selector_next i)
      (selector_complete i below (omega arith)) less (selectors_complete r below (omega arith) stop)

  selector_complete : {ts us : Tokens} {s : Selector} → IsSelector ts s us → (below : ℕ) → depth_of_subscript s ≤ below
      → selector_at (expr_at below) ts ≡ Ok (s, us)
  selector_complete (member {ts} {us} {vs} {s} x d n q) below low =
      rw q (dot_selector (expr_at below) d ∙ member_complete d n)
  selector_complete (subscript {ts} {us} {vs} {ws} {s} x o i c q) below low =
      let low' : depth_of_subscript (e.subscript x) ≤ below =
      subst (λ (z : Selector). depth_of_subscript z ≤ below) q low in
      let stop = stops_all vs (bracket_stops c) in
      rw q (bracket_selector (expr_at below) o ∙ subscript_complete (expr_at below) o
      (whole_complete below 1 1 us vs x (read_complete i) low' (omega arith) (omega arith) stop.1 stop.0) c)

  all_arguments_complete : {ts us vs : Tokens} {xs : List Expr} → IsExprs ts xs us → Passes (mark m.Close) us vs
      → (below : ℕ) → deepest (exprs_of xs) ≤ below → arguments_at (expr_at below) ts ≡ Ok (xs, us)
  all_arguments_complete (no_argument {ts}) c below low = no_arguments_complete (expr_at below) c
  all_arguments_complete (argument {ts} {us} {vs} {x} {xs} i r) c below low =
      let stop = stops_all us (rest_stops r c) in
      arguments_complete (expr_at below) (not_close i) (whole_complete below 1 1 ts us x (read_complete i) (omega arith)
      (omega arith) (omega arith) stop.1 stop.0) (rest_complete r c below (omega arith))

  rest_complete : {ts us vs : Tokens} {xs : List Expr} → IsMoreExprs ts xs us → Passes (mark m.Close) us vs
      → (below : ℕ) → deepest (exprs_of xs) ≤ below → Repeats (is_mark m.Comma) (after_comma (expr_at below 1)) ts xs us
  rest_complete (no_more_arguments {ts}) c below low =
      repeats_halt (is_mark m.Comma) (after_comma (expr_at below 1)) ts (close_no_comma c)
  rest_complete (next_argument {ts} {us} {vs} {ws} {x} {xs} p i r) c below low =
      let stop = stops_all vs (rest_stops r c) in
      let less = is_less p.1 in
      let less' = expr_less i in
      repeats_step (is_mark m.Comma) (after_comma (expr_at below 1)) ts vs ws x xs (comma_next p)
      (after_comma_complete (expr_at below 1) p (whole_complete below 1 1 us vs x (read_complete i) (omega arith)
      (omega arith) (omega arith) stop.1 stop.0)) (omega arith) (rest_complete r c below (omega arith))

-- ---- for other modules

pub expr_complete : (depth : ℕ) {ts us : Tokens} {x : Expr} → IsExpr 1 ts x us → depth_of x ≤ depth → Stops us
    → expr_at depth 1 ts ≡ Ok (x, us)
expr_complete depth {ts = ts} {us = us} {x = x} i low stop = let s = stops_all us stop in
    whole_complete depth 1 1 ts us x (read_complete i) low (omega arith) (omega arith) s.1 s.0

pub variable_of_complete : (depth : ℕ) (us vs : Tokens) (x : Identifier) (xs : List Selector) → IsSelectors us xs vs
    → deepest_subscript (selectors_of xs) ≤ depth → next starts_selector vs ≡ false
    → variable_of (expr_at depth) x us ≡ Ok (e.variable x (selectors_of xs), vs)
unfolding variable_of
variable_of_complete depth us vs x xs s low stop =
    rw (selectors_are (expr_at depth) us vs xs (selectors_complete s depth low stop)) refl
