-- Tokens of the grammar are read: single ones, lists, numbers.
use Rattle.std.proofs.Common.{◌≡◌, ℕ, zero, suc, ◌<◌, ◌≤◌, Bool, true, false, cond, List, [], ◌∷◌, ◌++◌, length, Option}
use Rattle.std.proofs.Common.{Some, None, Ok, refl, sym, ap, ◌∙◌, arith, append_assoc}
use Rattle.std.proofs.lemmas.List.{append-nil}
use Rattle.st_types.specs.declared.identifier.Identifier.{Identifier}
use Rattle.st_types.specs.declared.literal.Number.{Number as NumberLeaf}
use Rattle.st_lex.specs.declared.token.Token.{Token}
use Rattle.st_lex.specs.declared.token.TokenKind.{TokenKind}
use Rattle.st_lex.specs.declared.token.TokenKind.TheVariants.{Name, Keyword, Mark, Number}
use Rattle.st_lex.specs.declared.mark.Mark.{Mark as MarkType}
use Rattle.st_lex.specs.declared.mark.Mark.TheVariants as m
use Rattle.st_lex.specs.declared.keyword.Keyword.{Keyword as KeywordType}
use Rattle.st_parse.specs.Tokens.{Tokens, next, Is, is, Passes, mark, keyword, name, name_in, whole, whole_in}
use Rattle.st_parse.specs.Tokens.{is_mark, is_keyword, is_number, same_mark, IsNumber, plain, negative}
use Rattle.st_parse.specs.Parsers.{Outcome, Parser, and_then, one, loops, turns, gather, several, after_comma}
use Rattle.st_parse.specs.Parsers.{listed, number_at, negative_number_at}
use Rattle.st_parse.proofs.SoundReadings.{mark_is, keyword_is}
use Rattle.st_parse.proofs.SoundTurns.{halts, turn_is}

pub one_complete : {A : Type 0} {of : Token → Option A} {ts us : Tokens} {x : A} → Is of ts x us
    → one of ts ≡ Ok (x, us)
one_complete (is eq) = rw eq refl

-- ---- the kind of the next token

stands : (b : Bool) (at place : ℕ) → cond b (Some at) None ≡ Some place → b ≡ true
stands true at place eq = refl
stands false at place eq = absurd cc

pub mark_kind : (x : MarkType) (t : Token) (at : ℕ) → mark x t ≡ Some at → t.kind ≡ Mark x
mark_kind x t at eq = mark_is x t.kind (stands (is_mark x t.kind) t.start at eq)

pub keyword_kind : (x : KeywordType) (t : Token) (at : ℕ) → keyword x t ≡ Some at → t.kind ≡ Keyword x
keyword_kind x t at eq = keyword_is x t.kind (stands (is_keyword x t.kind) t.start at eq)

pub mark_head : (x : MarkType) (f : TokenKind → Bool) {ts us : Tokens} {at : ℕ} → Is (mark x) ts at us
    → next f ts ≡ f (Mark x)
mark_head x f {at = at} (is {t} eq) = ap f (mark_is x t.kind (stands (is_mark x t.kind) t.start at eq))

pub keyword_head : (x : KeywordType) (f : TokenKind → Bool) {ts us : Tokens} {at : ℕ} → Is (keyword x) ts at us
    → next f ts ≡ f (Keyword x)
keyword_head x f {at = at} (is {t} eq) = ap f (keyword_is x t.kind (stands (is_keyword x t.kind) t.start at eq))

pub name_in_is : (at : ℕ) (k : TokenKind) (x : Identifier) → name_in at k ≡ Some x → k ≡ Name x.name
name_in_is at (Name n) x eq = let same : record { name = n; place = at } ≡ x = given eq in
    ap (λ (y : Identifier). Name y.name) same
  where
    given : {a b : Identifier} → Some a ≡ Some b → a ≡ b
    given eq = cc
name_in_is at _ x eq = absurd cc

pub name_head : (f : TokenKind → Bool) {ts us : Tokens} {x : Identifier} → Is name ts x us → next f ts ≡ f (Name x.name)
name_head f {x = x} (is {t} eq) = ap f (name_in_is t.start t.kind x eq)

whole_in_is : (at : ℕ) (k : TokenKind) (n : NumberLeaf) → whole_in at k ≡ Some n → is_number k ≡ true
whole_in_is at (Number n) x eq = refl
whole_in_is at _ x eq = absurd cc

pub whole_head : {ts us : Tokens} {n : NumberLeaf} → Is whole ts n us → next is_number ts ≡ true
whole_head {n = n} (is {t} eq) = whole_in_is t.start t.kind n eq

number_plain : (k : TokenKind) → is_number k ≡ true → is_mark m.Minus k ≡ false
number_plain (Number n) eq = refl
number_plain _ eq = absurd cc

pub whole_plain : {ts us : Tokens} {n : NumberLeaf} → Is whole ts n us → next (is_mark m.Minus) ts ≡ false
whole_plain {n = n} (is {t} eq) = number_plain t.kind (whole_in_is t.start t.kind n eq)

-- ---- lists

module _ {A : Type 0} (f : TokenKind → Bool) (item : Parser A) where
  abbrev pub Repeats : Tokens → List A → Tokens → Type 0
  Repeats ts xs us = (n : ℕ) (found : List A) → length ts ≤ n → loops f (gather item) n found ts ≡ Ok (found ++ xs, us)

  pub repeats_halt : (ts : Tokens) → next f ts ≡ false → Repeats ts [] ts
  repeats_halt ts eq n found le = rw (append-nil found) (halts f (gather item) n found ts eq)

  pub repeats_step : (ts us vs : Tokens) (x : A) (xs : List A) → next f ts ≡ true → item ts ≡ Ok (x, us)
      → length us < length ts → Repeats us xs vs → Repeats ts (x ∷ xs) vs
  repeats_step ts us vs x xs eq same less others zero found le = absurd (omega arith)
  repeats_step ts us vs x xs eq same less others (suc n) found le =
      let e : gather item found ts ≡ Ok (found ++ x ∷ [], us) = rw same refl in
      let g = append_assoc found (x ∷ []) xs in
      turn_is f (gather item) n found ts eq ∙ (ap (λ (r : Outcome (List A)). and_then r (loops f (gather item) n)) e
      ∙ rw (sym g) (others n (found ++ x ∷ []) (omega arith)))

  pub several_complete : (ts us : Tokens) (found xs : List A) → Repeats ts xs us
      → several f item found ts ≡ Ok (found ++ xs, us)
  unfolding turns
  several_complete ts us found xs r = r (length ts) found (omega arith)

pub after_comma_complete : {A : Type 0} (item : Parser A) {ts us vs : Tokens} {x : A} → Passes (mark m.Comma) ts us
    → item us ≡ Ok (x, vs) → after_comma item ts ≡ Ok (x, vs)
unfolding after_comma
after_comma_complete item c eq = rw (one_complete c.1) eq

pub comma_next : {ts us : Tokens} → Passes (mark m.Comma) ts us → next (is_mark m.Comma) ts ≡ true
unfolding same_mark
comma_next c = mark_head m.Comma (is_mark m.Comma) c.1

pub listed_complete : {A : Type 0} (item : Parser A) {ts us vs : Tokens} {x : A} {xs : List A} → item ts ≡ Ok (x, us)
    → Repeats (is_mark m.Comma) (after_comma item) us xs vs → listed item ts ≡ Ok (x ∷ xs, vs)
unfolding listed
listed_complete item {us = us} {vs = vs} {x = x} {xs = xs} eq r =
    rw eq (several_complete (is_mark m.Comma) (after_comma item) us vs (x ∷ []) xs r)

-- ---- numbers

pub number_complete : {ts us : Tokens} {n : NumberLeaf} → IsNumber ts n us → number_at ts ≡ Ok (n, us)
unfolding number_at negative_number_at same_mark
number_complete (plain p) = rw (whole_plain p) (one_complete p)
number_complete (negative at k p q eq) = let h = mark_head m.Minus (is_mark m.Minus) p in
    rw (h, one_complete p, one_complete q, eq) refl
