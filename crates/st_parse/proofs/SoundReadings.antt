-- Sound readings, each with a text of its grammar, put together; single tokens and numbers.
use Rattle.std.proofs.Common.{◌≡◌, ℕ, Bool, true, false, [], Option, Some, None, refl, ap}
use denote.Enum.Bare.{same_true, true_same}
use Rattle.std.proofs.Common.{rules}
use Rattle.st_types.specs.declared.identifier.Identifier.{Identifier}
use Rattle.st_types.specs.declared.literal.Number.{Number as NumberLeaf}
use Rattle.st_types.specs.declared.literal.Literal.{Literal}
use Rattle.st_types.specs.declared.literal.Literal.TheVariants as literals
use Rattle.st_lex.specs.contracts.mark.Mark as mark_type
use Rattle.st_lex.specs.contracts.keyword.Keyword as keyword_type
use Rattle.st_lex.specs.declared.token.Token.{Token}
use Rattle.st_lex.specs.declared.token.TokenKind.{TokenKind}
use Rattle.st_lex.specs.declared.token.TokenKind.TheVariants.{Name, Keyword, Mark, Number}
use Rattle.st_lex.specs.declared.mark.Mark.{Mark as MarkType}
use Rattle.st_lex.specs.declared.mark.Mark.TheVariants as m
use Rattle.st_lex.specs.declared.keyword.Keyword.{Keyword as KeywordType}
use Rattle.st_parse.specs.Tokens.{Tokens, Is, mark, keyword, name, whole, whole_in, constant, constant_in}
use Rattle.st_parse.specs.Tokens.{negative_at, is_mark, is_keyword, same_mark, same_keyword, IsNumber, plain}
use Rattle.st_parse.specs.Tokens.{negative}
use Rattle.st_parse.specs.Parsers.{◌>>=◌, pure, one, if_next, number_at, negative_number_at}
use Rattle.st_parse.specs.Laws.{Grammar, IsPrefix}
use Rattle.st_parse.proofs.Sound.{Family, Tells, Any, Seq, Made, made, made_begins, seq_begins, begins_as}
use Rattle.st_parse.proofs.Sound.{one_begins, told_as, then_at, told_pure, told_one, told_if}

-- There is a text of the grammar, and under a condition the readings are sound for it.
pub record Sound {A : Type 0} (C : Type 0) (P : Family A) (R : Grammar A) (D : A → Tokens → Type 0) : Type 0 where
  pub begins : IsPrefix R []
  pub tells : C → Tells P R D

-- the condition, and the facts about the part that was read
abbrev pub With : {A : Type 0} → Type 0 → (A → Tokens → Type 0) → A → Type 0
With C D x = C × ((us : Tokens) × D x us)

pub told_by : {A : Type 0} {P : Family A} {R : Grammar A} {D : A → Tokens → Type 0} → Sound (Unit {0}) P R D
    → Tells P R D
told_by p = p.tells tt

pub sound_then : {A B : Type 0} {C : Type 0} {P : Family A} {Q : A → Family B} {R : Grammar A} {S : A → Grammar B}
    {D : A → Tokens → Type 0} {E : B → Tokens → Type 0}
    → Sound C P R D → ((x : A) → Sound (With C D x) (Q x) (S x) E) → Sound C (λ e. P e >>= (λ x. Q x e)) (Seq R S) E
sound_then {P = P} {Q = Q} {R = R} {S = S} {D = D} {E = E} p q = record {
  begins = seq_begins R S [] p.begins (λ x. (q x).begins);
  tells = λ c ts.
      then_at P Q R S D E (λ x. (q x).begins) ts (P 0 ts) (p.tells c ts) (λ x us eq k. (q x).tells (c, (us, k.low)) us);
}

pub sound_pure : {A : Type 0} {C : Type 0} (y : A) (D : A → Tokens → Type 0) → (C → (us : Tokens) → D y us)
    → Sound C (λ e. pure y) (Made y) D
sound_pure y D low = record { begins = made_begins y; tells = λ c ts. told_pure y D ts (low c ts) }

pub sound_as : {A : Type 0} {C : Type 0} {P : Family A} {R R' : Grammar A} {D D' : A → Tokens → Type 0}
    → ((ts : Tokens) (x : A) (us : Tokens) → R ts x us → R' ts x us) → ((x : A) (us : Tokens) → D x us → D' x us)
    → Sound C P R D → Sound C P R' D'
sound_as {P = P} {R = R} {R' = R'} {D = D} {D' = D'} f g p =
    record { begins = begins_as R R' f [] p.begins; tells = λ c ts. told_as P R R' D D' f g ts (P 0 ts) (p.tells c ts) }

pub sound_under : {A : Type 0} {C C' : Type 0} {P : Family A} {R : Grammar A} {D : A → Tokens → Type 0} → (C' → C)
    → Sound C P R D → Sound C' P R D
sound_under f p = record { begins = p.begins; tells = λ c. p.tells (f c) }

pub sound_if : {A : Type 0} {C : Type 0} {P Q : Family A} {R : Grammar A} {D : A → Tokens → Type 0}
    (f : TokenKind → Bool) → Sound C P R D → Sound C Q R D → Sound C (λ e. if_next f (P e) (Q e)) R D
sound_if {P = P} {Q = Q} {R = R} {D = D} f p q =
    record { begins = p.begins; tells = λ c ts. told_if f P Q R D ts (λ _. p.tells c ts) (λ _. q.tells c ts) }

-- ---- single tokens

pub mark_same : (x : MarkType) → is_mark x (Mark x) ≡ true
unfolding same_mark
mark_same x = true_same mark_type.the_type x x refl

pub keyword_same : (x : KeywordType) → is_keyword x (Keyword x) ≡ true
unfolding same_keyword
keyword_same x = true_same keyword_type.the_type x x refl

-- a token of that kind stands for its place
pub mark_at : (x : MarkType) (t : Token) → t.kind ≡ Mark x → mark x t ≡ Some t.start
mark_at x t eq = rw eq (rw (mark_same x) refl)

pub keyword_at : (x : KeywordType) (t : Token) → t.kind ≡ Keyword x → keyword x t ≡ Some t.start
keyword_at x t eq = rw eq (rw (keyword_same x) refl)

pub mark_is : (x : MarkType) (k : TokenKind) → is_mark x k ≡ true → k ≡ Mark x
unfolding same_mark
mark_is x (Mark y) eq = ap Mark (same_true mark_type.the_type (search rules) y x eq)
mark_is x _ eq = absurd cc

pub keyword_is : (x : KeywordType) (k : TokenKind) → is_keyword x k ≡ true → k ≡ Keyword x
unfolding same_keyword
keyword_is x (Keyword y) eq = ap Keyword (same_true keyword_type.the_type (search rules) y x eq)
keyword_is x _ eq = absurd cc

abbrev pub token_of : TokenKind → Token
token_of k = record { kind = k; start = 0; end = 0 }

mark_stands : (x : MarkType) → mark x (token_of (Mark x)) ≡ Some 0
mark_stands x = rw (mark_same x) refl

keyword_stands : (x : KeywordType) → keyword x (token_of (Keyword x)) ≡ Some 0
keyword_stands x = rw (keyword_same x) refl

pub sound_one : {A : Type 0} {C : Type 0} (of : Token → Option A) (t : Token) (x : A) → of t ≡ Some x
    → Sound C (λ e. one of) (Is of) Any
sound_one of t x eq = record { begins = one_begins of t x eq; tells = λ c. told_one of (one_begins of t x eq) }

pub sound_mark : {C : Type 0} (x : MarkType) → Sound C (λ e. one (mark x)) (Is (mark x)) Any
sound_mark x = sound_one (mark x) (token_of (Mark x)) 0 (mark_stands x)

pub sound_keyword : {C : Type 0} (x : KeywordType) → Sound C (λ e. one (keyword x)) (Is (keyword x)) Any
sound_keyword x = sound_one (keyword x) (token_of (Keyword x)) 0 (keyword_stands x)

abbrev pub an_identifier : Identifier
an_identifier = record { name = []; place = 0 }

pub sound_name : {C : Type 0} → Sound C (λ e. one name) (Is name) Any
sound_name = sound_one name (token_of (Name [])) an_identifier refl

abbrev pub a_number : NumberLeaf
a_number = record { place = 0; is_negative = false; magnitude = 0; written = None; is_decimal = true; taken = None }

abbrev pub number_token : Token
number_token = token_of (Number (record { written = None; magnitude = 0; is_decimal = true }))

pub sound_whole : {C : Type 0} → Sound C (λ e. one whole) (Is whole) Any
sound_whole = sound_one whole number_token a_number refl

-- ---- numbers

abbrev numbered : Option NumberLeaf → Option Literal
numbered None = None
numbered (Some n) = Some (literals.Number n)

abbrev pub IsNegative : Grammar NumberLeaf
IsNegative = Seq (Is (mark m.Minus)) (λ at. Seq (Is whole) (λ n. Made (negative_at at n)))

is_negative_number : (ts : Tokens) (x : NumberLeaf) (us : Tokens) → IsNegative ts x us → IsNumber ts x us
is_negative_number ts x us (at, vs, s, (n, ws, w, made eq)) = negative at n s w eq

pub sound_negative : {C : Type 0} → Sound C (λ e. negative_number_at) IsNegative Any
unfolding negative_number_at
sound_negative =
    sound_then (sound_mark m.Minus) (λ at. sound_then sound_whole (λ n. sound_pure (negative_at at n) Any (λ c us. tt)))

pub sound_number : {C : Type 0} → Sound C (λ e. number_at) IsNumber Any
unfolding number_at
sound_number = sound_if (is_mark m.Minus) (sound_as is_negative_number (λ x us d. d) sound_negative)
    (sound_as (λ ts x us w. plain w) (λ x us d. d) sound_whole)

-- a token that stands for a number is a constant
pub whole_literal : (t : Token) (n : NumberLeaf) → whole t ≡ Some n → constant t ≡ Some (literals.Number n)
whole_literal t n eq = by_kind_of t.start t.kind n eq
  where
    by_kind_of : (at : ℕ) (k : TokenKind) (n : NumberLeaf) → whole_in at k ≡ Some n
        → constant_in at k ≡ Some (literals.Number n)
    by_kind_of at (Number m) n eq = ap (λ (o : Option NumberLeaf). numbered o) eq
    by_kind_of at _ n eq = absurd cc
