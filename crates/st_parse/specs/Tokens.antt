-- Tokens as the grammar sees them.
use Rattle.std.specs.Prelude.{◌≡◌, ℕ, Bool, true, false, List, [], ◌∷◌, Option, Some, None, if◌then◌else◌}
use denote.Enum.Bare.{sameb}
use Rattle.st_types.specs.declared.identifier.Identifier.{Identifier}
use Rattle.st_types.specs.declared.literal.EnumeratedValue.{EnumeratedValue}
use Rattle.st_types.specs.declared.literal.Number.{Number as NumberLeaf}
use Rattle.st_types.specs.declared.literal.Literal.{Literal}
use Rattle.st_types.specs.declared.literal.Literal.TheVariants as literals
use Rattle.st_lex.specs.declared.token.Token.{Token}
use Rattle.st_lex.specs.declared.token.TokenKind.{TokenKind}
use Rattle.st_lex.specs.declared.token.TokenKind.TheVariants.{Name, Keyword, Mark, Number, Truth, Duration, Enumerated}
use Rattle.st_lex.specs.declared.token.WholeNumber.{WholeNumber}
use Rattle.st_lex.specs.declared.mark.Mark.{Mark as MarkType}
use Rattle.st_lex.specs.declared.mark.Mark.TheVariants as m
use Rattle.st_lex.specs.declared.keyword.Keyword.{Keyword as KeywordType}
use Rattle.st_lex.specs.contracts.mark.Mark as mark_type
use Rattle.st_lex.specs.contracts.keyword.Keyword as keyword_type

abbrev pub Tokens : Type 0
Tokens = List Token

-- whether the next token is of this kind
abbrev pub next : (TokenKind → Bool) → Tokens → Bool
next f [] = false
next f (t ∷ ts) = f t.kind

unfoldable pub same_mark : MarkType → MarkType → Bool
same_mark = sameb mark_type.the_type

unfoldable pub same_keyword : KeywordType → KeywordType → Bool
same_keyword = sameb keyword_type.the_type

abbrev pub is_mark : MarkType → TokenKind → Bool
is_mark x (Mark y) = same_mark y x
is_mark x k = false

abbrev pub is_keyword : KeywordType → TokenKind → Bool
is_keyword x (Keyword y) = same_keyword y x
is_keyword x k = false

abbrev pub is_name : TokenKind → Bool
is_name (Name x) = true
is_name k = false

abbrev pub is_number : TokenKind → Bool
is_number (Number n) = true
is_number k = false

-- whether it may be a value of an enumerated type
abbrev pub is_value : TokenKind → Bool
is_value (Name x) = true
is_value (Enumerated t x) = true
is_value k = false

-- The meaning of one token. A mark or a keyword stands for its place.
abbrev pub mark : MarkType → Token → Option ℕ
mark x t = if is_mark x t.kind then Some t.start else None

abbrev pub keyword : KeywordType → Token → Option ℕ
keyword x t = if is_keyword x t.kind then Some t.start else None

abbrev pub name_in : ℕ → TokenKind → Option Identifier
name_in at (Name x) = Some (record { name = x; place = at })
name_in at k = None

abbrev pub name : Token → Option Identifier
name t = name_in t.start t.kind

-- a whole number or bit string without a sign
abbrev pub unsigned : ℕ → WholeNumber → NumberLeaf
unsigned at n = record {
  place = at;
  is_negative = false;
  magnitude = n.magnitude;
  written = n.written;
  is_decimal =
      n.is_decimal;
  taken = None;
}

-- the same with a `-` at a place directly before it
abbrev pub negative_at : ℕ → NumberLeaf → NumberLeaf
negative_at at n = record {
  place = at;
  is_negative = true;
  magnitude = n.magnitude;
  written = n.written;
  is_decimal =
      n.is_decimal;
  taken = None;
}

abbrev pub whole_in : ℕ → TokenKind → Option NumberLeaf
whole_in at (Number n) = Some (unsigned at n)
whole_in at k = None

abbrev pub whole : Token → Option NumberLeaf
whole t = whole_in t.start t.kind

-- a value of an enumerated type, with its type or alone
abbrev pub value_at : ℕ → Option (List ℕ) → List ℕ → EnumeratedValue
value_at at t x = record { place = at; type_name = t; name = x }

abbrev pub value_in : ℕ → TokenKind → Option EnumeratedValue
value_in at (Name x) = Some (value_at at None x)
value_in at (Enumerated t x) = Some (value_at at (Some t) x)
value_in at k = None

abbrev pub value : Token → Option EnumeratedValue
value t = value_in t.start t.kind

abbrev pub literal_in : ℕ → TokenKind → Option Literal
literal_in at (Number n) = Some (literals.Number (unsigned at n))
literal_in at (Truth b) = Some (literals.Truth at b)
literal_in at (Duration d) = Some (literals.Duration at d)
literal_in at (Enumerated t x) = Some (literals.Enumerated (value_at at (Some t) x))
literal_in at k = None

-- a literal without a sign
abbrev pub literal : Token → Option Literal
literal t = literal_in t.start t.kind

abbrev pub constant_in : ℕ → TokenKind → Option Literal
constant_in at (Name x) = Some (literals.Enumerated (value_at at None x))
constant_in at k = literal_in at k

-- a literal without a sign, or the name of a value of an enumerated type
abbrev pub constant : Token → Option Literal
constant t = constant_in t.start t.kind

-- One token that stands for x, and then the others.
pub data Is {A : Type 0} (of : Token → Option A) : Tokens → A → Tokens → Type 0 where
  is : {t : Token} {us : Tokens} {x : A} → of t ≡ Some x → Is of (t ∷ us) x us

-- a mark or a keyword, at any place, and then the others
abbrev pub Passes : (Token → Option ℕ) → Tokens → Tokens → Type 0
Passes of ts us = (at : ℕ) × Is of ts at us

-- a number: a whole number or bit string, with a `-` directly before it or not
pub data IsNumber : Tokens → NumberLeaf → Tokens → Type 0 where
  plain : {ts us : Tokens} {n : NumberLeaf} → Is whole ts n us → IsNumber ts n us
  negative : {ts us vs : Tokens} {n : NumberLeaf} (at : ℕ) (k : NumberLeaf) → Is (mark m.Minus) ts at us
      → Is whole us k vs → n ≡ negative_at at k → IsNumber ts n vs
