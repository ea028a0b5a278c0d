-- Reading from left to right, up to the first fault.
use Rattle.std.specs.Prelude.{◌≡◌, ℕ, zero, suc, Bool, List, [], ◌∷◌, ◌++◌, length, Option, Some, None, Result, Ok, Err}
use Rattle.std.specs.Prelude.{if◌then◌else◌, map}
use Rattle.std.specs.Global.{Vec}
use denote.Bor.{Bor}
use Rattle.st_types.specs.declared.literal.Number.{Number as NumberLeaf}
use Rattle.st_lex.specs.declared.token.Token.{Token}
use Rattle.st_lex.specs.declared.token.TokenKind.{TokenKind}
use Rattle.st_lex.specs.declared.mark.Mark.TheVariants as m
use Rattle.st_lex.specs.declared.keyword.Keyword.{Keyword as KeywordType}
use Rattle.st_parse.specs.declared.fault.Refusal.{Refusal}
use Rattle.st_parse.specs.declared.fault.Refusal.TheVariants.{Unexpected, Deep}
use Rattle.st_parse.specs.declared.fault.ReadError.{ReadError}
use Rattle.st_parse.specs.declared.fault.ReadError.TheVariants as errors
use Rattle.st_parse.specs.Tokens.{Tokens, next, mark, keyword, whole, is_mark, negative_at}

-- the part that was read and the tokens after it, or why nothing was read
abbrev pub Outcome : Type 0 → Type 0
Outcome A = Result (A × Tokens) Refusal

abbrev pub Parser : Type 0 → Type 0
Parser A = Tokens → Outcome A

abbrev pub and_then : {A B : Type 0} → Outcome A → (A → Parser B) → Outcome B
and_then (Ok p) f = f p.0 p.1
and_then (Err x) f = Err x

infixl 10 ◌>>=◌
abbrev pub ◌>>=◌ : {A B : Type 0} → Parser A → (A → Parser B) → Parser B
p >>= q = λ ts. and_then (p ts) q

infixl 10 ◌>>◌
abbrev pub ◌>>◌ : {A B : Type 0} → Parser A → Parser B → Parser B
p >> q = p >>= (λ _. q)

abbrev pub pure : {A : Type 0} → A → Parser A
pure a = λ ts. Ok (a, ts)

-- the next token is unexpected
abbrev pub refuse : {A : Type 0} → Parser A
refuse = λ ts. Err (Unexpected (length ts))

-- the result of a function, seen by view, is that of the reading, unless an allocation failed
abbrev pub Fails : {Y : Type 0} → ReadError → Result Y Refusal → Type 0
Fails errors.Memory read = Unit {0}
Fails (errors.Refused f) read = read ≡ Err f

abbrev pub Gives : {X Y : Type 0} → (X → Y) → Result X ReadError → Result Y Refusal → Type 0
Gives view (Ok x) read = read ≡ Ok (view x)
Gives view (Err x) read = Fails x read

-- the same with the tokens after it
abbrev pub Reads : {X A : Type 0} → (X → A) → Result (X × Bor Tokens) ReadError → Outcome A → Type 0
Reads view result read = Gives (λ x. (view x.0, x.1.now)) result read

-- the part that was read before, beside the one that was read next
abbrev pub Beside : {X Y : Type 0} → X → Result (Y × Bor Tokens) ReadError → Result ((X × Y) × Bor Tokens) ReadError
    → Type 0
Beside x next (Ok r) = (r.0.0 ≡ x) × (next ≡ Ok (r.0.1, r.1))
Beside x next (Err e) = next ≡ Err e

-- a view of a type that is its own mirror, and of a list by one of its items
abbrev pub as_is : {A : Type 0} → A → A
as_is x = x

abbrev pub each : {X A : Type 0} → (X → A) → Vec X → List A
each view xs = map view xs.items

abbrev pub taken : {A : Type 0} → Option A → Token → Parser A
taken None t = λ ts. Err (Unexpected (length (t ∷ ts)))
taken (Some x) t = λ ts. Ok (x, ts)

-- one token
abbrev pub one : {A : Type 0} → (Token → Option A) → Parser A
one of [] = refuse []
one of (t ∷ ts) = taken (of t) t ts

-- by the kind of the next token
abbrev pub by_kind : {A : Type 0} → (TokenKind → Parser A) → Parser A
by_kind f [] = refuse []
by_kind f (t ∷ ts) = f t.kind (t ∷ ts)

-- one way if the next token is of this kind, otherwise the other
abbrev pub if_next : {A : Type 0} → (TokenKind → Bool) → Parser A → Parser A → Parser A
if_next f p q = λ ts. if next f ts then p ts else q ts

abbrev pub guard : {A : Type 0} → Bool → Parser A → Parser A
guard b p = λ ts. if b then Err Deep else p ts

-- if no depth is left: too deep, if anything begins at all
abbrev pub sunk : {A : Type 0} → Bool → Parser A
sunk b = λ ts. if b then Err Deep else Err (Unexpected (length ts))

abbrev pub too_deep : {A : Type 0} → (TokenKind → Bool) → Parser A
too_deep f = λ ts. sunk (next f ts) ts

-- Turns, as long as the next token is of this kind. The number bounds them, and each takes a token.
unfoldable pub loops : {S : Type 0} → (TokenKind → Bool) → (S → Parser S) → ℕ → S → Parser S
loops f step zero s = pure s
loops f step (suc n) s = λ ts. if next f ts then and_then (step s ts) (loops f step n) else Ok (s, ts)

unfoldable pub turns : {S : Type 0} → (TokenKind → Bool) → (S → Parser S) → S → Parser S
turns f step s = λ ts. loops f step (length ts) s ts

abbrev pub gather : {A : Type 0} → Parser A → List A → Parser (List A)
gather item found = item >>= (λ x. pure (found ++ x ∷ []))

-- items after those that were found
abbrev pub several : {A : Type 0} → (TokenKind → Bool) → Parser A → List A → Parser (List A)
several f item = turns f (gather item)

-- items separated by commas
unfoldable pub after_comma : {A : Type 0} → Parser A → Parser A
after_comma item = one (mark m.Comma) >> item

unfoldable pub listed : {A : Type 0} → Parser A → Parser (List A)
listed item = do
  first ← item
  several (is_mark m.Comma) (after_comma item) (first ∷ [])

-- an item between two keywords
unfoldable pub between : {A : Type 0} → KeywordType → KeywordType → Parser A → Parser A
between first last item = do
  one (keyword first)
  x ← item
  one (keyword last)
  pure x

unfoldable pub negative_number_at : Parser NumberLeaf
negative_number_at = do
  at ← one (mark m.Minus)
  n ← one whole
  pure (negative_at at n)

unfoldable pub number_at : Parser NumberLeaf
number_at = if_next (is_mark m.Minus) negative_number_at (one whole)
