-- The contracts of a closure's calls, on the tokens that they are given.
use Rattle.std.specs.Prelude.{◌≡◌, Bool, Result}
use denote.Bor.{Bor}
use Rattle.st_lex.specs.declared.token.TokenKind.{TokenKind}
use Rattle.st_parse.specs.declared.fault.ReadError.{ReadError}
use Rattle.st_parse.specs.Tokens.{Tokens, next}
use Rattle.st_parse.specs.Parsers.{Parser, Reads}

-- whether the next token is of this kind
abbrev pub Tests : (Bor Tokens → Bool → Type 0) → (TokenKind → Bool) → Type 0
Tests post f = (ts : Bor Tokens) (r : Bool) → post ts r → r ≡ next f ts.now

-- they read as the parser does, seen by view
abbrev pub CallsRead : {X A : Type 0} → (X → A) → (Bor Tokens → Result (X × Bor Tokens) ReadError → Type 0) → Parser A
    → Type 0
CallsRead view post p = (ts : Bor Tokens) (r : Result (_ × Bor Tokens) ReadError) → post ts r → Reads view r (p ts.now)
