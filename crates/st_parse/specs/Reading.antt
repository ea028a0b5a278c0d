-- Reading repeated and optional parts.
use Rattle.std.specs.Prelude.{Bool, List, [], ◌∷◌, Option, Some, None}
use Rattle.st_lex.specs.declared.token.TokenKind.{TokenKind}
use Rattle.st_parse.specs.Parsers.{Parser, ◌>>=◌, pure, if_next, several}

-- one, if the next token is of this kind, or nothing
unfoldable pub optional : {A : Type 0} → (TokenKind → Bool) → Parser A → Parser (Option A)
optional f item = if_next f (item >>= (λ x. pure (Some x))) (pure None)

-- any number of them, each of which begins with this kind
unfoldable pub many : {A : Type 0} → (TokenKind → Bool) → Parser A → Parser (List A)
many f item = several f item []

-- one or more
unfoldable pub at_least_one : {A : Type 0} → (TokenKind → Bool) → Parser A → Parser (List A)
at_least_one f item = item >>= (λ x. several f item (x ∷ []))
