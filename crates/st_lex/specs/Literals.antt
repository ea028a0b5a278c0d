-- Literals and addresses.
use Rattle.std.specs.Prelude.{ℕ, List, [], ◌∷◌, Bool, true, false, Option, codes}
use Rattle.std.specs.Option.{option_map, option_or}
use Rattle.st_lex.specs.declared.token.TokenKind.{TokenKind}
use Rattle.st_lex.specs.declared.token.TokenKind.TheVariants.{Number, Truth, Duration, Address}
use Rattle.st_lex.specs.Tables.{lookup}
use Rattle.st_lex.specs.Numbers.{whole_number}
use Rattle.st_lex.specs.Durations.{duration}
use Rattle.st_lex.specs.Addresses.{address}

abbrev pub bool_words : List (List ℕ × Bool)
bool_words = (codes "BOOL#0", false) ∷ (codes "BOOL#1", true) ∷ []

unfoldable pub bool_literal : List ℕ → Option Bool
bool_literal word = lookup bool_words word

-- the forms of a literal, and an address; no word has two of them
unfoldable pub literal : List ℕ → Option TokenKind
literal word =
    option_or (option_map Number (whole_number word))
    (option_or (option_map Truth (bool_literal word))
    (option_or (option_map Duration (duration word))
    (option_map Address (address word))))
