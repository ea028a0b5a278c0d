-- Words: the longest runs of letters, digits, `_` and `#`, each with a `%` directly before it if there is one.
use Rattle.std.specs.Prelude.{ℕ, ◌+◌, List, [], ◌∷◌, length, map, Bool, false, ◌&&◌, ◌||◌, ◌==◌, nat_le, if◌then◌else◌}
use Rattle.std.specs.Prelude.{Option, Some, None, is_none, not, codes, bytes_eq}
use Rattle.std.specs.Option.{unwrap_or, option_or}
use Rattle.std.specs.List.{list_any, prefix_len}
use Rattle.std.specs.Char.{to_ascii_uppercase, is_ascii_digit}
use Rattle.st_types.specs.declared.limits.TheConstants.{MAX_NAME_LENGTH}
use Rattle.st_types.specs.UpperNames.{is_spaced}
use Rattle.st_lex.specs.declared.token.TokenKind.{TokenKind}
use Rattle.st_lex.specs.declared.token.TokenKind.TheVariants.{Name, Enumerated}
use Rattle.st_lex.specs.declared.fault.LexFault.{LexFault}
use Rattle.st_lex.specs.declared.fault.LexFault.TheVariants as faults
use Rattle.st_lex.specs.declared.front.Front.{Front}
use Rattle.st_lex.specs.declared.front.Front.TheVariants as fronts
use Rattle.st_lex.specs.Characters.{is_word_character}
use Rattle.st_lex.specs.ReservedWords.{reserved}
use Rattle.st_lex.specs.Literals.{literal}
use Rattle.st_lex.specs.Numbers.{before_hash, after_hash}

abbrev pub with_percent : ℕ → ℕ
with_percent n = if n == 0 then 0 else n + 1

-- how many bytes the word in front has, 0 if there is none
abbrev pub word_length : List ℕ → ℕ
word_length [] = 0
word_length (b ∷ bs) =
    if b == 37 then with_percent (prefix_len is_word_character bs) else prefix_len is_word_character (b ∷ bs)

abbrev pub upper : List ℕ → List ℕ
upper word = map to_ascii_uppercase word

abbrev pub starts_with_decimal_digit : List ℕ → Bool
starts_with_decimal_digit [] = false
starts_with_decimal_digit (b ∷ bs) = is_ascii_digit b

-- it has `%` or `#`, or begins with a digit
abbrev pub must_be_literal : List ℕ → Bool
must_be_literal word = starts_with_decimal_digit word || list_any (λ b. (b == 35) || (b == 37)) word

-- such a word that need not be a literal: at most 64 characters, without two underscores in a row and without a trailing one
abbrev pub is_identifier : List ℕ → Bool
is_identifier word = nat_le (length word) MAX_NAME_LENGTH && is_spaced word

-- a reserved word isn't a name
abbrev pub named : List ℕ → TokenKind
named word = unwrap_or (reserved word) (Name (upper word))

abbrev pub read_as : LexFault → ℕ → Option TokenKind → Front
read_as fault n None = fronts.Fault fault 0
read_as fault n (Some kind) = fronts.Token kind n

abbrev pub identifier : List ℕ → Option TokenKind
identifier word = if is_identifier word then Some (named word) else None

-- an identifier that isn't a reserved word
abbrev pub is_name : List ℕ → Bool
is_name [] = false
is_name (b ∷ bs) = not (must_be_literal (b ∷ bs)) && is_identifier (b ∷ bs) && is_none (reserved (b ∷ bs))

-- `T#` begins a duration, never a value of a type T
abbrev pub begins_duration : List ℕ → Bool
begins_duration word = bytes_eq (upper (before_hash word)) (codes "T")

-- a type's name, `#`, and the name of one of its values
unfoldable pub enumerated : List ℕ → Option TokenKind
enumerated word =
    if is_name (before_hash word) && is_name (after_hash word) && not (begins_duration word)
    then Some (Enumerated (upper (before_hash word)) (upper (after_hash word))) else None

-- a word that isn't an identifier: a literal or an address, and only if it is neither, a value of an enumerated type
abbrev pub literal_of : List ℕ → Option TokenKind
literal_of word = option_or (literal word) (enumerated word)

-- the front that a word is
unfoldable pub word_front : List ℕ → Front
word_front word =
    if must_be_literal word
    then read_as faults.Literal (length word) (literal_of word)
    else read_as faults.Identifier (length word) (identifier word)
