-- Whole numbers and bit strings.
use Rattle.std.specs.Prelude.{ℕ, ◌+◌, ◌*◌, ◌^◌, List, [], ◌∷◌, drop, Bool, true, false, not, ◌&&◌, ◌||◌, ◌==◌, nat_lt}
use Rattle.std.specs.Prelude.{if◌then◌else◌, Option, Some, None, length, codes}
use Rattle.std.specs.List.{list_all, take_while}
use Rattle.std.specs.Option.{option_map, option_or}
use Rattle.std.specs.Char.{is_digit, digit_value}
use Rattle.st_types.specs.declared.kind.Kind.{Kind}
use Rattle.st_types.specs.declared.kind.Sort.{Sort}
use Rattle.st_types.specs.declared.kind.Sort.TheVariants as sorts
use Rattle.st_types.specs.Kinds.{row_of}
use Rattle.st_types.specs.UpperNames.{is_spaced}
use Rattle.st_lex.specs.declared.token.WholeNumber.{WholeNumber}
use Rattle.st_lex.specs.Tables.{lookup}
use Rattle.st_lex.specs.ReservedWords.{elementary}

-- the number that the digits continue from n; an underscore has no meaning
abbrev pub value_from : ℕ → ℕ → List ℕ → ℕ
value_from base n [] = n
value_from base n (b ∷ bs) = if b == 95 then value_from base n bs else value_from base (n * base + digit_value b) bs

abbrev pub starts_with_digit : ℕ → List ℕ → Bool
starts_with_digit base [] = false
starts_with_digit base (b ∷ bs) = is_digit b base

-- digits of the base, with single underscores between digits
abbrev pub is_numeral : ℕ → List ℕ → Bool
is_numeral base word =
    starts_with_digit base word && is_spaced word && list_all (λ b. (b == 95) || is_digit b base) word

abbrev pub below : ℕ → ℕ → Option ℕ
below limit n = if nat_lt n limit then Some n else None

-- the number of 64 bits that the word writes in the base
unfoldable pub numeral : ℕ → List ℕ → Option ℕ
numeral base word = if is_numeral base word then below (2 ^ 64) (value_from base 0 word) else None

-- the text before the first `#`, and the text after it
abbrev pub before_hash : List ℕ → List ℕ
before_hash word = take_while (λ b. not (b == 35)) word

abbrev pub after_hash : List ℕ → List ℕ
after_hash word = drop (length (before_hash word) + 1) word

abbrev pub bases : List (List ℕ × ℕ)
bases = (codes "2", 2) ∷ (codes "8", 8) ∷ (codes "16", 16) ∷ []

abbrev pub in_base : Option ℕ → List ℕ → Option ℕ
in_base None word = None
in_base (Some base) word = numeral base word

-- `2#`, `8#` or `16#`, then digits of that base
unfoldable pub based : List ℕ → Option ℕ
based word = in_base (lookup bases (before_hash word)) (after_hash word)

-- the number of a decimal or based literal
unfoldable pub magnitude : List ℕ → Option ℕ
magnitude word = option_or (numeral 10 word) (based word)

abbrev pub is_whole : Sort → Bool
is_whole sorts.Signed = true
is_whole sorts.Unsigned = true
is_whole sorts.Bits = true
is_whole sorts.Duration = false
is_whole sorts.Truth = false
is_whole sorts.Place = false

abbrev pub with_type : Option Kind → Option ℕ → Option WholeNumber
with_type (Some kind) (Some n) = if is_whole (row_of kind).sort
    then Some (record { written = Some kind; magnitude = n; is_decimal = false }) else None
with_type _ _ = None

-- a whole-number or bit-string type's name, `#`, then a decimal or based literal
unfoldable pub typed : List ℕ → Option WholeNumber
typed word = with_type (elementary (before_hash word)) (magnitude (after_hash word))

abbrev pub untyped : Bool → ℕ → WholeNumber
untyped is_decimal n = record { written = None; magnitude = n; is_decimal = is_decimal }

-- a decimal, based or typed literal
unfoldable pub whole_number : List ℕ → Option WholeNumber
whole_number word = option_or (option_map (untyped true) (numeral 10 word))
    (option_or (option_map (untyped false) (based word)) (typed word))
