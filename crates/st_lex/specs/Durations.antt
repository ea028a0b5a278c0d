-- Durations: parts of decimal digits and a unit, each unit at most once and from large to small.
use Rattle.std.specs.Prelude.{ℕ, ◌+◌, ◌*◌, ◌^◌, List, [], ◌∷◌, drop, length, Bool, true, false, not, ◌&&◌, ◌||◌, ◌==◌}
use Rattle.std.specs.Prelude.{nat_lt, if◌then◌else◌, Option, Some, None, codes}
use Rattle.std.specs.Str.{str_eq_ignore_ascii_case}
use Rattle.std.specs.List.{take_while}
use Rattle.std.specs.Char.{is_ascii_digit, is_ascii_alphabetic}
use Rattle.st_lex.specs.declared.time_unit.TimeUnit.{TimeUnit}
use Rattle.st_lex.specs.TimeUnits.{UnitRow, unit_row, units}
use Rattle.st_lex.specs.Numbers.{value_from, below, before_hash, after_hash}

abbrev pub starts_with_underscore : List ℕ → Bool
starts_with_underscore [] = false
starts_with_underscore (b ∷ bs) = b == 95

-- one underscore may come before a later part
abbrev pub over_underscore : Bool → List ℕ → List ℕ
over_underscore is_first text = if not is_first && starts_with_underscore text then drop 1 text else text

-- a part in front: its digits, its letters, and the text after them
abbrev pub digits_of : List ℕ → List ℕ
digits_of text = take_while is_ascii_digit text

abbrev pub leading_letters : List ℕ → List ℕ
leading_letters text = take_while is_ascii_alphabetic text

abbrev pub after_digits : List ℕ → List ℕ
after_digits text = drop (length (digits_of text)) text

abbrev pub letters_of : List ℕ → List ℕ
letters_of text = leading_letters (after_digits text)

abbrev pub after_part : List ℕ → List ℕ
after_part text = drop (length (letters_of text)) (after_digits text)

abbrev pub is_part_in : TimeUnit → List ℕ → Bool
is_part_in unit text =
    nat_lt 0 (length (digits_of text)) && str_eq_ignore_ascii_case (letters_of text) (unit_row unit).letters

-- the number before the unit in the first part
abbrev pub count_of : List ℕ → ℕ
count_of text = value_from 10 0 (digits_of text)

-- the first part may overflow its unit, a later one must be below the limit
abbrev pub part_milliseconds : TimeUnit → Bool → List ℕ → Option ℕ
part_milliseconds unit is_first text =
    if is_first || nat_lt (count_of text) (unit_row unit).limit then Some (count_of text * (unit_row unit).milliseconds)
    else None

abbrev pub sum : Option ℕ → Option ℕ → Option ℕ
sum (Some n) (Some m) = Some (n + m)
sum _ _ = None

-- the milliseconds of one part or more, in some of these units and in their order
abbrev pub parts : List TimeUnit → Bool → List ℕ → Option ℕ
parts [] is_first text = if is_first || nat_lt 0 (length text) then None else Some 0
parts (unit ∷ smaller) is_first text =
    if is_part_in unit (over_underscore is_first text)
    then sum (part_milliseconds unit is_first (over_underscore is_first text))
    (parts smaller false (after_part (over_underscore is_first text)))
    else parts smaller is_first text

-- less than 2^63 milliseconds
abbrev pub fits : Option ℕ → Option ℕ
fits None = None
fits (Some n) = below (2 ^ 63) n

unfoldable pub milliseconds : List ℕ → Option ℕ
milliseconds text = fits (parts units true text)

abbrev pub is_duration : List ℕ → Bool
is_duration word = str_eq_ignore_ascii_case (before_hash word) (codes "T")
    || str_eq_ignore_ascii_case (before_hash word) (codes "TIME")

-- `T#` or `TIME#`, then parts
unfoldable pub duration : List ℕ → Option ℕ
duration word = if is_duration word then milliseconds (after_hash word) else None
