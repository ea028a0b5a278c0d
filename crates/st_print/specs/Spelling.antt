-- How values are spelled in reports and traces.
use Rattle.std.specs.Prelude.{ℕ, zero, suc, ◌/◌, ◌%◌, ◌==◌, List, [], ◌∷◌, ◌++◌, ℤ, unsigned_abs, true, codes}
use Rattle.std.specs.Prelude.{if◌then◌else◌, Option, Some, None, pos, slice_get}
use Rattle.std.specs.Fmt.{digit_glyph, signed_decimal}
use Rattle.st_types.specs.Values.{Datum}
use Rattle.st_types.specs.Kinds.{row_of}
use Rattle.st_types.specs.declared.kind.Kind.{Kind}
use Rattle.st_types.specs.declared.kind.Kind.TheVariants.{Enumerated}
use Rattle.st_types.specs.declared.kind.Sort.{Sort}
use Rattle.st_types.specs.declared.kind.Sort.TheVariants.{Signed, Unsigned, Bits, Duration, Truth, Place}

-- the last `count` hexadecimal digits of a number, in upper case
abbrev pub hexadecimal : ℕ → ℕ → List ℕ
hexadecimal zero n = []
hexadecimal (suc count) n = hexadecimal count (n / 16) ++ digit_glyph true (n % 16) ∷ []

-- FALSE, which is 0, or TRUE
abbrev pub bool_text : ℕ → List ℕ
bool_text n = if n == 0 then codes "FALSE" else codes "TRUE"

-- a number of a width: whole numbers in decimal, bit strings as 16# and all their digits, durations with ms
abbrev pub number_text : Sort → ℕ → ℤ → List ℕ
number_text Signed bits z = signed_decimal z
number_text Unsigned bits z = signed_decimal z
number_text Bits bits z = codes "16#" ++ hexadecimal (bits / 4) (unsigned_abs z)
number_text Duration bits z = signed_decimal z ++ codes "ms"
number_text Truth bits z = bool_text (unsigned_abs z)
-- the place of a name is a number like any other
number_text Place bits z = signed_decimal z

-- the name at a place among the names of a type, for the types in the order of their numbers
abbrev pub name_at : Option (List (List ℕ)) → ℕ → Option (List ℕ)
name_at None place = None
name_at (Some names) place = slice_get names place

abbrev pub name_of : List (List (List ℕ)) → Kind → ℤ → Option (List ℕ)
name_of types (Enumerated names number) (pos place) = name_at (slice_get types number) place
name_of types k z = None

-- the name, if there is one
abbrev pub named_or : Option (List ℕ) → List ℕ → List ℕ
named_or None text = text
named_or (Some name) text = name

-- a value: `-7`, `16#00FF`, `150ms`, `TRUE`, `RUNNING`
abbrev pub value_text : List (List (List ℕ)) → Datum → List ℕ
value_text types v =
    named_or (name_of types v.kind v.number) (number_text (row_of v.kind).sort (row_of v.kind).bits v.number)
