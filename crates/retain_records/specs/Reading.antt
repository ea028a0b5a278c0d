-- The record that a body spells, field by field from the front.
use Rattle.std.specs.Prelude.{◌≡◌, ◌-◌, nat_le, nat_lt, ◌==◌, ℕ, zero, suc, ℤ, pos, Bool, true, ◌&&◌, not}
use Rattle.std.specs.Prelude.{if◌then◌else◌, Option, Some, None, List, [], ◌∷◌, length, map, take, drop, bytes_eq}
use Rattle.std.specs.List.{find, list_any}
use Rattle.std.specs.Int.{Width, w32, w64, byte_len, from_be_bytes, cast_signed}
use Rattle.st_types.specs.declared.limits.TheConstants.{MAX_RECORD_BODY, MOMENT_LIMIT}
use Rattle.st_types.specs.declared.kind.Kind.{Kind}
use Rattle.st_types.specs.declared.kind.Kind.TheVariants.{Sint, Int, Dint, Lint, Usint, Uint, Udint, Ulint, Byte, Word}
use Rattle.st_types.specs.declared.kind.Kind.TheVariants.{Dword, Lword, Time, Bool as Boolean}
use Rattle.st_types.specs.Kinds.{row_of, is_signed, holds}
use Rattle.st_types.specs.Values.{Datum}
use Rattle.retain_records.specs.Splits.{◌>>=◌, split_at}
use Rattle.retain_records.specs.Enumerations.{enumeration_in}
use Rattle.retain_records.specs.Records.{Content, Line, is_path_text, wide_of}
use Rattle.st_meaning.specs.Operators.{or_kind}

-- the number in the first bytes, and the bytes after it
abbrev pub number_at : Width → List ℕ → Option (ℕ × List ℕ)
number_at w bytes = if nat_lt (length bytes) (byte_len w) then None
    else Some (from_be_bytes w (take (byte_len w) bytes), drop (byte_len w) bytes)

abbrev pub all_kinds : List Kind
all_kinds = Sint ∷ Int ∷ Dint ∷ Lint ∷ Usint ∷ Uint ∷ Udint ∷ Ulint ∷ Byte ∷ Word ∷ Dword ∷ Lword ∷ Time ∷ Boolean ∷ []

-- the type that has this keyword
unfoldable pub kind_of : List ℕ → Option Kind
kind_of word = find (λ k. bytes_eq (row_of k).keyword word) all_kinds

unfoldable pub kind_spelled : List ℕ → Option Kind
kind_spelled word = or_kind (kind_of word) (enumeration_in word)

-- a line, and the text after it
unfoldable pub line_at : List ℕ → Option (Line × List ℕ)
line_at text = do
  word ← split_at 32 text
  line ← split_at 10 word.1
  kind ← kind_spelled line.0
  if is_path_text word.0 then Some (record { path = word.0; spelling = line.0; kind = kind }, line.1) else None

-- the number that these bits stand for
abbrev pub number_of : Kind → ℕ → ℤ
number_of k n = if is_signed (row_of k).sort then cast_signed (wide_of k) n else pos n

-- a value of the type, and the bytes after it
unfoldable pub value_at : Kind → List ℕ → Option (Datum × List ℕ)
value_at k bytes = do
  n ← number_at (wide_of k) bytes
  if holds k (number_of k n.0) then Some (record { kind = k; number = number_of k n.0 }, n.1) else None

-- a retained variable: its path, the spelling of its type, and its value
pub record RecordedVariable : Type 0 where
  pub path : List ℕ
  pub spelling : List ℕ
  pub value : Datum

-- a line and a value at the front of the two, and the rest of both
unfoldable pub variable_at : List ℕ → List ℕ → Option (RecordedVariable × List ℕ × List ℕ)
variable_at text bytes = do
  line ← line_at text
  value ← value_at line.0.kind bytes
  Some (record { path = line.0.path; spelling = line.0.spelling; value = value.0 }, line.1, value.1)

-- the lines and their values to the end of both; at most `most` of them
unfoldable pub variables_in : ℕ → List ℕ → List ℕ → Option (List RecordedVariable)
variables_in most [] [] = Some []
variables_in most [] (b ∷ bytes) = None
variables_in zero (c ∷ text) bytes = None
variables_in (suc most) (c ∷ text) bytes = do
  first ← variable_at (c ∷ text) bytes
  others ← variables_in most first.1 first.2
  Some (first.0 ∷ others)

abbrev pub are_distinct : List (List ℕ) → Bool
are_distinct [] = true
are_distinct (x ∷ xs) = not (list_any (bytes_eq x) xs) && are_distinct xs

abbrev pub moment_of : ℕ → Option ℕ
moment_of n = if n == 0 then None else Some (n - 1)

-- the fields before the values: the moment, the layout text, and the bytes after it
pub record Parts : Type 0 where
  pub moment : Option ℕ
  pub layout : List ℕ
  pub rest : List ℕ

unfoldable pub parts_at : List ℕ → Option Parts
parts_at body = do
  code ← number_at w64 body
  size ← number_at w32 code.1
  if nat_le code.0 MOMENT_LIMIT && nat_le size.0 (length size.1)
      then Some (record { moment = moment_of code.0; layout = take size.0 size.1; rest = drop size.0 size.1 }) else None

-- the record that a body spells, if it is one
unfoldable pub decoded : List ℕ → Option Content
decoded body = if nat_le (length body) MAX_RECORD_BODY then (do
  parts ← parts_at body
  all ← variables_in (length parts.layout) parts.layout parts.rest
  if are_distinct (map (λ v. v.path) all)
      then Some (record { moment = parts.moment; layout = parts.layout; values = map (λ v. v.value) all }) else None)
    else None

-- ---- paths by their offsets

-- the path that begins at an offset of a text: the bytes there up to the first space, or nothing
abbrev pub first_word : Option (List ℕ × List ℕ) → List ℕ
first_word None = []
first_word (Some p) = p.0

abbrev pub path_from : List ℕ → ℕ → List ℕ
path_from text start = first_word (split_at 32 (drop start text))

-- the variables that a text and bytes spell, by the offsets of their lines and by their values
pub record AreVariables (text bytes starts : List ℕ) (values : List Datum) : Type 0 where
  pub vs : List RecordedVariable
  pub read : variables_in (length text) text bytes ≡ Some vs
  pub paths : map (path_from text) starts ≡ map (λ v. v.path) vs
  pub found : values ≡ map (λ v. v.value) vs

-- each path differs from the one before it, of which the first is this
abbrev pub differs_from : List ℕ → List (List ℕ) → Bool
differs_from x [] = true
differs_from x (y ∷ ys) = not (bytes_eq x y) && differs_from y ys

-- each path differs from the one before it
abbrev pub neighbours_differ : List (List ℕ) → Bool
neighbours_differ [] = true
neighbours_differ (x ∷ xs) = differs_from x xs
