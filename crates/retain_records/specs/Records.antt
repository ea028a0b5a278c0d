-- Records: the content of an area's body, and the bytes that spell it.
use Rattle.std.specs.Prelude.{◌≡◌, ◌+◌, ◌<◌, ◌≤◌, nat_le, ◌==◌, ℕ, pos, int_lt, Bool, false, true, ◌&&◌, ◌||◌}
use Rattle.std.specs.Prelude.{if◌then◌else◌, Option, Some, None}
use Rattle.std.specs.Prelude.{IfSome, List, [], ◌∷◌, ◌++◌, length, map, bytes_eq, codes}
use Rattle.std.specs.List.{flat_map, list_all, AllByRecursion, IsDistinct}
use Rattle.std.specs.Int.{Width, w8, w16, w32, w64, to_be_bytes, cast_unsigned}
use Rattle.st_types.specs.declared.limits.TheConstants.{MAX_RECORD_BODY, MOMENT_LIMIT}
use Rattle.st_types.specs.declared.kind.Kind.{Kind}
use Rattle.st_types.specs.declared.kind.Kind.TheVariants.{Enumerated}
use Rattle.st_types.specs.Kinds.{row_of, names_in}
use Rattle.st_types.specs.UpperNames.{is_upper_name, joined}
use Rattle.st_types.specs.Values.{Datum, IsHeld}

-- the content of a record: the moment of the last row in milliseconds, the layout text, and the values in order
pub record Content : Type 0 where
  pub moment : Option ℕ
  pub layout : List ℕ
  pub values : List Datum

-- an enumerated type of `n` names as it is spelled: its names between parentheses
pub record IsEnumeration (word : List ℕ) (n : ℕ) : Type 0 where
  pub names : List (List ℕ)
  pub spelled : word ≡ 40 ∷ joined names ++ 41 ∷ []
  pub each : list_all is_upper_name names ≡ true
  pub some : 0 < length names
  pub most : length names ≤ 65535
  pub count : length names ≡ n

-- a byte that a path may have: a visible one
abbrev pub is_visible : ℕ → Bool
is_visible b = nat_le 33 b && nat_le b 126

abbrev pub is_path_text : List ℕ → Bool
is_path_text [] = false
is_path_text (b ∷ bs) = list_all is_visible (b ∷ bs)

-- a type with a keyword: an elementary one
abbrev pub has_keyword : Kind → Bool
has_keyword k = is_path_text (row_of k).keyword

-- A type as a layout text spells it: an elementary one by its keyword, an enumerated one by its names. A record knows
-- no more about the types of its text, so each enumerated type has number 0.
pub data SpellsKind (word : List ℕ) (k : Kind) : Type 0 where
  by_keyword : has_keyword k ≡ true → word ≡ (row_of k).keyword → SpellsKind word k
  by_names : (n : ℕ) → k ≡ Enumerated n 0 → IsEnumeration word n → SpellsKind word k

-- a line of a layout text, with the type that it spells
pub record Line : Type 0 where
  pub path : List ℕ
  pub spelling : List ℕ
  pub kind : Kind

-- PATH TYPE and LF
abbrev pub line_text : Line → List ℕ
line_text l = l.path ++ codes " " ++ l.spelling ++ 10 ∷ []

abbrev pub text_of : List Line → List ℕ
text_of lines = flat_map line_text lines

-- a line that a layout text may have
pub record IsLine (l : Line) : Type 0 where
  pub path : is_path_text l.path ≡ true
  pub spells : SpellsKind l.spelling l.kind

-- a text that consists of lines for variables of these types: each line is sound, and no path occurs twice
pub record IsLayoutText (text : List ℕ) (kinds : List Kind) : Type 0 where
  pub lines : List Line
  pub sound : AllByRecursion IsLine lines
  pub once : IsDistinct bytes_eq (map (λ l. l.path) lines)
  pub spelled : text ≡ text_of lines
  pub typed : kinds ≡ map (λ l. l.kind) lines

-- 0 for no moment, else the moment plus 1
abbrev pub moment_code : Option ℕ → ℕ
moment_code None = 0
moment_code (Some t) = t + 1

-- the whole bytes that hold a value of the type
abbrev pub wide_of : Kind → Width
wide_of k = if nat_le (row_of k).bits 8 then w8 else if nat_le (row_of k).bits 16 then w16
    else if nat_le (row_of k).bits 32 then w32 else w64

-- big-endian, two's complement; a BOOL is one byte 0 or 1
abbrev pub value_bytes : Datum → List ℕ
value_bytes d = to_be_bytes (wide_of d.kind) (cast_unsigned (wide_of d.kind) d.number)

-- the spelling of a record
abbrev pub record_bytes : Content → List ℕ
record_bytes c = to_be_bytes w64 (moment_code c.moment) ++ to_be_bytes w32 (length c.layout) ++ c.layout
    ++ flat_map value_bytes c.values

-- a place of an enumerated type is one byte
abbrev pub is_byte_place : Datum → Bool
is_byte_place d = (names_in d.kind == 0) || int_lt d.number (pos 256)

-- the conditions on a record: a moment below its limit, values that their types hold, and a line for each of them
pub record IsRecordable (c : Content) : Type 0 where
  pub moment : IfSome c.moment (λ t. t < MOMENT_LIMIT)
  pub layout : IsLayoutText c.layout (map (λ d. d.kind) c.values)
  pub values : AllByRecursion IsHeld c.values
  pub places : AllByRecursion (λ d. is_byte_place d ≡ true) c.values

-- a body of an area that is a record of this content
pub record IsRecord (body : List ℕ) (c : Content) : Type 0 where
  pub short : length body ≤ MAX_RECORD_BODY
  pub sound : IsRecordable c
  pub spelled : body ≡ record_bytes c
