-- The standard functions.
use Rattle.std.specs.Prelude.{ℕ, ◌+◌, ◌-◌, ◌*◌, ◌/◌, ◌%◌, ◌^◌, ℤ, pos, negsuc, unsigned_abs, int_le, nat_le, List, []}
use Rattle.std.specs.Prelude.{◌∷◌, ◌++◌, if◌then◌else◌, Option, Some, None, Result, Ok, Err, codes, bytes_eq}
use Rattle.std.specs.List.{flat_map}
use Rattle.st_types.specs.declared.fault.Fault.{Fault}
use Rattle.st_types.specs.declared.fault.Fault.TheVariants.{Range, Conversion}
use Rattle.st_types.specs.declared.kind.Kind.{Kind}
use Rattle.st_types.specs.declared.kind.Kind.TheVariants.{Sint, Int, Dint, Lint, Usint, Uint, Udint, Ulint, Byte, Word}
use Rattle.st_types.specs.declared.kind.Kind.TheVariants.{Dword, Lword, Bool as Boolean}
use Rattle.st_types.specs.Kinds.{row_of, holds, same_kind}
use Rattle.st_types.specs.Values.{Datum, in_range, is_true}
use Rattle.st_meaning.specs.Operators.{natural}
use Rattle.st_meaning.specs.Failures.{Failure, ill_typed, failing}

pub data Standard : Type 0 where
  ABS : Standard
  MIN : Standard
  MAX : Standard
  LIMIT : Standard
  SEL : Standard
  SHL : Standard
  SHR : Standard
  ROL : Standard
  ROR : Standard
  -- X_TO_Y
  CONVERT : Kind → Kind → Standard

-- the types among which values are CONVERT
abbrev pub convertible : List Kind
convertible = Sint ∷ Int ∷ Dint ∷ Lint ∷ Usint ∷ Uint ∷ Udint ∷ Ulint ∷ Byte ∷ Word ∷ Dword ∷ Lword ∷ Boolean ∷ []

abbrev pub conversion_name : Kind → Kind → List ℕ
conversion_name k l = (row_of k).keyword ++ codes "_TO_" ++ (row_of l).keyword

-- the conversions from a type to the others
abbrev pub conversions_from : Kind → List Kind → List (List ℕ × Standard)
conversions_from k [] = []
conversions_from k (l ∷ ls) =
    if same_kind k l then conversions_from k ls else (conversion_name k l, CONVERT k l) ∷ conversions_from k ls

-- every standard function under its name
unfoldable pub standard_functions : List (List ℕ × Standard)
standard_functions =
    (codes "ABS", ABS) ∷ (codes "MIN", MIN) ∷ (codes "MAX", MAX) ∷ (codes "LIMIT", LIMIT) ∷ (codes "SEL", SEL)
    ∷ (codes "SHL", SHL) ∷ (codes "SHR", SHR) ∷ (codes "ROL", ROL) ∷ (codes "ROR", ROR)
    ∷ flat_map (λ k. conversions_from k convertible) convertible

abbrev pub named : List (List ℕ × Standard) → List ℕ → Option Standard
named [] x = None
named (e ∷ es) x = if bytes_eq x e.0 then Some e.1 else named es x

-- the standard function of a name
unfoldable pub standard_of : List ℕ → Option Standard
standard_of x = named standard_functions x

abbrev pub lesser : Datum → Datum → Datum
lesser a b = if int_le a.number b.number then a else b

abbrev pub greater : Datum → Datum → Datum
greater a b = if int_le b.number a.number then a else b

-- the bits of x moved up by n places, in a width; zeros follow, and bits that leave the width are lost
abbrev pub bits_up : ℕ → ℕ → ℕ → ℕ
bits_up width x n = if nat_le width n then 0 else (x * 2 ^ n) % 2 ^ width

-- the bits of x moved down by n places
abbrev pub bits_down : ℕ → ℕ → ℕ → ℕ
bits_down width x n = if nat_le width n then 0 else x / 2 ^ n

-- the bits of x rotated up by n places: bits that leave at the top come in below
abbrev pub bits_turned : ℕ → ℕ → ℕ → ℕ
bits_turned width x n = bits_up width x (n % width) + bits_down width x (width - n % width)

-- a shift of a bit string by a whole number; a negative one is F1
abbrev pub shifted : (ℕ → ℕ → ℕ → ℕ) → Datum → ℤ → Result Datum Fault
shifted move x (pos n) = in_range x.kind (pos (move (row_of x.kind).bits (natural x.number) n))
shifted move x (negsuc n) = Err Range

abbrev pub turned_down : ℕ → ℕ → ℕ → ℕ
turned_down width x n = bits_turned width x (width - n % width)

-- the value as one of another type; F4 if that type does not hold it
abbrev pub conversion : Kind → ℤ → Result Datum Fault
conversion l z = if holds l z then Ok (record { kind = l; number = z }) else Err Conversion

-- No well-typed text has arguments that do not fit.
abbrev pub standard_value : Standard → List Datum → Result Datum Failure
standard_value ABS (x ∷ []) = failing (in_range x.kind (pos (unsigned_abs x.number)))
standard_value MIN (a ∷ b ∷ []) = Ok (lesser a b)
standard_value MAX (a ∷ b ∷ []) = Ok (greater a b)
standard_value LIMIT (mn ∷ x ∷ mx ∷ []) = Ok (lesser (greater x mn) mx)
standard_value SEL (g ∷ a ∷ b ∷ []) = Ok (if is_true g then b else a)
standard_value SHL (x ∷ n ∷ []) = failing (shifted bits_up x n.number)
standard_value SHR (x ∷ n ∷ []) = failing (shifted bits_down x n.number)
standard_value ROL (x ∷ n ∷ []) = failing (shifted bits_turned x n.number)
standard_value ROR (x ∷ n ∷ []) = failing (shifted turned_down x n.number)
standard_value (CONVERT k l) (x ∷ []) =
    if same_kind x.kind k then failing (conversion l x.number) else Err ill_typed
standard_value _ _ = Err ill_typed
