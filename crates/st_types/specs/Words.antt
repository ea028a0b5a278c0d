-- The storage of a value: its type, and its number as a word of 64 bits.
use Rattle.std.specs.Prelude.{◌≡◌, ◌^◌, ◌+ℤ◌, ◌-ℤ◌, ℤ, pos, Bool, true, false, if◌then◌else◌, refl}
use Rattle.std.proofs.Math.IntN.{+ℤ-neg_ℤ_cancel}
use Rattle.st_types.specs.declared.kind.Kind.{Kind}
use Rattle.st_types.specs.declared.kind.Kind.TheVariants.{Sint, Int, Dint, Lint, Usint, Uint, Udint, Ulint, Byte, Word}
use Rattle.st_types.specs.declared.kind.Kind.TheVariants.{Dword, Lword, Time, Bool as Boolean, Enumerated}
use Rattle.st_types.specs.declared.value.Value.TheInside.{Inside}
use Rattle.st_types.specs.Values.{Datum}

-- a type that has numbers past those of LINT
abbrev pub is_wide : Kind → Bool
is_wide Ulint = true
is_wide Lword = true
is_wide Sint = false
is_wide Int = false
is_wide Dint = false
is_wide Lint = false
is_wide Usint = false
is_wide Uint = false
is_wide Udint = false
is_wide Byte = false
is_wide Word = false
is_wide Dword = false
is_wide Time = false
is_wide Boolean = false
is_wide (Enumerated names number) = false

-- the difference between a type's numbers and their words
abbrev pub shift_of : Kind → ℤ
shift_of k = if is_wide k then pos (2 ^ 63) else pos 0

abbrev pub number_at : Kind → ℤ → ℤ
number_at k w = w +ℤ shift_of k

-- the value of a type with this word
abbrev pub datum_at : Kind → ℤ → Datum
datum_at k w = record { kind = k; number = number_at k w }

abbrev pub datum_of : Inside → Datum
datum_of v = datum_at v.kind v.word

abbrev pub inside_of : Datum → Inside
inside_of d = record { kind = d.kind; word = d.number -ℤ shift_of d.kind }

-- no part of a value is lost in its view
pub inside_of-datum_of : (v : Inside) → inside_of (datum_of v) ≡ v
inside_of-datum_of v = let e = +ℤ-neg_ℤ_cancel v.word (shift_of v.kind) in rw e refl
