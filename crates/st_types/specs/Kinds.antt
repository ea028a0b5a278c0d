-- The elementary types, as one table.
use Rattle.std.specs.Prelude.{ℕ, ◌+◌, ◌-◌, ◌/◌, ◌^◌, ◌==◌, ℤ, pos, neg_ℤ, int_le, List, [], Bool, true, false, ◌&&◌, codes}
use Rattle.st_types.specs.declared.kind.Kind.{Kind}
use Rattle.st_types.specs.declared.kind.Kind.TheVariants.{Sint, Int, Dint, Lint, Usint, Uint, Udint, Ulint, Byte, Word}
use Rattle.st_types.specs.declared.kind.Kind.TheVariants.{Dword, Lword, Time, Bool as Boolean, Enumerated}
use Rattle.st_types.specs.declared.kind.Sort.{Sort}
use Rattle.st_types.specs.declared.kind.Sort.TheVariants.{Signed, Unsigned, Bits, Duration, Truth, Place}

-- a line of the table: the keyword, the sort of the values, and how many bits they have
pub record Row : Type 0 where
  pub keyword : List ℕ
  pub sort : Sort
  pub bits : ℕ

abbrev pub row_of : Kind → Row
row_of Sint = record { keyword = codes "SINT"; sort = Signed; bits = 8 }
row_of Int = record { keyword = codes "INT"; sort = Signed; bits = 16 }
row_of Dint = record { keyword = codes "DINT"; sort = Signed; bits = 32 }
row_of Lint = record { keyword = codes "LINT"; sort = Signed; bits = 64 }
row_of Usint = record { keyword = codes "USINT"; sort = Unsigned; bits = 8 }
row_of Uint = record { keyword = codes "UINT"; sort = Unsigned; bits = 16 }
row_of Udint = record { keyword = codes "UDINT"; sort = Unsigned; bits = 32 }
row_of Ulint = record { keyword = codes "ULINT"; sort = Unsigned; bits = 64 }
row_of Byte = record { keyword = codes "BYTE"; sort = Bits; bits = 8 }
row_of Word = record { keyword = codes "WORD"; sort = Bits; bits = 16 }
row_of Dword = record { keyword = codes "DWORD"; sort = Bits; bits = 32 }
row_of Lword = record { keyword = codes "LWORD"; sort = Bits; bits = 64 }
row_of Time = record { keyword = codes "TIME"; sort = Duration; bits = 64 }
row_of Boolean = record { keyword = codes "BOOL"; sort = Truth; bits = 1 }
-- an enumerated type has no keyword
row_of (Enumerated names number) = record { keyword = []; sort = Place; bits = 8 }

abbrev pub is_signed : Sort → Bool
is_signed Signed = true
is_signed Duration = true
is_signed Unsigned = false
is_signed Bits = false
is_signed Truth = false
is_signed Place = false

-- the least and the greatest number of a width, in two's complement or unsigned
abbrev pub least_of : Bool → ℕ → ℤ
least_of true n = neg_ℤ (pos (2 ^ (n - 1)))
least_of false n = pos 0

-- how many names the type has, and its place among the enumerated types; 0 for any other type
abbrev pub names_in : Kind → ℕ
names_in (Enumerated names number) = names
names_in k = 0

abbrev pub number_of_type : Kind → ℕ
number_of_type (Enumerated names number) = number
number_of_type k = 0

abbrev pub greatest_of : Bool → ℕ → ℤ
greatest_of true n = pos (2 ^ (n - 1) - 1)
greatest_of false n = pos (2 ^ n - 1)

-- the place of the last name, or the greatest number of a width
abbrev pub greatest_as : Sort → ℕ → ℕ → ℤ
greatest_as Place bits names = pos (names - 1)
greatest_as s bits names = greatest_of (is_signed s) bits

abbrev pub least : Kind → ℤ
least k = least_of (is_signed (row_of k).sort) (row_of k).bits

abbrev pub greatest : Kind → ℤ
greatest k = greatest_as (row_of k).sort (row_of k).bits (names_in k)

-- the type has this number
abbrev pub holds : Kind → ℤ → Bool
holds k z = int_le (least k) z && int_le z (greatest k)

-- how many bytes a value of a type takes in a record: one for a BOOL, else its width
abbrev pub width_of : Kind → ℕ
width_of k = ((row_of k).bits + 7) / 8

-- the index of the type in the table
abbrev pub kind_index : Kind → ℕ
kind_index Sint = 0
kind_index Int = 1
kind_index Dint = 2
kind_index Lint = 3
kind_index Usint = 4
kind_index Uint = 5
kind_index Udint = 6
kind_index Ulint = 7
kind_index Byte = 8
kind_index Word = 9
kind_index Dword = 10
kind_index Lword = 11
kind_index Time = 12
kind_index Boolean = 13
kind_index (Enumerated names number) = 14

abbrev pub same_kind : Kind → Kind → Bool
same_kind k l = (kind_index k == kind_index l) && ((names_in k == names_in l) && (number_of_type k == number_of_type l))
