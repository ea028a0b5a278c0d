-- Lines that spell rows.
use Rattle.std.specs.Prelude.{◌++◌, ℕ, List, [], ◌∷◌, Option, Some, None, if◌then◌else◌, ◌==◌, codes}
use Rattle.std.specs.Fmt.{decimal}
use Rattle.std.specs.Io.BufRead.{strip_last}
use Rattle.st_types.specs.Rows.{Latch}
use Rattle.image.specs.Plants.{Fields, spelled}
use Rattle.live_rows.specs.declared.timed_line.Moments.{Moments}
use Rattle.live_rows.specs.declared.timed_line.Moments.TheVariants.{Own, Clock}

-- a line without a carriage return at its end
abbrev pub without_cr : List ℕ → List ℕ
without_cr line = strip_last 13 line

-- the fields with one byte more in front of the first
abbrev pub first_longer : ℕ → Fields → Fields
first_longer byte [] = (byte ∷ []) ∷ []
first_longer byte (field ∷ fields) = (byte ∷ field) ∷ fields

-- the fields of bytes: what stands between their commas, one more than there are commas
abbrev pub fields_in : List ℕ → Fields
fields_in [] = [] ∷ []
fields_in (byte ∷ bytes) = if byte == 44 then [] ∷ fields_in bytes else first_longer byte (fields_in bytes)

-- the fields after a comma, the first byte, or none if there are no bytes
abbrev pub fields_after : List ℕ → Fields
fields_after [] = []
fields_after (comma ∷ bytes) = fields_in bytes

-- the fields of a line
abbrev pub line_fields : List ℕ → Fields
line_fields line = fields_in (without_cr line)

-- its first field
abbrev pub front_of : Fields → List ℕ
front_of [] = []
front_of (field ∷ fields) = field

abbrev pub first_field : List ℕ → List ℕ
first_field line = front_of (line_fields line)

-- fields with commas between them
abbrev pub joined : Fields → List ℕ
joined [] = []
joined (field ∷ []) = field
joined (field ∷ fields) = field ++ 44 ∷ joined fields

-- the line that spells a row: its moment and its values in decimal, with commas between them
abbrev pub row_line : Latch → List ℕ
row_line row = joined (spelled row)

-- a line after a comma, or alone if it is empty but for a carriage return
abbrev pub comma_before : List ℕ → List ℕ → List ℕ
comma_before [] line = line
comma_before (byte ∷ bytes) line = 44 ∷ line

abbrev pub after_comma : List ℕ → List ℕ
after_comma line = comma_before (without_cr line) line

-- a line after the moment that the clock gave, if it did; otherwise the line has its own
abbrev pub timed : Option ℕ → List ℕ → List ℕ
timed None line = line
timed (Some moment) line = decimal moment ++ after_comma line

-- the header of a plant: the line itself, or after `t` if the clock gives moments
abbrev pub headed : Moments → List ℕ → List ℕ
headed Own line = line
headed Clock line = codes "t" ++ after_comma line
