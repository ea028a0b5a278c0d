-- The text that shows a retain file.
use Rattle.std.specs.Prelude.{ℕ, ◌-◌, nat_lt, if◌then◌else◌, List, [], ◌∷◌, ◌++◌, Option, Some, None, codes, length}
use Rattle.std.specs.Prelude.{take, drop}
use Rattle.std.specs.Fmt.{decimal}
use Rattle.st_types.specs.Values.{Datum}
use Rattle.st_print.specs.Spelling.{value_text}
use Rattle.retain_store.specs.declared.shape.TheConstants.{FILE_BYTES}
use Rattle.retain_show.specs.declared.areas.TheConstants.{SECOND}
use Rattle.retain_records.specs.Records.{Content}
use Rattle.retain_records.specs.Splits.{split_at, parted}
use Rattle.retain_store.specs.Recovered.{Area, Closed, Damaged, Open, Recovered, TooLong, Refused, Nothing, Found, area}

-- the text after the first blank of a line `PATH TYPE`
abbrev pub after_blank : Option (List ℕ × List ℕ) → List ℕ
after_blank None = []
after_blank (Some p) = p.1

abbrev pub spelling_of : List ℕ → List ℕ
spelling_of line = after_blank (split_at 32 line)

-- the bytes between the first and the last one
abbrev pub inner : List ℕ → List ℕ
inner word = take (length word - 2) (drop 1 word)

-- the names of an enumerated type in a line `PATH (A,B,C)`
abbrev pub names_in : List ℕ → List (List ℕ)
names_in line = parted 44 (inner (spelling_of line))

-- PATH TYPE = VALUE and LF, a value of an enumerated type by its name
abbrev pub line_shown : List ℕ → Datum → List ℕ
line_shown line value = line ++ codes " = " ++ value_text (names_in line ∷ []) value ++ 10 ∷ []

-- the lines with their values, as far as there are both
abbrev pub lines_shown : List (List ℕ) → List Datum → List ℕ
lines_shown [] values = []
lines_shown (line ∷ lines) [] = []
lines_shown (line ∷ lines) (value ∷ values) = line_shown line value ++ lines_shown lines values

-- the moment of the last row in milliseconds
abbrev pub moment_shown : Option ℕ → List ℕ
moment_shown None = codes "moment none" ++ 10 ∷ []
moment_shown (Some t) = codes "moment " ++ decimal t ++ codes "ms" ++ 10 ∷ []

abbrev pub generation_shown : ℕ → List ℕ
generation_shown generation = codes "generation " ++ decimal generation ++ 10 ∷ []

-- the generation, the moment, and the lines of the layout text with their values
abbrev pub record_shown : ℕ → Content → List ℕ
record_shown generation c =
    generation_shown generation ++ moment_shown c.moment ++ lines_shown (parted 10 c.layout) c.values

-- the last record, if there is one; nothing is shown of a file that is refused
abbrev pub shown_text : Recovered → List ℕ
shown_text Nothing = codes "no record" ++ 10 ∷ []
shown_text (Found generation c) = record_shown generation c
shown_text TooLong = []
shown_text Refused = []

-- the file is not refused
abbrev pub IsAccepted : Recovered → Type 0
IsAccepted TooLong = ⊥
IsAccepted Refused = ⊥
IsAccepted other = Unit {0}

-- an area: closed, damaged, or its record
abbrev pub area_shown : Area → List ℕ
area_shown Closed = codes "closed" ++ 10 ∷ []
area_shown Damaged = codes "damaged" ++ 10 ∷ []
area_shown (Open generation c) = record_shown generation c

-- the one area of a file whose other area is closed, as it is shown
abbrev pub alone_shown : Recovered → List ℕ
alone_shown Nothing = area_shown Closed
alone_shown (Found generation c) = area_shown (Open generation c)
alone_shown Refused = area_shown Damaged
alone_shown TooLong = []

-- two areas under their names
abbrev pub both_shown : List ℕ → List ℕ → List ℕ
both_shown first second = (codes "area 0" ++ 10 ∷ []) ++ first ++ (codes "area 1" ++ 10 ∷ []) ++ second

-- both areas, of a file that has them
abbrev pub areas_shown : List ℕ → List ℕ
areas_shown file = if nat_lt (length file) FILE_BYTES then codes "no areas" ++ 10 ∷ []
    else both_shown (area_shown (area 0 file)) (area_shown (area SECOND file))
