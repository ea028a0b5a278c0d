-- Values that take the numbers of a record's lines one after another, each from the first line of its own.
use Rattle.std.specs.Prelude.{ℕ, zero, suc, ℤ, Bool, true, ◌&&◌, if◌then◌else◌, List, [], ◌∷◌, bytes_eq}
use Rattle.std.specs.List.{find}
use Rattle.st_types.specs.declared.kind.Kind.{Kind}
use Rattle.st_types.specs.Kinds.{holds}
use Rattle.st_types.specs.Values.{Datum}
use Rattle.st_meaning.specs.Restarts.{KeptLine}
use Rattle.retain_records.specs.Lines.{layout_line}
use Rattle.retain_records.specs.Matching.{with_line}

-- the line of a record is written like this one, and has a number that the type holds
abbrev pub is_same_line : List ℕ → Kind → KeptLine → Bool
is_same_line line k l = bytes_eq (layout_line l.path l.spelling) line && holds k l.number

-- a value with the number in the first line that is written like its own, if there is one
abbrev pub restored_by_line : List ℕ → List KeptLine → Datum → Datum
restored_by_line line told d = with_line d (find (is_same_line line d.kind) told)

-- values in the order of their lines: a marked one stays, and each other takes the number of its line
abbrev pub restored_rest : List (List ℕ) → List Bool → List KeptLine → List Datum → List Datum
restored_rest [] marks told ds = ds
restored_rest (line ∷ lines) [] told ds = ds
restored_rest (line ∷ lines) (m ∷ marks) told [] = []
restored_rest (line ∷ lines) (m ∷ marks) told (d ∷ ds) =
    (if m then d else restored_by_line line told d) ∷ restored_rest lines marks told ds

-- values and their marks
pub record Marked : Type 0 where
  pub values : List Datum
  pub marks : List Bool

abbrev pub with_first : Datum → Bool → Marked → Marked
with_first d m rest = record { values = d ∷ rest.values; marks = m ∷ rest.marks }

-- Values and marks after a number is given to the value at a place: if that one is not marked yet and its type holds
-- the number, it takes the number and is marked.
abbrev pub with_number_at : ℕ → ℤ → List Datum → List Bool → Marked
with_number_at place z [] marks = record { values = []; marks = marks }
with_number_at place z (d ∷ ds) [] = record { values = d ∷ ds; marks = [] }
with_number_at zero z (d ∷ ds) (m ∷ marks) =
    if m then record { values = d ∷ ds; marks = m ∷ marks }
    else if holds d.kind z then record { values = record { kind = d.kind; number = z } ∷ ds; marks = true ∷ marks }
    else record { values = d ∷ ds; marks = m ∷ marks }
with_number_at (suc place) z (d ∷ ds) (m ∷ marks) = with_first d m (with_number_at place z ds marks)
