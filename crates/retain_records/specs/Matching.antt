-- Values that take their numbers from a record of any layout text.
use Rattle.std.specs.Prelude.{ℕ, ℤ, Bool, ◌&&◌, if◌then◌else◌, List, [], ◌∷◌, Option, Some, None, bytes_eq}
use Rattle.std.specs.List.{find}
use Rattle.st_types.specs.declared.kind.Kind.{Kind}
use Rattle.st_types.specs.Kinds.{holds}
use Rattle.st_types.specs.Values.{Datum}
use Rattle.st_meaning.specs.Restarts.{KeptLine}
use Rattle.retain_records.specs.ContentLines.{Words, words_at}

-- the line has this path and this spelling of its type, and a number that the type holds
abbrev pub is_line_for : List ℕ → List ℕ → Kind → KeptLine → Bool
is_line_for path spelling k l = bytes_eq path l.path && bytes_eq spelling l.spelling && holds k l.number

-- a value with the number of a line
abbrev pub numbered_by : Datum → KeptLine → Datum
numbered_by d l = record { kind = d.kind; number = l.number }

-- a value of the type, if it holds the number
abbrev pub numbered : Kind → ℤ → Option Datum
numbered k z = if holds k z then Some (record { kind = k; number = z }) else None

-- a value with the number of a line, or as it is
abbrev pub with_line : Datum → Option KeptLine → Datum
with_line d None = d
with_line d (Some l) = numbered_by d l

-- a value with the number in the line of this path and type, if there is one
abbrev pub restored_for : List ℕ → List ℕ → List KeptLine → Datum → Datum
restored_for path spelling lines d = with_line d (find (is_line_for path spelling d.kind) lines)

abbrev pub restored_then : Option Words → Datum → List Datum → List KeptLine → (List ℕ → List Datum) → List Datum
restored_then None d ds lines others = d ∷ ds
restored_then (Some w) d ds lines others = restored_for w.path w.spelling lines d ∷ others w.behind

-- values in the order of a layout text, each with the number in the line of its path and type, if there is one
abbrev pub all_restored : List ℕ → List KeptLine → List Datum → List Datum
all_restored text lines [] = []
all_restored text lines (d ∷ ds) = restored_then (words_at text) d ds lines (λ behind. all_restored behind lines ds)
