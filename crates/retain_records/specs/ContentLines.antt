-- The lines of a record by its text and its values alone.
use Rattle.std.specs.Prelude.{ℕ, List, [], ◌∷◌, Option, Some, None}
use Rattle.st_types.specs.Values.{Datum}
use Rattle.st_meaning.specs.Restarts.{Kept, KeptLine}
use Rattle.retain_records.specs.Records.{Content}
use Rattle.retain_records.specs.Splits.{◌>>=◌, split_at}

-- the path and the type of the first line of a layout text, and the text after it
pub record Words : Type 0 where
  pub path : List ℕ
  pub spelling : List ℕ
  pub behind : List ℕ

abbrev pub words_at : List ℕ → Option Words
words_at text = do
  path ← split_at 32 text
  spelling ← split_at 10 path.1
  Some (record { path = path.0; spelling = spelling.0; behind = spelling.1 })

-- a line with these words and a value, and the lines of the text after it
abbrev pub line_then : Option Words → Datum → (List ℕ → List KeptLine) → List KeptLine
line_then None d others = []
line_then (Some w) d others =
    record { path = w.path; spelling = w.spelling; number = d.number } ∷ others w.behind

-- the lines of a layout text, each with its value
abbrev pub lines_in : List ℕ → List Datum → List KeptLine
lines_in text [] = []
lines_in text (d ∷ ds) = line_then (words_at text) d (λ behind. lines_in behind ds)

abbrev pub kept_in : Content → Kept
kept_in content = record { lines = lines_in content.layout content.values; moment = content.moment }
