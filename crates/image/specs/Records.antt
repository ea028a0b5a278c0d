-- The records of bytes, as `csv` reads them.
use Rattle.std.specs.Prelude.{ℕ, List, Option, IfSome}
use Rattle.csv.specs.Reading.{default_config, records, strip_bom}
use Rattle.image.specs.Plants.{Fields}

-- the records of a text, its header among them: a byte order mark is dropped, and an empty line doesn't count
abbrev pub records_of : List ℕ → List Fields
records_of text = records default_config (strip_bom text)

-- a property of the records of a reader's bytes, if these are known
abbrev pub OfRecords : Option (List ℕ) → (List Fields → Type 0) → Type 0
OfRecords known P = IfSome known (λ text. P (records_of text))
