-- Units of durations.
use Rattle.std.specs.Prelude.{ℕ, List, [], ◌∷◌, codes}
use Rattle.st_lex.specs.declared.time_unit.TimeUnit.{TimeUnit}
use Rattle.st_lex.specs.declared.time_unit.TimeUnit.TheVariants.{Day, Hour, Minute, Second, Millisecond}

-- a line of the table of units: its letters, its length in milliseconds, and the limit for the number of a later
-- part, except for days
pub record UnitRow : Type 0 where
  pub letters : List ℕ
  pub milliseconds : ℕ
  pub limit : ℕ

abbrev pub unit_row : TimeUnit → UnitRow
unit_row Day = record { letters = codes "D"; milliseconds = 86400000; limit = 0 }
unit_row Hour = record { letters = codes "H"; milliseconds = 3600000; limit = 24 }
unit_row Minute = record { letters = codes "M"; milliseconds = 60000; limit = 60 }
unit_row Second = record { letters = codes "S"; milliseconds = 1000; limit = 60 }
unit_row Millisecond = record { letters = codes "MS"; milliseconds = 1; limit = 1000 }

abbrev pub units : List TimeUnit
units = Day ∷ Hour ∷ Minute ∷ Second ∷ Millisecond ∷ []
