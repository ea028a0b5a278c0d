-- Words for worked examples of programs that are due.
use Rattle.std.specs.Prelude.{ℕ, zero, suc, List, [], ◌∷◌, ◌++◌, length, Bool, true, false}
use Rattle.st_meaning.specs.declared.plan.Schedule.{Schedule}
use Rattle.st_types.specs.declared.entry.Activation.{Activation}
use Rattle.st_meaning.specs.Due.{SampledRow, History, due, with_run}

-- rows of one task without SINGLE, at these moments
abbrev pub rows_at : List ℕ → List SampledRow
rows_at [] = []
rows_at (t ∷ ts) = record { moment = t; samples = false ∷ [] } ∷ rows_at ts

-- one program with this interval in milliseconds
abbrev pub every : ℕ → List Schedule
every interval = record { resource = 0; task = 0; interval = interval; priority = 0 } ∷ []

abbrev pub dues_before : List Schedule → ℕ → List SampledRow → ℕ → List Bool
dues_before schedules p sampled zero = []
dues_before schedules p sampled (suc n) = dues_before schedules p sampled n ++ due schedules p sampled n ∷ []

-- at each row, whether the program is due
abbrev pub dues : List Schedule → ℕ → List SampledRow → List Bool
dues schedules p sampled = dues_before schedules p sampled (length sampled)

-- One resource: P1 by SINGLE s and every 10 ms with priority 1, P2 every 20 ms with priority 1, P3 by SINGLE s with
-- priority 0.
abbrev pub three_programs : List Schedule
three_programs =
    record { resource = 0; task = 0; interval = 10; priority = 1 }
    ∷ record { resource = 0; task = 1; interval = 20; priority = 1 }
    ∷ record { resource = 0; task = 2; interval = 0; priority = 0 }
    ∷ []

abbrev pub row_with : ℕ → Bool → SampledRow
row_with t s = record { moment = t; samples = s ∷ false ∷ s ∷ [] }

-- s is FALSE at 0, TRUE at 5 and 10, and FALSE at 20; no program has run
abbrev pub four_rows : History
four_rows =
    record { sampled = row_with 0 false ∷ row_with 5 true ∷ row_with 10 true ∷ row_with 20 false ∷ []; runs = [] }

-- an activation of a program, by its number and the row's
abbrev pub of : ℕ → ℕ → Activation
of p k = record { program = p; row = k }

-- the histories in which P3, then P1, then P2 has run
abbrev pub ran_3 : History
ran_3 = with_run four_rows 2

abbrev pub ran_3_1 : History
ran_3_1 = with_run ran_3 0

abbrev pub ran_all : History
ran_all = with_run ran_3_1 1
