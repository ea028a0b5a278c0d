-- The lines that go out.
use Rattle.std.specs.Prelude.{◌++◌, ◌∷◌, [], ℕ, List, true, false, Option, Some, None, Result, Ok, Err, map, slice_get, unwrap_or, codes}
use Rattle.std.specs.List.{flat_map}
use Rattle.std.specs.Fmt.{decimal, signed_decimal}
use Rattle.st_types.specs.Values.{Datum}
use Rattle.st_meaning.specs.Logs.{last_moment}
use Rattle.core_engine.specs.Steps.{State, past_in}
use Rattle.plan.specs.declared.plan.Plan.{Plan}
use Rattle.trace.specs.Puts.{IsPut}
use Rattle.st_meaning.specs.declared.plan.PlanVariable.{PlanVariable}
use Rattle.live_drive.specs.declared.answers.Missed.{Missed}
use Rattle.live_drive.specs.declared.answers.Missed.TheVariants.{NoRow, NotLater, Newer}

-- a comma and the number of a value, if there is one
abbrev pub value_field : Option Datum → List ℕ
value_field None = []
value_field (Some value) = 44 ∷ signed_decimal value.number

-- the same of the values at these places
abbrev pub value_fields : List Datum → List ℕ → List ℕ
value_fields values places = flat_map (λ place. value_field (slice_get values place)) places

-- the line of a moment and of the values at these places
abbrev pub outputs_line : ℕ → List Datum → List ℕ → List ℕ
outputs_line moment values places = decimal moment ++ value_fields values places ++ 10 ∷ []

-- the line of a core: the moment of its last row, and its outputs now
abbrev pub outputs_now : List ℕ → State → List ℕ
outputs_now places state = outputs_line (unwrap_or (last_moment state.before (past_in state).rows) 0)
    (map (λ e. e.1) (past_in state).store) places

-- a comma and the name of a variable, if there is one
abbrev pub name_field : Option PlanVariable → List ℕ
name_field None = []
name_field (Some variable) = 44 ∷ variable.path.name

abbrev pub name_fields : List PlanVariable → List ℕ → List ℕ
name_fields variables places = flat_map (λ place. name_field (slice_get variables place)) places

-- the header: `t`, and the names of the variables at these places
abbrev pub header_line : Plan → List ℕ → List ℕ
header_line plan places = codes "t" ++ name_fields plan.variables.items places ++ 10 ∷ []

abbrev pub missed_text : Missed → List ℕ
missed_text NoRow = codes "refused I2"
missed_text NotLater = codes "refused K4"
missed_text Newer = codes "missed"

-- a moment, if there is one
abbrev pub moment_field : Option ℕ → List ℕ
moment_field None = []
moment_field (Some moment) = decimal moment

-- the line for a line without outputs: its moment, if it spells one, and why
abbrev pub missed_line : Option ℕ → Missed → List ℕ
missed_line moment missed = moment_field moment ++ 44 ∷ missed_text missed ++ 10 ∷ []

-- a line goes out: all of it; or a beginning, if sending fails
abbrev pub Sends : {E : Type 0} → Result (Unit {0}) E → Option (List ℕ) → Option (List ℕ) → List ℕ → Type 0
Sends (Ok u) old new line = IsPut old new true line
Sends (Err e) old new line = IsPut old new false line
