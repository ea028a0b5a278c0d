-- The head of a trace.
use Rattle.std.specs.Prelude.{◌≡◌, ◌<◌, ℕ, List, map, IfSome, Option}
use Rattle.std.specs.List.{AllByRecursion}
use Rattle.st_types.specs.declared.limits.TheConstants.{MOMENT_LIMIT}
use Rattle.st_types.specs.Values.{Datum, IsHeld}
use Rattle.st_meaning.specs.declared.plan.PlanVariable.{PlanVariable}
use Rattle.st_meaning.specs.Layouts.{Enumerations}
use Rattle.serial_core.specs.Retained.{paired, retained_kinds, retained_paths}
use Rattle.durable_core.specs.declared.starting.StartMode.{StartMode}
use Rattle.trace.specs.Texts.{begin_text, keep_text}
use Rattle.retain_records.specs.RecordLaws.{IsMoment}

-- a value of its type for each retained variable, in order
abbrev pub AreKept : List PlanVariable → List Datum → Type 0
AreKept variables values =
    (map (λ d. d.kind) values ≡ retained_kinds variables) × AllByRecursion IsHeld values

-- the lines of the retained variables with these values
abbrev pub kept_lines : Enumerations → List PlanVariable → List Datum → List ℕ
kept_lines types variables values = keep_text types (paired (retained_paths variables) values)

abbrev pub MayBegin : StartMode × Option ℕ → Type 0
MayBegin begin = IsMoment begin.1

-- the lines before those of the retained variables
abbrev pub begin_of : ℕ → StartMode × Option ℕ → List ℕ
begin_of budget begin = begin_text budget begin.0 begin.1
