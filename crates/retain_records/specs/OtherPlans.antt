-- The values that a record of one plan gives another.
use Rattle.std.specs.Prelude.{◌≡◌, ℕ, ◌&&◌, Bool, true, if◌then◌else◌, List, map, Option, Some, None, bytes_eq}
use Rattle.std.specs.List.{find, AllByRecursion}
use Rattle.st_types.specs.Kinds.{holds}
use Rattle.st_types.specs.Values.{Datum}
use Rattle.st_types.specs.Paths.{Path}
use Rattle.st_meaning.specs.Stores.{Store}
use Rattle.st_meaning.specs.declared.plan.PlanVariable.{PlanVariable}
use Rattle.st_meaning.specs.Layouts.{Enumerations, path_text, type_text}
use Rattle.st_meaning.specs.Plans.{Plan}
use Rattle.st_meaning.specs.Restarts.{kept, kept_of, Start, warm_start}

-- the value is at the variable's path and of its type, both as they are written
abbrev pub is_value_for : Enumerations → Enumerations → PlanVariable → Path × Datum → Bool
is_value_for old new v e = bytes_eq (path_text v.path) (path_text e.0)
    && bytes_eq (type_text new v.initial.kind) (type_text old e.1.kind)

-- the variable with that value, or else its initial value
abbrev pub taken_from : PlanVariable → Option (Path × Datum) → Datum
taken_from v None = v.initial
taken_from v (Some e) = record { kind = v.initial.kind; number = e.1.number }

-- A variable that both plans retain, with its path and its type written alike, has the value that was kept. Every other
-- has its initial value.
abbrev pub carried : Plan → Plan → Store → PlanVariable → Datum
carried old new s v =
    if v.retained then taken_from v (find (is_value_for old.enumerations new.enumerations v) (kept old s)) else v.initial

abbrev pub all_carried : Plan → Plan → Store → Store
all_carried old new s = map (λ v. (v.path, carried old new s v)) new.variables

-- types that are written alike hold the same ones of these values
abbrev pub HoldTheSame : Enumerations → Enumerations → List PlanVariable → Store → Type 0
HoldTheSame old new vs s = AllByRecursion (λ v. AllByRecursion (λ e. is_value_for old new v e ≡ true
    → holds v.initial.kind e.1.number ≡ true) s) vs

-- the start of a life of the new plan, after a life of the old one from which these values were kept
abbrev pub started_after : Plan → Plan → Store → Option ℕ → Start
started_after old new s moment = warm_start new (Some (kept_of old s moment))
