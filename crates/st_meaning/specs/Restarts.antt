-- The values kept over a power failure, and those at the start of a life.
use Rattle.std.specs.Prelude.{ℕ, ℤ, Bool, ◌&&◌, if◌then◌else◌, List, map, filter, Option, Some, None, bytes_eq}
use Rattle.std.specs.List.{find}
use Rattle.st_types.specs.Kinds.{holds}
use Rattle.st_types.specs.Values.{Datum}
use Rattle.st_types.specs.Paths.{Path}
use Rattle.st_meaning.specs.Stores.{Store}
use Rattle.st_meaning.specs.declared.plan.PlanVariable.{PlanVariable}
use Rattle.st_meaning.specs.Layouts.{Enumerations, path_text, type_text}
use Rattle.st_meaning.specs.Plans.{Plan, initial_store, is_retained}

-- the retained variables with their values, in the order of the layout
abbrev pub kept : Plan → Store → Store
kept plan s = filter (λ e. is_retained plan e.0) s

-- A line of a record with its value: the path of a variable and its type as they are written, and the value as a whole
-- number (FALSE is 0, TRUE is 1, a name is its place from 0). It is complete, whatever plan reads it.
pub record KeptLine : Type 0 where
  pub path : List ℕ
  pub spelling : List ℕ
  pub number : ℤ

-- the contents of a record: its lines with their values, and the moment of the last row, if there was one
pub record Kept : Type 0 where
  pub lines : List KeptLine
  pub moment : Option ℕ

-- the start of a life: the variables, and the moment that its rows have to be later than
pub record Start : Type 0 where
  pub store : Store
  pub moment : Option ℕ

-- the lines of variables with these values
abbrev pub line_with : Enumerations → Path × Datum → KeptLine
line_with types e = record { path = path_text e.0; spelling = type_text types e.1.kind; number = e.1.number }

abbrev pub lines_with : Enumerations → Store → List KeptLine
lines_with types s = map (line_with types) s

-- the contents of a record of these variables
abbrev pub kept_of : Plan → Store → Option ℕ → Kept
kept_of plan s moment = record { lines = lines_with plan.enumerations (kept plan s); moment = moment }

-- the line has the variable's path and its type, and a value of this type
abbrev pub is_line_of : Enumerations → PlanVariable → KeptLine → Bool
is_line_of types v l = bytes_eq (path_text v.path) l.path && bytes_eq (type_text types v.initial.kind) l.spelling
    && holds v.initial.kind l.number

-- the value in a variable's line, and its initial value if it has none
abbrev pub restored_value : PlanVariable → Option KeptLine → Datum
restored_value v None = v.initial
restored_value v (Some l) = record { kind = v.initial.kind; number = l.number }

-- A retained variable starts with the value in the line of its path and type, if there is one, and every other with its
-- initial value. The order of the lines means nothing, and neither does a line for which there is no variable.
abbrev pub restarted : Enumerations → List KeptLine → PlanVariable → Datum
restarted types lines v = if v.retained then restored_value v (find (is_line_of types v) lines) else v.initial

abbrev pub cold_start : Plan → Start
cold_start plan = record { store = initial_store plan; moment = None }

abbrev pub warm_start : Plan → Option Kept → Start
warm_start plan None = cold_start plan
warm_start plan (Some r) =
    record { store = map (λ v. (v.path, restarted plan.enumerations r.lines v)) plan.variables; moment = r.moment }
