-- The report of a run.
use Rattle.std.specs.Prelude.{ℕ, List, [], ◌∷◌, ◌++◌, Option, Some, None, codes}
use Rattle.std.specs.Fmt.{decimal}
use Rattle.st_types.specs.Values.{Datum}
use Rattle.st_types.specs.Paths.{Path}
use Rattle.st_meaning.specs.Layouts.{Enumerations, path_text}
use Rattle.st_meaning.specs.declared.plan.PlanVariable.{PlanVariable}
use Rattle.st_print.specs.Spelling.{value_text}
use Rattle.source_run.specs.declared.report.Counts.{Counts}

-- a count: its name, a space, the number and LF
abbrev pub count_line : List ℕ → ℕ → List ℕ
count_line name n = name ++ codes " " ++ decimal n ++ 10 ∷ []

-- the line of the number acknowledged, if it is reported
abbrev pub acked_line : Option ℕ → List ℕ
acked_line None = []
acked_line (Some n) = count_line (codes "acked") n

-- PATH = VALUE and LF; the enumerated types have these names
abbrev pub variable_line : Enumerations → Path → Datum → List ℕ
variable_line types path value = path_text path ++ codes " = " ++ value_text types value ++ 10 ∷ []

abbrev pub counts_text : Counts → List ℕ
counts_text c = count_line (codes "rows") c.rows ++ count_line (codes "done") c.done
    ++ count_line (codes "faults") c.faults ++ count_line (codes "overruns") c.overruns ++ acked_line c.acked

-- a line for each variable with its value, in layout order
abbrev pub variables_text : Enumerations → List PlanVariable → List Datum → List ℕ
variables_text types [] values = []
variables_text types (v ∷ vs) [] = []
variables_text types (v ∷ vs) (d ∷ ds) = variable_line types v.path d ++ variables_text types vs ds

-- the counts, and then the variables
abbrev pub report_text : Counts → Enumerations → List PlanVariable → List Datum → List ℕ
report_text counts types variables values = counts_text counts ++ variables_text types variables values
