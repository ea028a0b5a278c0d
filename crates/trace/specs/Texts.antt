-- The text of a trace.
use Rattle.std.specs.Prelude.{ℕ, List, [], ◌∷◌, ◌++◌, length, Option, Some, None, slice_get, codes}
use Rattle.std.specs.Prelude.{if◌then◌else◌}
use Rattle.std.specs.Fmt.{decimal}
use Rattle.st_types.specs.declared.fault.Fault.{Fault}
use Rattle.st_types.specs.declared.fault.Fault.TheVariants as faults
use Rattle.st_types.specs.Values.{Datum}
use Rattle.st_types.specs.Paths.{Path}
use Rattle.st_meaning.specs.declared.outcome.Outcome.{Outcome}
use Rattle.st_meaning.specs.declared.outcome.Outcome.TheVariants as outcomes
use Rattle.st_meaning.specs.Stores.{Store}
use Rattle.st_meaning.specs.declared.plan.PlanVariable.{PlanVariable}
use Rattle.st_types.specs.declared.entry.Entry.{Entry}
use Rattle.st_types.specs.declared.entry.Entry.TheVariants.{Row, Done}
use Rattle.st_meaning.specs.Layouts.{Enumerations, path_text}
use Rattle.st_meaning.specs.Restarts.{Start, kept}
use Rattle.st_meaning.specs.Logs.{Log, outcomes_of}
use Rattle.st_print.specs.Spelling.{value_text}
use Rattle.plan.specs.declared.task.ProgramInstance.{ProgramInstance}
use Rattle.plan.specs.declared.plan.Plan.{Plan}
use Rattle.plan.specs.PlanViews.{plan_view}
use Rattle.durable_core.specs.declared.starting.StartMode.{StartMode}
use Rattle.durable_core.specs.declared.starting.StartMode.TheVariants.{Warm, Cold}
use Rattle.durable_core.specs.Cores.{CoreView}

-- words, and LF
abbrev pub line : List ℕ → List ℕ
line words = words ++ 10 ∷ []

abbrev pub mode_text : StartMode → List ℕ
mode_text Warm = codes "warm"
mode_text Cold = codes "cold"

abbrev pub moment_text : Option ℕ → List ℕ
moment_text None = codes "none"
moment_text (Some t) = decimal t

-- `keep PATH VALUE`, with the names of these enumerated types
abbrev pub keep_line : Enumerations → Path → Datum → List ℕ
keep_line types p v = line (codes "keep " ++ path_text p ++ codes " " ++ value_text types v)

abbrev pub keep_text : Enumerations → Store → List ℕ
keep_text types [] = []
keep_text types (e ∷ s) = keep_line types e.0 e.1 ++ keep_text types s

-- the budget, how the life was started, and the moment that its rows have to be later than
abbrev pub begin_text : ℕ → StartMode → Option ℕ → List ℕ
begin_text budget mode moment =
    line (codes "trace 1") ++ (line (codes "budget " ++ decimal budget) ++ (line (codes "start " ++ mode_text mode)
    ++ line (codes "moment " ++ moment_text moment)))

-- the first two lines, with this budget
abbrev pub budget_text : ℕ → List ℕ
budget_text budget = line (codes "trace 1") ++ line (codes "budget " ++ decimal budget)

-- these lines, and the initial values of the retained variables
abbrev pub head_text : Plan → StartMode → Start → List ℕ
head_text plan mode start =
    begin_text plan.budget mode start.moment
    ++ keep_text (plan_view plan).enumerations (kept (plan_view plan) start.store)

abbrev pub fault_text : Fault → List ℕ
fault_text faults.Range = codes "F1"
fault_text faults.DivisionByZero = codes "F2"
fault_text faults.Index = codes "F3"
fault_text faults.Conversion = codes "F4"
fault_text faults.Budget = codes "F5"
fault_text faults.ZeroStep = codes "F6"

-- how an execution ended
abbrev pub outcome_text : Option Outcome → List ℕ
outcome_text None = []
outcome_text (Some outcomes.Done) = codes "ok"
outcome_text (Some (outcomes.Faulted fault)) = fault_text fault

-- RES/INST of a program
abbrev pub instance_text : Option ProgramInstance → List ℕ
instance_text None = []
instance_text (Some p) = p.owner.resource ++ codes "/" ++ p.owner.instance

-- the row of an execution, and how it ended
abbrev pub ending_text : ℕ → Option Outcome → List ℕ
ending_text row outcome = line (codes " " ++ decimal row ++ codes " " ++ outcome_text outcome)

-- the same for a row and an outcome, without the space before them
abbrev pub row_outcome_text : ℕ × Outcome → List ℕ
row_outcome_text told = (decimal told.0 ++ 32 ∷ []) ++ line (outcome_text (Some told.1))

-- `done RES/INST ROW` and how the execution ended
abbrev pub done_line : Option ProgramInstance → ℕ → Option Outcome → List ℕ
done_line program row outcome = (codes "done " ++ instance_text program) ++ ending_text row outcome

-- the line of an entry, whose execution ended so
abbrev pub entry_line : Plan → Entry → Option Outcome → List ℕ
entry_line plan (Row row) outcome = line (codes "row " ++ decimal row.moment)
entry_line plan (Done a) outcome = done_line (slice_get plan.programs.items a.program) a.row outcome

-- the entries one after another, each with how its execution ended
abbrev pub log_text : Plan → Log → List (Option Outcome) → List ℕ
log_text plan [] outcomes = []
log_text plan (entry ∷ log) [] = []
log_text plan (entry ∷ log) (outcome ∷ outcomes) = entry_line plan entry outcome ++ log_text plan log outcomes

-- `end N`
abbrev pub end_line : ℕ → List ℕ
end_line n = line (codes "end " ++ decimal n)

-- the trace of a life that was started so, and has this log
abbrev pub trace_text : Plan → StartMode → Start → Log → List ℕ
trace_text plan mode start log =
    head_text plan mode start ++ log_text plan log (outcomes_of (plan_view plan) start.store log) ++ end_line (length log)

-- the trace of a core: of its life so far
abbrev pub trace_of : {D : Type 0} → CoreView D → List ℕ
trace_of core = trace_text core.state.plan core.mode
    record { store = core.state.start; moment = core.state.before } core.state.log

-- the line of an entry that may not be there
abbrev pub entry_text : Plan → Option Entry → Option Outcome → List ℕ
entry_text plan None outcome = []
entry_text plan (Some entry) outcome = entry_line plan entry outcome

-- the line of a variable with this value at the start, if it is retained
abbrev pub kept_line : Enumerations → PlanVariable → Datum → List ℕ
kept_line types v d = if v.retained then keep_line types v.path d else []

-- of all variables, with these values at the start, the lines of the retained ones
abbrev pub kept_text : Enumerations → List PlanVariable → List Datum → List ℕ
kept_text types [] ds = []
kept_text types (v ∷ vs) [] = []
kept_text types (v ∷ vs) (d ∷ ds) = kept_line types v d ++ kept_text types vs ds
