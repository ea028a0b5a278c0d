-- Words for worked examples of a restart with another text: each text has the RETAIN globals of its plan.
use Rattle.std.specs.Prelude.{ℤ, ℕ, List, [], ◌∷◌, Bool, Some, pos, true, false, codes}
use Rattle.st_types.specs.declared.kind.Kind.TheVariants.{Dint, Enumerated}
use Rattle.st_types.specs.Values.{Datum}
use Rattle.st_meaning.specs.Stores.{Store}
use Rattle.st_meaning.specs.Scopes.{unowned}
use Rattle.st_meaning.specs.ProgramExamples.{int}
use Rattle.st_meaning.specs.declared.plan.PlanVariable.{PlanVariable}
use Rattle.st_meaning.specs.Layouts.{Enumerations}
use Rattle.st_meaning.specs.Plans.{Plan}
use Rattle.st_meaning.specs.Restarts.{Start}
use Rattle.retain_records.specs.OtherPlans.{started_after}

abbrev pub of_globals : Enumerations → List PlanVariable → Plan
of_globals types vs = record {
  enumerations = types;
  variables = vs;
  inputs = [];
  resources = 0;
  tasks = [];
  programs = [];
  budget = 1;
}

abbrev pub global : List ℕ → Datum → Bool → PlanVariable
global name initial retained = record { path = unowned name; initial = initial; retained = retained }

abbrev pub dint : ℤ → Datum
dint z = record { kind = Dint; number = z }

abbrev pub at : List ℕ → Datum → Store
at name d = (unowned name, d) ∷ []

-- `n : INT` retained; the same for DINT; not retained; and with a retained `k : INT := 7` before it
abbrev pub of_int : Plan
of_int = of_globals [] (global (codes "N") (int (pos 0)) true ∷ [])

abbrev pub of_dint : Plan
of_dint = of_globals [] (global (codes "N") (dint (pos 0)) true ∷ [])

abbrev pub of_none : Plan
of_none = of_globals [] (global (codes "N") (int (pos 0)) false ∷ [])

abbrev pub of_two : Plan
of_two = of_globals [] (global (codes "K") (int (pos 7)) true ∷ global (codes "N") (int (pos 0)) true ∷ [])

-- a retained `m : Mode`, where Mode is the only type, with these names
abbrev pub stopped_running_fault : List (List ℕ)
stopped_running_fault = codes "STOPPED" ∷ codes "RUNNING" ∷ codes "FAULT" ∷ []

abbrev pub with_fourth : List (List ℕ)
with_fourth = codes "STOPPED" ∷ codes "RUNNING" ∷ codes "FAULT" ∷ codes "OPEN" ∷ []

abbrev pub place : ℕ → ℤ → Datum
place names z = record { kind = Enumerated names 0; number = z }

abbrev pub of_three_names : Plan
of_three_names = of_globals (stopped_running_fault ∷ []) (global (codes "M") (place 3 (pos 0)) true ∷ [])

abbrev pub of_four_names : Plan
of_four_names = of_globals (with_fourth ∷ []) (global (codes "M") (place 4 (pos 0)) true ∷ [])

-- a start of the third plan, after a start of the second that followed a life of the first
abbrev pub started_then : Plan → Plan → Plan → Store → Start
started_then first second third s = started_after second third (started_after first second s (Some 20)).store (Some 20)
