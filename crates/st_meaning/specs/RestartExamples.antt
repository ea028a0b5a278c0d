-- Words for worked examples of restarts: the plan of `VAR_GLOBAL RETAIN n : INT; p : INT := 2; END_VAR` and
-- `VAR_GLOBAL k : INT := 7; END_VAR`.
use Rattle.std.specs.Prelude.{ℤ, ℕ, List, [], ◌∷◌, Some, None, pos, true, false, codes}
use Rattle.st_types.specs.declared.kind.Kind.{Kind}
use Rattle.st_types.specs.declared.kind.Kind.TheVariants.{Enumerated}
use Rattle.st_meaning.specs.Stores.{Store}
use Rattle.st_meaning.specs.Scopes.{unowned}
use Rattle.st_meaning.specs.ProgramExamples.{int, K, P}
use Rattle.st_meaning.specs.declared.plan.PlanVariable.{PlanVariable}
use Rattle.st_meaning.specs.Layouts.{Enumerations}
use Rattle.st_meaning.specs.Plans.{Plan}
use Rattle.st_meaning.specs.Restarts.{KeptLine, warm_start, restarted}

abbrev pub two_of_three : Plan
two_of_three = record {
  enumerations = [];
  variables = record { path = unowned (codes "N"); initial = int (pos 0); retained = true }
      ∷ record { path = unowned P; initial = int (pos 2); retained = true }
      ∷ record { path = unowned K; initial = int (pos 7); retained = false }
      ∷ [];
  inputs = [];
  resources = 0;
  tasks = [];
  programs = [];
  budget = 1;
}

abbrev pub values : ℤ → ℤ → ℤ → Store
values n p k = (unowned (codes "N"), int n) ∷ (unowned P, int p) ∷ (unowned K, int k) ∷ []

abbrev pub retained : ℤ → ℤ → Store
retained n p = (unowned (codes "N"), int n) ∷ (unowned P, int p) ∷ []

abbrev pub line : List ℕ → List ℕ → ℤ → KeptLine
line path spelling number = record { path = path; spelling = spelling; number = number }

abbrev pub int_line : List ℕ → ℤ → KeptLine
int_line path number = line path (codes "INT") number

-- the variables at the start of a life that goes on from these lines
abbrev pub started_with : List KeptLine → Store
started_with lines = (warm_start two_of_three (Some (record { lines = lines; moment = None }))).store

-- `TYPE Mode : (Stopped, Running, Fault); Door : (Open); END_TYPE` and `VAR_GLOBAL RETAIN m : Mode; END_VAR`
abbrev pub modes : Enumerations
modes = (codes "STOPPED" ∷ codes "RUNNING" ∷ codes "FAULT" ∷ []) ∷ (codes "OPEN" ∷ []) ∷ []

-- the type of a number, with three names
abbrev pub mode : ℕ → Kind
mode number = Enumerated 3 number

abbrev pub mode_variable : PlanVariable
mode_variable = record {
  path = unowned (codes "M");
  initial = record { kind = mode 0; number = pos 0 };
  retained = true;
}

-- the place of the name that m starts with after this line
abbrev pub started_mode : List ℕ → ℤ → ℤ
started_mode spelling number = (restarted modes (line (codes "M") spelling number ∷ []) mode_variable).number
