-- Words for worked examples of checkpoints: COUNT, every 10 ms with PRIORITY 1, is `x := x + z;`, and STORE, by SINGLE
-- g with PRIORITY 0, is `y := x + z;`. z and g are inputs of the plant, x is retained and y isn't.
use Rattle.std.specs.Prelude.{ℕ, [], ◌∷◌, Bool, true, false, Some, None, pos, codes}
use Rattle.st_types.specs.declared.entry.Entry.{Entry}
use Rattle.st_types.specs.declared.entry.Entry.TheVariants.{Row, Done}
use Rattle.st_types.specs.declared.kind.Kind.TheVariants.{Int, Bool as Boolean}
use Rattle.st_types.specs.declared.operator.BinaryOperator.TheVariants.{Add}
use Rattle.st_types.specs.Expressions.{binary}
use Rattle.st_types.specs.Rows.{Latch}
use Rattle.st_types.specs.Statements.{Stmt}
use Rattle.st_meaning.specs.Stores.{Store}
use Rattle.st_meaning.specs.Scopes.{unowned}
use Rattle.st_meaning.specs.Runs.{Program}
use Rattle.st_meaning.specs.Plans.{Plan, no_single, single_input}
use Rattle.st_meaning.specs.Logs.{Log}
use Rattle.st_meaning.specs.PlanExamples.{of}
use Rattle.st_meaning.specs.ProgramExamples.{body_over_globals, set, name, owner, bool, int, X, Y, Z}
use Rattle.checkpoints.specs.Checkpoints.{ProgramProgress, Checkpoint}
use Rattle.checkpoints.specs.Compaction.{compacted}

-- a program of one statement over the globals and the inputs
abbrev pub one_statement : Stmt → Program
one_statement s = record {
  library = record { functions = []; blocks = [] };
  owner = owner;
  body = body_over_globals (s ∷ []);
}

abbrev pub two_programs : Plan
two_programs = record {
  enumerations = [];
  variables = record { path = unowned X; initial = int (pos 0); retained = true }
      ∷ record { path = unowned Y; initial = int (pos 0); retained = false }
      ∷ [];
  inputs =
      record { path = unowned Z; kind = Int } ∷ record { path = unowned (codes "G"); kind = Boolean } ∷ [];
  resources = 1;
  tasks = record { single = no_single; interval = 10; priority = 1 }
      ∷ record { single = single_input 1; interval = 0; priority = 0 }
      ∷ [];
  programs =
      record { resource = 0; task = 0; code = one_statement (set X (binary Add (name X) (name Z))) }
      ∷ record { resource = 0; task = 1; code = one_statement (set Y (binary Add (name X) (name Z))) }
      ∷ [];
  budget = 10;
}

-- the variables with these values
abbrev pub x_y : ℕ → ℕ → Store
x_y x y = (unowned X, int (pos x)) ∷ (unowned Y, int (pos y)) ∷ []

-- a row with these values of z and g
abbrev pub z_g : ℕ → ℕ → Bool → Latch
z_g moment z g = record { moment = moment; image = int (pos z) ∷ bool g ∷ [] }

-- the entry of such a row, and the Done of a program's activation at a row
abbrev pub row : ℕ → ℕ → Bool → Entry
row moment z g = Row (z_g moment z g)

abbrev pub done : ℕ → ℕ → Entry
done p k = Done (of p k)

-- COUNT is due at 5, 15 and 40 ms, and STORE at 14 and 40 ms. Nothing runs.
abbrev pub five_rows : Log
five_rows = row 5 1 false ∷ row 14 2 true ∷ row 15 4 true ∷ row 22 8 false ∷ row 40 16 true ∷ []

-- a program that waits with the row of this number, or with none, and its overruns
abbrev pub waits_with : ℕ → Latch → ℕ → ProgramProgress
waits_with number row overruns = record { waiting = Some record { number = number; row = row }; overruns = overruns }

abbrev pub rests : ℕ → ProgramProgress
rests overruns = record { waiting = None; overruns = overruns }

-- the checkpoint of a life with x = 100 and y = 0 at its start
abbrev pub compacted_from_100 : Log → Checkpoint
compacted_from_100 log = compacted two_programs (x_y 100 0) log
