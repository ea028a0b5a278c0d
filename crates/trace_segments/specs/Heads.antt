-- How far a life has come in which nothing waits.
use Rattle.std.specs.Prelude.{◌≡◌, ◌++◌, ℕ, Bool, List, [], ◌∷◌, map, Option, None}
use Rattle.st_types.specs.Values.{Datum}
use Rattle.st_types.specs.Rows.{Latch}
use Rattle.st_meaning.specs.declared.plan.PlanVariable.{PlanVariable}
use Rattle.st_meaning.specs.Layouts.{Enumerations}
use Rattle.plan.specs.declared.task.ProgramInstance.{ProgramInstance}
use Rattle.plan.specs.declared.plan.Plan.{Plan}
use Rattle.checkpoints.specs.Checkpoints.{Checkpoint, ProgramProgress}
use Rattle.core_engine.specs.Steps.{store_in}
use Rattle.trace.specs.Texts.{keep_line}
use Rattle.trace_segments.specs.Segments.{overruns_line}

-- how many rows there were, the moment of the first, the last one, SINGLE of each task there, the overruns of each program,
-- and the values of the variables
pub record HeadView : Type 0 where
  pub rows : ℕ
  pub first : ℕ
  pub last_row : Option Latch
  pub samples : List Bool
  pub overruns : List ℕ
  pub values : List Datum

-- a program that doesn't wait
abbrev pub resting : ℕ → ProgramProgress
resting overruns = record { waiting = None; overruns = overruns }

-- its checkpoint, of this plan
abbrev pub checkpoint_in : Plan → HeadView → Checkpoint
checkpoint_in plan head = record {
  store = store_in plan head.values;
  rows = head.rows;
  first = head.first;
  last_row = head.last_row;
  samples = head.samples;
  programs = map resting head.overruns;
}

-- the lines of programs with these overruns
abbrev pub overruns_lines : List ProgramInstance → List ℕ → List ℕ
overruns_lines [] overruns = []
overruns_lines (program ∷ programs) [] = []
overruns_lines (program ∷ programs) (n ∷ overruns) = overruns_line program n ++ overruns_lines programs overruns

-- the lines of variables with these values
abbrev pub paired_text : Enumerations → List PlanVariable → List Datum → List ℕ
paired_text types [] values = []
paired_text types (variable ∷ variables) [] = []
paired_text types (variable ∷ variables) (value ∷ values) =
    keep_line types variable.path value ++ paired_text types variables values
