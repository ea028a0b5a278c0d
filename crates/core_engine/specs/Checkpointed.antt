-- The checkpoint that an engine has in its fields.
use Rattle.std.specs.Prelude.{ℕ, zero, suc, List, [], ◌∷◌, Option, Some, None, option_map, unwrap_or}
use Rattle.st_types.specs.Values.{Datum}
use Rattle.st_types.specs.Rows.{Latch}
use Rattle.ready_list.specs.declared.program_state.ProgramState.{ProgramState}
use Rattle.checkpoints.specs.Checkpoints.{Checkpoint, ProgramProgress}
use Rattle.core_engine.specs.Steps.{store_in}
use Rattle.core_engine.specs.Lived.{EngineView}

-- the progress of a program, by its state in the ready list and the row in its place
abbrev pub progress_of : ProgramState → Latch → ProgramProgress
progress_of s row = record {
  waiting = option_map (λ k. record { number = k; row = row }) s.waiting;
  overruns = s.overruns;
}

-- the same of each program
abbrev pub progress_of_each : List ProgramState → List Latch → List ProgramProgress
progress_of_each states [] = []
progress_of_each [] (row ∷ held) = progress_of (record { waiting = None; overruns = 0 }) row ∷ progress_of_each [] held
progress_of_each (s ∷ states) (row ∷ held) = progress_of s row ∷ progress_of_each states held

-- the last of so many rows, by its moment and its inputs
abbrev pub last_row_of : ℕ → Option ℕ → List Datum → Option Latch
last_row_of zero moment image = None
last_row_of (suc n) moment image = Some (record { moment = unwrap_or moment 0; image = image })

abbrev pub checkpoint_of : EngineView → Checkpoint
checkpoint_of engine = record {
  store = store_in engine.plan engine.values;
  rows = engine.rows;
  first = engine.ready.first;
  last_row = last_row_of engine.rows engine.last engine.newest.image;
  samples = engine.ready.samples;
  programs = progress_of_each engine.ready.states engine.held;
}
