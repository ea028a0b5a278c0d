use Rattle.std.proofs.Common.{◌++◌, Some, length}
use Rattle.st_meaning.specs.Logs.{done_count}
use Rattle.serial_core.specs.Steps.{past_in}
use Rattle.plc_threads.proofs.plant_run.run_plant.Given as goal

abbrev pub ghosts-run_as-J-Run : goal.ghosts-run_as-J-Run
ghosts-run_as-J-Run g a = record {
  dones = done_count a.core.state.log;
  mark = a.mark.now;
  entries = length a.core.state.log;
  life = Some a.core.state;
  mode = a.core.mode;
  acked = a.core.acked;
  rows = (past_in a.core.state).rows ++ a.rows.items;
}

abbrev pub ghosts-run_as-J-Ledger : goal.ghosts-run_as-J-Ledger
ghosts-run_as-J-Ledger g a = record { name = a.blank.name; parts = a.blank.parts }
