-- The run of a snapshot.
use Rattle.std.specs.Prelude.{◌≡◌, List, map}
use Rattle.st_types.specs.Values.{Datum}
use Rattle.machine_code.specs.Machine.{Ending}
use Rattle.machine_code.specs.Tracking.{Tracked}
use Rattle.machine_code.specs.Endings.{outcome_at_end}
use Rattle.slot_code.specs.Codes.{code_view}
use Rattle.slot_memory.specs.Cells.{cell_view}
use Rattle.slot_run.specs.Runs.{marked_run, reads_of, writes_of}
use Rattle.slot_run.specs.Effects.{Effect}
use Rattle.slot_run.specs.declared.runner.Ran.{Ran}
use Rattle.slot_run.specs.declared.snapshot.Snapshot.{Snapshot}

-- the run of a snapshot's code on its values
abbrev pub run_of : Snapshot → Ending Tracked
run_of snapshot =
    marked_run (code_view snapshot.code.value) snapshot.moment snapshot.slots.items snapshot.budget

-- the result reported is that of this run on these values
pub record IsRunOf (e : Ending Tracked) (vs : List Datum) (ran : Ran) : Type 0 where
  pub reads : map cell_view ran.reads.items ≡ reads_of e vs
  pub writes : map cell_view ran.writes.items ≡ writes_of e vs
  pub outcome : ran.outcome ≡ outcome_at_end e

-- The effect is that of this snapshot. Its reads are exactly the slots that the run looked up before it assigned them, with
-- the snapshot's values; its writes are exactly the slots that the run assigned, with the values at its end, or none after a
-- fault; and it ended as the run does.
pub record IsEffectOf (snapshot : Snapshot) (effect : Effect) : Type 0 where
  pub code : effect.code ≡ code_view snapshot.code.value
  pub activation : effect.activation ≡ snapshot.activation
  pub moment : effect.moment ≡ snapshot.moment
  pub budget : effect.budget ≡ snapshot.budget
  pub reads : effect.reads ≡ reads_of (run_of snapshot) snapshot.slots.items
  pub writes : effect.writes ≡ writes_of (run_of snapshot) snapshot.slots.items
  pub outcome : effect.outcome ≡ outcome_at_end (run_of snapshot)
