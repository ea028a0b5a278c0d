-- The run of a quick snapshot.
use Rattle.std.specs.Prelude.{◌≡◌, List}
use Rattle.st_types.specs.Values.{Datum}
use Rattle.machine_code.specs.Machine.{Ending}
use Rattle.machine_code.specs.Tracking.{Tracked}
use Rattle.machine_code.specs.Endings.{outcome_at_end}
use Rattle.slot_code.specs.Quick.{AreIn, Wherever}
use Rattle.slot_code.specs.Codes.{code_view}
use Rattle.slot_code.specs.Windows.{window_of}
use Rattle.slot_run.specs.Runs.{marked_run, reads_of, writes_of}
use Rattle.slot_run.specs.Effects.{Effect}
use Rattle.slot_run.specs.declared.quick_snapshot.QuickSnapshot.{QuickSnapshot}
use Rattle.slot_run.specs.declared.snapshot.Snapshot.{Snapshot}

-- the run of its code over these values of all slots
abbrev pub run_over : QuickSnapshot → List Datum → Ending Tracked
run_over quick slots = marked_run (code_view quick.code.value) quick.moment slots quick.budget

-- The effect is that of this run, as with a snapshot.
pub record IsRunOver (quick : QuickSnapshot) (slots : List Datum) (effect : Effect) : Type 0 where
  pub reads : effect.reads ≡ reads_of (run_over quick slots) slots
  pub writes : effect.writes ≡ writes_of (run_over quick slots) slots
  pub outcome : effect.outcome ≡ outcome_at_end (run_over quick slots)

-- The effect is that of this quick snapshot, whatever values the slots have that its code does not name.
pub record IsQuickEffectOf (quick : QuickSnapshot) (effect : Effect) : Type 0 where
  pub code : effect.code ≡ code_view quick.code.value
  pub activation : effect.activation ≡ quick.activation
  pub moment : effect.moment ≡ quick.moment
  pub budget : effect.budget ≡ quick.budget
  pub run : Wherever quick.code.value.kinds.value.items (window_of quick.code.value) quick.values.items
      (λ slots. IsRunOver quick slots effect)

-- A quick snapshot is the part of this snapshot that the code names.
pub record IsPartOf (snapshot : Snapshot) (quick : QuickSnapshot) : Type 0 where
  pub code : quick.code.value ≡ snapshot.code.value
  pub activation : quick.activation ≡ snapshot.activation
  pub moment : quick.moment ≡ snapshot.moment
  pub budget : quick.budget ≡ snapshot.budget
  pub values : AreIn (window_of quick.code.value) snapshot.slots.items quick.values.items
