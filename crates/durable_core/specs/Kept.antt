-- The invariant of a core over a disk.
use Rattle.std.specs.Prelude.{◌≡◌, ◌≤◌, ◌<◌, Bool, true, false, length, Option, Some, None, IfSome}
use Rattle.st_types.specs.declared.limits.TheConstants.{MOMENT_LIMIT}
use Rattle.st_meaning.specs.Layouts.{record_length}
use Rattle.plan.specs.PlanViews.{plan_view}
use Rattle.retain_store.specs.declared.fault.StoreFault.{StoreFault}
use Rattle.durable_core.specs.Cores.{CoreView, survives}
use Rattle.durable_core.specs.Starting.{IsStart, start_in}

abbrev pub is_failed : Option StoreFault → Bool
is_failed None = false
is_failed (Some fault) = true

-- The life was started in this mode, after a moment within its limit. The last record survives, and so does one that a
-- failed save tried to write.
pub record CoreInvariant {D : Type 0} (core : CoreView D) : Type 0 where
  pub started : IsStart core.state.plan core.mode (start_in core.state)
  pub early : IfSome core.state.before (λ t. t < MOMENT_LIMIT)
  pub last : survives core core.store.last
  pub tried : survives core core.store.tried
  pub few : core.acked ≤ length core.state.log
  pub met : is_failed core.failed ≡ core.store.failed
  pub saves : record_length (plan_view core.state.plan).enumerations core.state.plan.variables.items ≤ core.store.room
