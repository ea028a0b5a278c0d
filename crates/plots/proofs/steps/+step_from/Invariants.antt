use Rattle.std.proofs.Common.{◌-◌, ◌^◌}
use Rattle.plots.proofs.steps.+step_from.Given as goal

abbrev pub decreases-step_from : goal.decreases-step_from
decreases-step_from l = 2 ^ 65 - l.unit
