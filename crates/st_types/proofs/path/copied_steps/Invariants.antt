use Rattle.std.proofs.Common.{◌≡◌, take}
use Rattle.st_types.proofs.path.copied_steps.Given as goal

abbrev pub invariant-loop-step : goal.invariant-loop-step
invariant-loop-step l = l.copied.items ≡ take l.step-index l.steps
