use Rattle.std.proofs.Common.{◌≡◌, take}
use Rattle.layout.specs.Slots.{path_at}
use Rattle.layout.proofs.slots.path_to.Given as goal

abbrev pub invariant-loop-step : goal.invariant-loop-step
invariant-loop-step l = l.path ≡ path_at l.root (take l.step-index l.steps)
