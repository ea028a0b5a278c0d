use Rattle.std.proofs.Common.{◌≡◌, None, map, take}
use Rattle.st_meaning.specs.Plans.{initial_value}
use Rattle.core_engine.proofs.starting.first_values.Given as goal

abbrev pub invariant-loop-input : goal.invariant-loop-input
invariant-loop-input l = l.values.items ≡ map (λ i. initial_value i.kind None) (take l.input-index l.inputs)
