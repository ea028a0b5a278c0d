use Rattle.std.proofs.Common.{◌≡◌, ◌++◌, map, drop}
use Rattle.st_typing.proofs.labels.push_labels.Given as goal

abbrev pub invariant-loop-label : goal.invariant-loop-label
invariant-loop-label l =
    map (λ x. x.now) l.labels.items ++ drop l.label-index l.list ≡ map (λ x. x.now) l.initial.labels.items ++ l.list
