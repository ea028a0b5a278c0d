use Rattle.std.proofs.Common.{◌≡◌, ◌++◌, ◌∷◌, map, drop}
use Rattle.st_check.proofs.assignments.with_control.Given as goal

abbrev pub invariant-loop-outer : goal.invariant-loop-outer
invariant-loop-outer l = map (λ x. x.now.name) l.inner.items ++ map (λ x. x.now.name) (drop l.outer-index l.running)
    ≡ l.control.name ∷ map (λ x. x.now.name) l.running
