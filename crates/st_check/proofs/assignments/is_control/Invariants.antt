use Rattle.std.proofs.Common.{◌≡◌, map, drop}
use Rattle.st_meaning.specs.Scopes.{contains_name}
use Rattle.st_check.proofs.assignments.is_control.Given as goal

abbrev pub invariant-loop-control : goal.invariant-loop-control
invariant-loop-control l = contains_name (map (λ x. x.now.name) (drop l.control-index l.running)) l.name
    ≡ contains_name (map (λ x. x.now.name) l.running) l.name
