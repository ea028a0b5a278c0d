use Rattle.std.proofs.Common.{map, drop}
use Rattle.std.specs.List.{flat_map}
use Rattle.st_rules.specs.Environments.{Environment}
use Rattle.st_rules.proofs.CollectLemmas.{Searches}
use Rattle.symbols.specs.Serving.{Serves}
use Rattle.st_check.specs.Assignments.{assigned_view}
use Rattle.st_check.specs.Targets.{wrong_assigned}
use Rattle.st_check.proofs.targets.wrong_assignments.Given as goal

abbrev pub invariant-loop-one : goal.invariant-loop-one
invariant-loop-one l = (env : Environment) → Serves l.names env
    → Searches (flat_map (wrong_assigned env) (map assigned_view l.assigned))
    (flat_map (wrong_assigned env) (map assigned_view (drop l.one-index l.assigned)))
    l.initial.broken l.broken
