use Rattle.st_link.proofs.AcceptedRuns.{one_configuration, instance_has_runs}
use Rattle.st_link.proofs.homes.runs_of_known_instances_are_well_typed.Goals as goal

pub returns-clause-one : goal.returns-clause-one
returns-clause-one c = one_configuration

pub returns-clause-runs : goal.returns-clause-runs
returns-clause-runs c = instance_has_runs
