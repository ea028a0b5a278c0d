use Rattle.std.proofs.Common.{ap}
use Rattle.st_rules.proofs.CollectLemmas.{collects_both, collects_is}
use Rattle.st_check.specs.Targets.{wrong_control_of}
use Rattle.st_check.proofs.targets.wrong_control.Goals as goal

pub returns-in-Some : goal.returns-in-Some
returns-in-Some c env serves =
    collects_is _ _ _ _ (ap (wrong_control_of env c.args.runs c.args.control.now) (c.in-Some.ensures env serves))
    (collects_both _ _ _ _ _ (rw (c.is_control-counts.ensures env serves) at c.add_unless.ensures)
    (c.wrong_assignment.ensures env serves))
