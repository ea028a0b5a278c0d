use Rattle.run_lock.proofs.Gains.{grown_itself}
use Rattle.plc_threads.proofs.StopLemmas.{back_grown}
use Rattle.plc_threads.proofs.plant_run.run_plant.Goals as goal

pub returns-clause-nothing_waits : goal.returns-clause-nothing_waits
returns-clause-nothing_waits g c =
    rw c.plan.ensures at (rw c.resources-resources.ensures at c.run_as.ensures.nothing_waits)

pub returns-in_default-clause-life : goal.returns-in_default-clause-life
returns-in_default-clause-life g c =
    back_grown c.args.core c.args.core c.stopped.result.core c.stopped.ensures.core (grown_itself c.args.core)
