use Rattle.std.proofs.Common.{rules}
use Rattle.st_types.specs.declared.limits.TheConstants.{MAX_LOG_ROOM}
use Rattle.image.specs.Plants.{AreRowsOf}
use Rattle.durable_core.specs.Starting.{IsNew}
use Rattle.source_run.proofs.SettleLemmas.{handed_on, reported}
use Rattle.source_run.proofs.running.run_plan.Goals as goal

pub returns : goal.returns
returns g c =
    let are : AreRowsOf c.args.plan.inputs.items c.in_ok-rows.rows.items = search rules in
    let new : IsNew c.in_ok-core.core.state c.args.plan MAX_LOG_ROOM = search rules in
    let served = c.served-core in
    record {
      report = handed_on _
          served.result.1 c.traced-report.result c.traced-report.ensures
          (reported (λ text. text.items) c.in_ok-core.core.state served.result.0 c.args.job.now.start
          c.in_ok-rows.rows.items MAX_LOG_ROOM c.in_ok-core.core.state.plan c.args.plan served.result.1 new.plan_is are new
          c.in_ok-core.ensures.begins served.ensures.life served.ensures.latched served.ensures.settled
          served.ensures.legal served.ensures.report);
    }
