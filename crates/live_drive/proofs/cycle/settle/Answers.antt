use Rattle.std.proofs.Common.{◌≡◌, Err, rules}
use Rattle.durable_core.specs.Endless.{HasCoreLife}
use Rattle.live_drive.specs.Cycles.{Runs, Withstands}
use Rattle.live_drive.proofs.CycleLemmas.{ends_run, goes_on_living, runs_end, runs_more}
use Rattle.live_drive.proofs.cycle.settle.Goals as goal

pub commit_activation-requires : goal.commit_activation-requires
commit_activation-requires g c = record { waits = λ start log is. (c.in-Some.ensures start log is).best.waits }

pub returns-in_err-outcome-clause-runs :
    goal.returns-in_err-outcome-clause-runs
returns-in_err-outcome-clause-runs g c =
    runs_end g.D.Disk.tells g.D.Disk.left_since g.D.Disk.may_leave c.args.core.now c.loop.core c.commit_activation.new.self
    c.in-Some.activation c.in_err-outcome.field-0.0 c.loop.invariant c.in_err-outcome.ensures

pub returns-in_err-outcome-clause-ends :
    goal.returns-in_err-outcome-clause-ends
returns-in_err-outcome-clause-ends g c =
    let same : c.from_residual.result ≡ Err c.in_err-outcome.field-0.0 = search rules in
    let life : HasCoreLife c.loop.core = goes_on_living
    (λ a b. Runs a b × Withstands g.D.Disk.tells g.D.Disk.left_since g.D.Disk.may_leave a b) c.args.core.now c.loop.core
    c.kept.ensures.life c.loop.invariant in
    rw same (ends_run g.D.Disk.tells g.D.Disk.left_since g.D.Disk.may_leave c.loop.core c.commit_activation.new.self
    c.in-Some.activation c.in_err-outcome.field-0.0 life c.in_err-outcome.ensures)

pub loop-preserved : goal.loop-preserved
loop-preserved g c =
    runs_more g.D.Disk.tells g.D.Disk.left_since g.D.Disk.may_leave c.args.core.now c.loop.core c.commit_activation.new.self
    c.in-Some.activation c.in_ok-outcome.outcome c.loop.invariant c.in-Some.ensures c.in_ok-outcome.ensures
