use Rattle.std.proofs.Common.{◌≡◌, inl, inr, refl, Ok, Err, rules}
use Rattle.source_run.specs.LiveRuns.{EndsLived}
use Rattle.source_run.specs.declared.living.Lived.TheVariants.{OutputFailed, Report}
use Rattle.plant_main.proofs.live.live.Goals as goal

pub returns-in-Ok-Report : goal.returns-in-Ok-Report
returns-in-Ok-Report g c =
    let (text, is) = c.in_ok-plan.ensures.plan in
    let lived : EndsLived g.F.Disk.Disk.tells g.F.Disk.Disk.left_since g.F.Disk.Disk.may_leave c.in_ok-plan.plan
    c.args.job.now (g.I.Read.remaining c.args.input) (Ok (Report c.in-Ok-Report.report)) (g.O.Write.contents c.args.out.now)
    (g.O.Write.contents c.live_plan.new.out) = search rules in
    record { text = text; plan = c.in_ok-plan.plan; is = is; ends = lived }

pub returns-in-Ok-OutputFailed : goal.returns-in-Ok-OutputFailed
returns-in-Ok-OutputFailed g c =
    let (text, is) = c.in_ok-plan.ensures.plan in
    let lived : EndsLived g.F.Disk.Disk.tells g.F.Disk.Disk.left_since g.F.Disk.Disk.may_leave c.in_ok-plan.plan
    c.args.job.now (g.I.Read.remaining c.args.input) (Ok OutputFailed) (g.O.Write.contents c.args.out.now)
    (g.O.Write.contents c.live_plan.new.out) = search rules in
    record { text = text; plan = c.in_ok-plan.plan; is = is; ends = lived }

pub returns-in-Err : goal.returns-in-Err
returns-in-Err g c =
    let (text, is) = c.in_ok-plan.ensures.plan in
    let lived : EndsLived g.F.Disk.Disk.tells g.F.Disk.Disk.left_since g.F.Disk.Disk.may_leave c.in_ok-plan.plan
    c.args.job.now (g.I.Read.remaining c.args.input) (Err c.in-Err.fault) (g.O.Write.contents c.args.out.now)
    (g.O.Write.contents c.live_plan.new.out) = search rules in
    inr record { text = text; plan = c.in_ok-plan.plan; is = is; ends = lived }

pub returns-in_err-plan : goal.returns-in_err-plan
returns-in_err-plan g c =
    let same : c.from_residual.result ≡ Err c.in_err-plan.field-0.0 = search rules in rw same
    (inl (refl, c.in_err-plan.ensures.refused))
