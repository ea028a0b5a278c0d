use Rattle.plant_main.proofs.EndLemmas.{performs}
use Rattle.plant_main.proofs.program.perform.Goals as goal

pub returns-in-Fault : goal.returns-in-Fault
returns-in-Fault g c =
    let done = performs g.O.Write.contents g.F.Disk.Disk.tells g.F.Disk.Disk.left_since g.F.Disk.Disk.may_leave
    (g.I.Read.remaining c.args.input) c.args.job.now c.done-end.result c.report_end-ending.result c.args.out.now c.done-end.new.out
    c.report_end-ending.new.out c.done-end.ensures c.report_end-ending.ensures in
    rw c.in-Fault.is at done

pub returns-in_default : goal.returns-in_default
returns-in_default g c =
    performs g.O.Write.contents g.F.Disk.Disk.tells g.F.Disk.Disk.left_since g.F.Disk.Disk.may_leave
    (g.I.Read.remaining c.args.input) c.args.job.now
    c.done-end.result c.report_end-ending.result c.args.out.now c.done-end.new.out c.report_end-ending.new.out
    c.done-end.ensures c.report_end-ending.ensures
