use Rattle.std.proofs.Common.{◌≡◌, Some, refl, rules}
use Rattle.live_drive.specs.AnswerLines.{missed_line}
use Rattle.live_drive.specs.declared.answers.Missed.TheVariants as missed
use Rattle.live_drive.specs.declared.feed.Incoming.TheVariants as came
use Rattle.live_drive.proofs.ServingLemmas.{answered}
use Rattle.live_drive.proofs.serving.serve_incoming.Goals as goal

pub returns-in-Row-clause-answers : goal.returns-in-Row-clause-answers
returns-in-Row-clause-answers g c =
    let is : c.args.incoming.now ≡ came.Row c.in-Row.row = search rules in rw is c.serve_row.ensures.answers

pub returns-in-NoRow-clause-answers : goal.returns-in-NoRow-clause-answers
returns-in-NoRow-clause-answers g c =
    let is : c.args.incoming.now ≡ came.NoRow c.in-NoRow.moment = search rules in rw is
    (answered c.args.answers.now g.D.Disk.tells g.D.Disk.left_since g.D.Disk.may_leave c.args.core.now c.args.core.now
    (came.NoRow c.in-NoRow.moment) (missed_line c.in-NoRow.moment missed.NoRow) (g.W.Write.contents c.args.out.now)
    (g.W.Write.contents c.miss.new.out) c.miss.result (refl, refl) c.miss.ensures.answers)

pub returns-in-Old-clause-answers : goal.returns-in-Old-clause-answers
returns-in-Old-clause-answers g c =
    let is : c.args.incoming.now ≡ came.Old c.in-Old.moment = search rules in rw is
    (answered c.args.answers.now g.D.Disk.tells g.D.Disk.left_since g.D.Disk.may_leave c.args.core.now c.args.core.now
    (came.Old c.in-Old.moment) (missed_line (Some c.in-Old.moment) missed.Newer) (g.W.Write.contents c.args.out.now)
    (g.W.Write.contents c.miss-in-Old.new.out) c.miss-in-Old.result (refl, refl) c.miss-in-Old.ensures.answers)
