use Rattle.std.proofs.Common.{◌≡◌, ◌∙◌, Some, inl, rules, sym}
use Rattle.core_engine.specs.declared.refusal.Refusal.TheVariants as serial
use Rattle.durable_core.specs.declared.refusal.Refusal.TheVariants.{Serial}
use Rattle.live_drive.specs.AnswerLines.{missed_line}
use Rattle.live_drive.specs.declared.answers.Missed.TheVariants as missed
use Rattle.live_drive.specs.declared.feed.Incoming.TheVariants as came
use Rattle.live_drive.proofs.ServingLemmas.{answered, answers_late, answers_row, late_is, late_stays, settled_life}
use Rattle.live_drive.proofs.serving.serve_row.Goals as goal

pub send_outputs-requires : goal.send_outputs-requires
send_outputs-requires g c = record {
  settled = settled_life g.D.Disk.tells g.D.Disk.left_since g.D.Disk.may_leave c.args.core.now c.cycle.new.core
      c.args.row.now c.kept.ensures.life c.in-Ok.ensures;
}

pub returns-in-Ok-send_outputs-clause-answers : goal.returns-in-Ok-send_outputs-clause-answers
returns-in-Ok-send_outputs-clause-answers g c =
    let (answer, sent, shows) = c.in-Ok-send_outputs.ensures.sent in (
      answer,
      sent,
      inl (answers_row c.args.answers.now g.D.Disk.tells g.D.Disk.left_since g.D.Disk.may_leave
          c.args.core.now c.cycle.new.core c.args.row.now answer c.in-Ok.ensures c.kept-in-Ok.ensures.survives shows),
    )

pub returns-in-Err-send_outputs-clause-answers : goal.returns-in-Err-send_outputs-clause-answers
returns-in-Err-send_outputs-clause-answers g c =
    let (answer, sent, shows) = c.in-Err-send_outputs.ensures.sent in (
      answer,
      inl (answers_row c.args.answers.now g.D.Disk.tells g.D.Disk.left_since g.D.Disk.may_leave
          c.args.core.now c.cycle.new.core c.args.row.now answer c.in-Ok.ensures c.kept-in-Ok.ensures.survives shows),
      sent,
    )

pub returns-in-Err-clause-answers : goal.returns-in-Err-clause-answers
returns-in-Err-clause-answers g c =
    let late : c.in-Err.refusal ≡ Serial serial.NotLater =
    late_is c.in-Err.refusal (sym c.is_late.ensures ∙ c.if-is_late.true) in
    answered c.args.answers.now g.D.Disk.tells g.D.Disk.left_since g.D.Disk.may_leave c.args.core.now c.cycle.new.core
    (came.Row c.args.row.now) (missed_line (Some c.moment.result) missed.NotLater) (g.W.Write.contents c.args.out.now)
    (g.W.Write.contents c.miss.new.out) c.miss.result
    (answers_late c.args.answers.now g.D.Disk.tells g.D.Disk.left_since g.D.Disk.may_leave c.args.core.now c.cycle.new.core
    c.args.row.now c.moment.result c.moment.ensures
    (late_stays g.D.Disk.tells g.D.Disk.left_since g.D.Disk.may_leave c.args.core.now c.cycle.new.core c.args.row.now
    (rw late at c.in-Err.ensures))) c.miss.ensures.answers
