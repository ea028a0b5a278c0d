use Rattle.std.proofs.Common.{◌≡◌, Err, inl, refl, rules}
use Rattle.live_drive.specs.Outputs.{output_places}
use Rattle.source_run.proofs.LiveLemmas.{ends_lines, ends_ticks}
use Rattle.source_run.proofs.living.live_plan.Goals as goal

pub returns-in_err-lines : goal.returns-in_err-lines
returns-in_err-lines g c =
    let same : c.from_residual.result ≡ Err c.in_err-lines.field-0.0 = search rules in rw same
    (inl (
      refl,
      record {
        early = c.in_err-lines.ensures.early;
        header = λ is. c.lines_after_header.ensures.none (search rules);
        started = λ cause is. absurd (c.in_err-lines.ensures.unbegun cause is);
      },
    ))

pub returns-in-None : goal.returns-in-None
returns-in-None g c =
    let are : c.in_ok-answers.answers ≡ output_places c.args.plan = search rules in
    let planned : c.in-Ok.plan.value ≡ c.args.plan = search rules in
    ends_lines g.F.Disk.Disk.tells g.F.Disk.Disk.left_since g.F.Disk.Disk.may_leave c.args.plan c.args.job.now
    (g.I.Read.remaining c.args.input) c.in_ok-lines.lines.left (g.O.Write.contents c.args.out.now)
    (g.O.Write.contents c.live_feed.new.out) c.live_feed.result c.in_ok-feed-in-None.feed c.in_ok-answers.answers
    c.in_ok-lines.ensures.read (search rules)
    record { backlog = search rules; moments = search rules; left = search rules } are
    (rw planned at c.live_feed.ensures)

pub returns : goal.returns
returns g c =
    let are : c.in_ok-answers.answers ≡ output_places c.args.plan = search rules in
    let planned : c.in-Ok.plan.value ≡ c.args.plan = search rules in
    ends_ticks g.F.Disk.Disk.tells g.F.Disk.Disk.left_since g.F.Disk.Disk.may_leave c.args.plan c.args.job.now
    (g.I.Read.remaining c.args.input) c.in_ok-lines.lines.left (g.O.Write.contents c.args.out.now)
    (g.O.Write.contents c.live_feed-in-Some.new.out) c.live_feed-in-Some.result c.new-feed.result c.in_ok-answers.answers
    c.in-Some.period c.in_ok-lines.ensures.read (search rules) are
    (rw planned at c.live_feed-in-Some.ensures)

pub returns-in_default : goal.returns-in_default
returns-in_default g c = inl (
  refl,
  record {
    early = refl;
    header = λ is. absurd (let it = is in cc);
    started = λ cause is. (c.in_ok-lines.lines.left, c.in_ok-lines.ensures.read);
  },
)
