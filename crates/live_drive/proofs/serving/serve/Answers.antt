use Rattle.std.proofs.Common.{◌≡◌, rules, refl, ◌∙◌}
use Rattle.live_drive.specs.Serving.{Feeds}
use Rattle.live_drive.specs.declared.serving.End.TheVariants as ends
use Rattle.live_drive.proofs.ServingLemmas.{failed, reached_more, reached_none, served}
use Rattle.live_drive.proofs.serving.serve.Goals as goal

pub returns-in-Err : goal.returns-in-Err
returns-in-Err g c =
    served c.args.answers.now g.D.Disk.tells g.D.Disk.left_since g.D.Disk.may_leave g.F.Feed.came g.F.Feed.gives g.F.Feed.ended
    (ends.Feed c.in-Err.end) c.args.core.now c.loop.core c.loop.core c.args.feed.now c.loop.feed c.wait.new.self
    (g.W.Write.contents c.args.out.now) (g.W.Write.contents c.loop.out) (g.W.Write.contents c.loop.out) c.loop.invariant.0
    (refl, refl, c.in-Err.ensures)

pub returns-in-Err-take : goal.returns-in-Err-take
returns-in-Err-take g c =
    served c.args.answers.now g.D.Disk.tells g.D.Disk.left_since g.D.Disk.may_leave g.F.Feed.came g.F.Feed.gives g.F.Feed.ended
    ends.NoMemory c.args.core.now c.loop.core c.loop.core c.args.feed.now c.loop.feed c.take.new.self
    (g.W.Write.contents c.args.out.now) (g.W.Write.contents c.loop.out) (g.W.Write.contents c.loop.out) c.loop.invariant.0
    (refl, refl, search rules)

pub returns-in-Err-serve_incoming : goal.returns-in-Err-serve_incoming
returns-in-Err-serve_incoming g c =
    let feeds : Feeds g.F.Feed.came g.F.Feed.gives c.loop.core c.loop.feed c.in-Ok-take.incoming c.take.new.self = record {
      arrives = search rules;
      last = c.last_moment.result;
      is_last = c.last_moment.ensures;
      is = search rules;
    } in
    failed c.args.answers.now g.D.Disk.tells g.D.Disk.left_since g.D.Disk.may_leave g.F.Feed.came g.F.Feed.gives g.F.Feed.ended
    c.in-Err-serve_incoming.end c.args.core.now c.loop.core c.serve_incoming.new.core c.args.feed.now c.loop.feed
    c.take.new.self (g.W.Write.contents c.args.out.now) (g.W.Write.contents c.loop.out)
    (g.W.Write.contents c.serve_incoming.new.out) c.in-Ok-take.incoming c.loop.invariant.0 feeds
    (rw c.loop.invariant.1 at c.in-Err-serve_incoming.ensures.answers)

pub loop-preserved : goal.loop-preserved
loop-preserved g c =
    let feeds : Feeds g.F.Feed.came g.F.Feed.gives c.loop.core c.loop.feed c.in-Ok-take.incoming c.take.new.self = record {
      arrives = search rules;
      last = c.last_moment.result;
      is_last = c.last_moment.ensures;
      is = search rules;
    } in
    let said = rw c.loop.invariant.1 at c.in-Ok-serve_incoming.ensures.answers in (
      reached_more c.args.answers.now g.D.Disk.tells g.D.Disk.left_since g.D.Disk.may_leave g.F.Feed.came g.F.Feed.gives
          g.F.Feed.ended c.args.core.now c.loop.core c.serve_incoming.new.core c.args.feed.now c.loop.feed c.take.new.self
          (g.W.Write.contents c.args.out.now) (g.W.Write.contents c.loop.out) (g.W.Write.contents c.serve_incoming.new.out)
          c.in-Ok-take.incoming said.0 c.loop.invariant.0 feeds said.2 said.1,
      c.serve_incoming.ensures.outputs ∙ c.loop.invariant.1,
    )
