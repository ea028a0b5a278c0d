use Rattle.std.proofs.Common.{◌≡◌}
use Rattle.live_drive.proofs.ServingLemmas.{Reached}
use Rattle.live_drive.proofs.serving.serve.Given as goal

abbrev pub invariant-loop : goal.invariant-loop
invariant-loop g l =
    Reached l.initial.answers g.D.Disk.tells g.D.Disk.left_since g.D.Disk.may_leave g.F.Feed.came g.F.Feed.gives g.F.Feed.ended
    l.initial.core l.initial.feed (g.W.Write.contents l.initial.out) l.core l.feed (g.W.Write.contents l.out)
    × (l.answers ≡ l.initial.answers)
