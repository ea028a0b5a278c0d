use Rattle.std.proofs.Common.{rules, ◌≡◌, ◌∷◌, ◌++◌, [], subst, ap, arith, length, length-append}
use Rattle.commit_lock.specs.Driving.{Drives}
use Rattle.commit_lock.proofs.DriveLemmas.{endures}
use Rattle.commit_lock.proofs.FrontLemmas.{drives_leaves}
use Rattle.durable_core.specs.Endless.{core_in}
use Rattle.commit_lock.proofs.EndlessDriveLemmas.{all_driven, goes_one_more}
use Rattle.commit_lock.proofs.driving_endless.drive_endless.Goals as goal

pub loop-event-preserved : goal.loop-event-preserved
loop-event-preserved g c =
    let more : c.loop-event.event-iterator.rest.items ≡ c.in-Some.event ∷ c.next.new.self.rest.items = search rules in
    let fewer = ap length more in (
      goes_one_more g.D.Disk.failure_count g.D.Disk.tells g.D.Disk.left_since g.D.Disk.may_leave g.D.Disk.serves
          c.args.core.now c.loop-event.core c.step-reply.new.core c.loop-event.held.items c.step-reply.new.held.items
          c.into_iter-event-iterator.result.rest.items c.next.new.self.rest.items c.loop-event.event-iterator.rest.items
          c.in-Some.event c.loop-event.replies.items c.push_reserved.new.self.items c.step-reply.result
          c.loop-event.invariant.0 more c.step-reply.ensures.step c.push_reserved.ensures.items,
      omega (arith, fewer, c.loop-event.invariant.1, c.step-reply.ensures.len, c.step-reply.ensures.capacity),
      omega (
        arith,
        fewer,
        c.loop-event.invariant.2,
        c.push_reserved.ensures.capacity,
        ap length c.push_reserved.ensures.items,
        c.push_reserved.new.self.ok.0,
        c.loop-event.replies.ok.0,
        length-append c.loop-event.replies.items (c.step-reply.result ∷ []),
      ),
    )

pub returns-clause-drives : goal.returns-clause-drives
returns-clause-drives g c = λ start log is_life.
    let none : length c.loop-event.event-iterator.rest.items ≡ 0 = search rules in
    let all : c.into_iter-event-iterator.result.rest.items ≡ c.args.events.items = search rules in
    let (longer, far, after) = all_driven g.D.Disk.failure_count g.D.Disk.tells g.D.Disk.left_since
    g.D.Disk.may_leave g.D.Disk.serves c.args.core.now c.loop-event.core c.loop-event.held.items
    c.into_iter-event-iterator.result.rest.items c.args.events.items c.loop-event.event-iterator.rest.items
    c.loop-event.replies.items c.loop-event.invariant.0 none all start log is_life in
    (longer, (c.loop-event.held.items, far.0), after)

pub returns-clause-survives : goal.returns-clause-survives
returns-clause-survives g c = λ tells front rest said answers event reply is answered same start log is_life.
    let none : length c.loop-event.event-iterator.rest.items ≡ 0 = search rules in
    let all : c.into_iter-event-iterator.result.rest.items ≡ c.args.events.items = search rules in
    let (longer, far, after) = all_driven g.D.Disk.failure_count g.D.Disk.tells g.D.Disk.left_since
    g.D.Disk.may_leave g.D.Disk.serves c.args.core.now c.loop-event.core c.loop-event.held.items
    c.into_iter-event-iterator.result.rest.items c.args.events.items c.loop-event.event-iterator.rest.items
    c.loop-event.replies.items c.loop-event.invariant.0 none all start log is_life in
    let first = core_in c.args.core.now start log in
    let last = core_in c.loop-event.core start longer in (
      longer,
      endures g.D.Disk.failure_count g.D.Disk.tells g.D.Disk.left_since g.D.Disk.may_leave first last []
          c.loop-event.held.items front rest said answers event reply tells same
          (subst (λ rs. Drives g.D.Disk.failure_count g.D.Disk.tells g.D.Disk.left_since g.D.Disk.may_leave first []
          (front ++ event ∷ rest) rs last c.loop-event.held.items) answered
          (subst (λ es. Drives g.D.Disk.failure_count g.D.Disk.tells g.D.Disk.left_since g.D.Disk.may_leave first []
          es c.loop-event.replies.items last c.loop-event.held.items) is far.0)),
      after,
    )

pub returns-clause-any_moment : goal.returns-clause-any_moment
returns-clause-any_moment g c = λ tells start log is.
    let none : length c.loop-event.event-iterator.rest.items ≡ 0 = search rules in
    let all : c.into_iter-event-iterator.result.rest.items ≡ c.args.events.items = search rules in
    let (longer, far, after) = all_driven g.D.Disk.failure_count g.D.Disk.tells g.D.Disk.left_since
    g.D.Disk.may_leave g.D.Disk.serves c.args.core.now c.loop-event.core c.loop-event.held.items
    c.into_iter-event-iterator.result.rest.items c.args.events.items c.loop-event.event-iterator.rest.items
    c.loop-event.replies.items c.loop-event.invariant.0 none all start log is in
    drives_leaves g.D.Disk.failure_count g.D.Disk.tells g.D.Disk.left_since g.D.Disk.may_leave _ _ []
    c.loop-event.held.items [] c.args.events.items c.loop-event.replies.items tells
    (λ disk file left. g.met.D.Disk.only_now disk file tells left)
    (λ file may. c.kept.ensures.survives tells file may start log is) far.0 tt

pub returns-clause-serves : goal.returns-clause-serves
returns-clause-serves g c = λ well.
    let none : length c.loop-event.event-iterator.rest.items ≡ 0 = search rules in
    let all : c.into_iter-event-iterator.result.rest.items ≡ c.args.events.items = search rules in
    let (start, log, is) = c.kept.ensures.life in
    let (longer, far, after) = all_driven g.D.Disk.failure_count g.D.Disk.tells g.D.Disk.left_since
    g.D.Disk.may_leave g.D.Disk.serves c.args.core.now c.loop-event.core c.loop-event.held.items
    c.into_iter-event-iterator.result.rest.items c.args.events.items c.loop-event.event-iterator.rest.items
    c.loop-event.replies.items c.loop-event.invariant.0 none all start log is in
    far.1 well
