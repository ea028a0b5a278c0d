use Rattle.std.proofs.Common.{rules, ◌≡◌, ◌∙◌, ◌∷◌, ◌++◌, [], List, subst, sym, ap, arith, length, length-append}
use Rattle.std.specs.List.{AllByRecursion}
use Rattle.commit_lock.specs.Driving.{Drives, IsWellAnswered}
use Rattle.commit_lock.specs.declared.event.Reply.{Reply}
use Rattle.commit_lock.specs.declared.event.Event.{Event}
use Rattle.commit_lock.proofs.DriveLemmas.{drives_step, drives_end, endures, all_more}
use Rattle.commit_lock.proofs.FrontLemmas.{drives_leaves}
use Rattle.commit_lock.proofs.driving.drive.Goals as goal

pub loop-event-preserved : goal.loop-event-preserved
loop-event-preserved g c =
    let more : c.loop-event.event-iterator.rest.items ≡ c.in-Some.event ∷ c.next.new.self.rest.items = search rules in
    let fewer = ap length more in (
      drives_step g.D.Disk.failure_count g.D.Disk.tells g.D.Disk.left_since g.D.Disk.may_leave c.args.core.now
          c.loop-event.core
          c.step-reply.new.core c.loop-event.held.items c.step-reply.new.held.items
          c.into_iter-event-iterator.result.rest.items c.next.new.self.rest.items c.loop-event.event-iterator.rest.items
          c.in-Some.event
          c.loop-event.replies.items c.push_reserved.new.self.items c.step-reply.result
          c.loop-event.invariant.0 more c.step-reply.ensures.step c.step-reply.ensures.outlives
          c.push_reserved.ensures.items,
      omega (arith, fewer, c.loop-event.invariant.1, c.step-reply.ensures.len, c.step-reply.ensures.capacity),
      omega (
        arith,
        fewer,
        c.loop-event.invariant.2,
        c.push_reserved.ensures.capacity,
        ap length c.push_reserved.ensures.items,
        c.push_reserved.new.self.ok.0,
        c.loop-event.replies.ok.0,
        length-append c.loop-event.replies.items (c.step-reply.result ∷ []),
      ),
      λ well.
          let so_far = c.loop-event.invariant.3 well in
          let now = c.step-reply.ensures.serves so_far.0 in (
            now.0,
            subst (λ (rs : List Reply). AllByRecursion IsWellAnswered rs) (sym c.push_reserved.ensures.items)
                (all_more IsWellAnswered c.loop-event.replies.items c.step-reply.result so_far.1 now.1),
          ),
    )

pub returns-clause-drives : goal.returns-clause-drives
returns-clause-drives g c =
    let none : length c.loop-event.event-iterator.rest.items ≡ 0 = search rules in
    let all : c.into_iter-event-iterator.result.rest.items ≡ c.args.events.items = search rules in (
      c.loop-event.held.items,
      drives_end g.D.Disk.failure_count g.D.Disk.tells g.D.Disk.left_since g.D.Disk.may_leave c.args.core.now
          c.loop-event.core
          c.loop-event.held.items c.args.events.items c.loop-event.event-iterator.rest.items c.loop-event.replies.items
          (subst (λ (es : List Event). (replies : _) (new : _) (kept : _)
          → Drives g.D.Disk.failure_count g.D.Disk.tells g.D.Disk.left_since
          g.D.Disk.may_leave c.loop-event.core c.loop-event.held.items c.loop-event.event-iterator.rest.items
          replies new kept → Drives g.D.Disk.failure_count g.D.Disk.tells g.D.Disk.left_since g.D.Disk.may_leave
          c.args.core.now [] es
          (c.loop-event.replies.items ++ replies) new kept) all c.loop-event.invariant.0)
          none,
    )

pub returns-clause-survives : goal.returns-clause-survives
returns-clause-survives g c = λ tells front rest said answers event reply is answered same.
    let none : length c.loop-event.event-iterator.rest.items ≡ 0 = search rules in
    let all : c.into_iter-event-iterator.result.rest.items ≡ c.args.events.items = search rules in
    let so_far = subst (λ (es : List Event). (replies : _) (new : _) (kept : _)
    → Drives g.D.Disk.failure_count g.D.Disk.tells g.D.Disk.left_since g.D.Disk.may_leave c.loop-event.core
    c.loop-event.held.items c.loop-event.event-iterator.rest.items replies new kept → Drives g.D.Disk.failure_count
    g.D.Disk.tells g.D.Disk.left_since g.D.Disk.may_leave c.args.core.now [] es (c.loop-event.replies.items ++ replies)
    new kept) (all ∙ is) c.loop-event.invariant.0 in
    let whole = drives_end g.D.Disk.failure_count g.D.Disk.tells g.D.Disk.left_since g.D.Disk.may_leave c.args.core.now
    c.loop-event.core c.loop-event.held.items (front ++ event ∷ rest) c.loop-event.event-iterator.rest.items
    c.loop-event.replies.items so_far none in
    endures g.D.Disk.failure_count g.D.Disk.tells g.D.Disk.left_since g.D.Disk.may_leave c.args.core.now
    c.loop-event.core [] c.loop-event.held.items front rest said answers event reply tells same
    (subst (λ rs. Drives g.D.Disk.failure_count g.D.Disk.tells g.D.Disk.left_since g.D.Disk.may_leave c.args.core.now []
    (front ++ event ∷ rest) rs c.loop-event.core c.loop-event.held.items) answered whole)

pub returns-clause-any_moment : goal.returns-clause-any_moment
returns-clause-any_moment g c = λ tells.
    let none : length c.loop-event.event-iterator.rest.items ≡ 0 = search rules in
    let all : c.into_iter-event-iterator.result.rest.items ≡ c.args.events.items = search rules in
    drives_leaves g.D.Disk.failure_count g.D.Disk.tells g.D.Disk.left_since g.D.Disk.may_leave c.args.core.now
    c.loop-event.core [] c.loop-event.held.items [] c.args.events.items c.loop-event.replies.items tells
    (λ disk file left. g.met.D.Disk.only_now disk file tells left) (c.kept.ensures.survives tells)
    (drives_end g.D.Disk.failure_count g.D.Disk.tells g.D.Disk.left_since g.D.Disk.may_leave c.args.core.now
    c.loop-event.core
    c.loop-event.held.items c.args.events.items c.loop-event.event-iterator.rest.items c.loop-event.replies.items
    (subst (λ (es : List Event). (replies : _) (new : _) (kept : _)
    → Drives g.D.Disk.failure_count g.D.Disk.tells g.D.Disk.left_since
    g.D.Disk.may_leave c.loop-event.core c.loop-event.held.items c.loop-event.event-iterator.rest.items
    replies new kept → Drives g.D.Disk.failure_count g.D.Disk.tells g.D.Disk.left_since g.D.Disk.may_leave
    c.args.core.now [] es
    (c.loop-event.replies.items ++ replies) new kept) all c.loop-event.invariant.0)
    none) tt
