use Rattle.std.proofs.Common.{Some, None, subst}
use Rattle.plan.specs.declared.plan.Plan.{Plan}
use Rattle.trace.specs.Reads.{BeginsWith}
use Rattle.trace.specs.Heads.{MayBegin, begin_of}
use Rattle.commit_lock.proofs.StartLemmas.{start_begins, start_not}
use Rattle.commit_lock.proofs.starting.start.Goals as goal

pub returns-in-Some-life : goal.returns-in-Some-life
returns-in-Some-life c =
    start_begins c.args.plan.value c.args.text.now c.in-Some.lines.now c.in-Some.mode c.in-Some.moment
    (Some (c.in-Some-life.core, c.in-Some-life.rest.now))
    (subst (λ (p : Plan). BeginsWith MayBegin (begin_of p.budget) c.args.text.now
    (Some ((c.in-Some.mode, c.in-Some.moment), c.in-Some.lines.now))) c.deref.ensures c.in-Some.ensures)
    (rw c.in-Some-life.is at c.in_ok-life-in-Some.ensures)

pub returns-in-Some : goal.returns-in-Some
returns-in-Some c =
    start_begins c.args.plan.value c.args.text.now c.in-Some.lines.now c.in-Some.mode c.in-Some.moment None
    (subst (λ (p : Plan). BeginsWith MayBegin (begin_of p.budget) c.args.text.now
    (Some ((c.in-Some.mode, c.in-Some.moment), c.in-Some.lines.now))) c.deref.ensures c.in-Some.ensures)
    (rw c.in-None-life.is at c.in_ok-life-in-Some.ensures)

pub returns : goal.returns
returns c = start_not c.args.plan.value c.args.text.now
    (subst (λ (p : Plan). BeginsWith MayBegin (begin_of p.budget) c.args.text.now None) c.deref.ensures c.in-None.ensures)
