use Rattle.std.proofs.Common.{rules, ◌≡◌, length, subst}
use Rattle.std.specs.Prelude.{List}
use Rattle.commit_lock.specs.declared.life.Life.{Life}
use Rattle.commit_lock.specs.Lives.{EachLife, IsLife, BeginsFrom, IsAnswered, IsAcked, LeavesLog, IsRefused, HasCause}
use Rattle.commit_lock.proofs.LifeLemmas.{each_weaker, each_end}
use Rattle.commit_lock.proofs.living.lives.Goals as goal

pub returns-clause-begins : goal.returns-clause-begins
returns-clause-begins c =
    let none : length c.loop-life.life-iterator.rest.items ≡ 0 = search rules in
    let all : c.into_iter-life-iterator.result.rest.items ≡ c.args.lives.items = search rules in
    each_weaker (IsLife c.args.plan.now.value) (BeginsFrom c.args.plan.now.value) (λ file life end is. is.begins)
    c.args.file.items c.args.lives.items c.loop-life.ends.items
    (subst (λ (ls : List Life). EachLife (IsLife c.args.plan.now.value) c.args.file.items ls c.loop-life.ends.items) all
    (each_end (IsLife c.args.plan.now.value) c.args.file.items c.loop-life.file.items
    c.into_iter-life-iterator.result.rest.items c.loop-life.life-iterator.rest.items c.loop-life.ends.items
    c.loop-life.invariant.0 none))

pub returns-clause-answered : goal.returns-clause-answered
returns-clause-answered c =
    let none : length c.loop-life.life-iterator.rest.items ≡ 0 = search rules in
    let all : c.into_iter-life-iterator.result.rest.items ≡ c.args.lives.items = search rules in
    each_weaker (IsLife c.args.plan.now.value) (IsAnswered c.args.plan.now.value) (λ file life end is. is.answered)
    c.args.file.items c.args.lives.items c.loop-life.ends.items
    (subst (λ (ls : List Life). EachLife (IsLife c.args.plan.now.value) c.args.file.items ls c.loop-life.ends.items) all
    (each_end (IsLife c.args.plan.now.value) c.args.file.items c.loop-life.file.items
    c.into_iter-life-iterator.result.rest.items c.loop-life.life-iterator.rest.items c.loop-life.ends.items
    c.loop-life.invariant.0 none))

pub returns-clause-acked : goal.returns-clause-acked
returns-clause-acked c =
    let none : length c.loop-life.life-iterator.rest.items ≡ 0 = search rules in
    let all : c.into_iter-life-iterator.result.rest.items ≡ c.args.lives.items = search rules in
    each_weaker (IsLife c.args.plan.now.value) IsAcked (λ file life end is. is.acked)
    c.args.file.items c.args.lives.items c.loop-life.ends.items
    (subst (λ (ls : List Life). EachLife (IsLife c.args.plan.now.value) c.args.file.items ls c.loop-life.ends.items) all
    (each_end (IsLife c.args.plan.now.value) c.args.file.items c.loop-life.file.items
    c.into_iter-life-iterator.result.rest.items c.loop-life.life-iterator.rest.items c.loop-life.ends.items
    c.loop-life.invariant.0 none))

pub returns-clause-survives : goal.returns-clause-survives
returns-clause-survives c =
    let none : length c.loop-life.life-iterator.rest.items ≡ 0 = search rules in
    let all : c.into_iter-life-iterator.result.rest.items ≡ c.args.lives.items = search rules in
    each_weaker (IsLife c.args.plan.now.value) (LeavesLog c.args.plan.now.value) (λ file life end is. is.survives)
    c.args.file.items c.args.lives.items c.loop-life.ends.items
    (subst (λ (ls : List Life). EachLife (IsLife c.args.plan.now.value) c.args.file.items ls c.loop-life.ends.items) all
    (each_end (IsLife c.args.plan.now.value) c.args.file.items c.loop-life.file.items
    c.into_iter-life-iterator.result.rest.items c.loop-life.life-iterator.rest.items c.loop-life.ends.items
    c.loop-life.invariant.0 none))

pub returns-clause-refused : goal.returns-clause-refused
returns-clause-refused c =
    let none : length c.loop-life.life-iterator.rest.items ≡ 0 = search rules in
    let all : c.into_iter-life-iterator.result.rest.items ≡ c.args.lives.items = search rules in
    each_weaker (IsLife c.args.plan.now.value) (IsRefused c.args.plan.now.value) (λ file life end is. is.refused)
    c.args.file.items c.args.lives.items c.loop-life.ends.items
    (subst (λ (ls : List Life). EachLife (IsLife c.args.plan.now.value) c.args.file.items ls c.loop-life.ends.items) all
    (each_end (IsLife c.args.plan.now.value) c.args.file.items c.loop-life.file.items
    c.into_iter-life-iterator.result.rest.items c.loop-life.life-iterator.rest.items c.loop-life.ends.items
    c.loop-life.invariant.0 none))

pub returns-clause-cause : goal.returns-clause-cause
returns-clause-cause c =
    let none : length c.loop-life.life-iterator.rest.items ≡ 0 = search rules in
    let all : c.into_iter-life-iterator.result.rest.items ≡ c.args.lives.items = search rules in
    each_weaker (IsLife c.args.plan.now.value) (HasCause c.args.plan.now.value) (λ file life end is. is.cause)
    c.args.file.items c.args.lives.items c.loop-life.ends.items
    (subst (λ (ls : List Life). EachLife (IsLife c.args.plan.now.value) c.args.file.items ls c.loop-life.ends.items) all
    (each_end (IsLife c.args.plan.now.value) c.args.file.items c.loop-life.file.items
    c.into_iter-life-iterator.result.rest.items c.loop-life.life-iterator.rest.items c.loop-life.ends.items
    c.loop-life.invariant.0 none))
