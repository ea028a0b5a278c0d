use Rattle.std.proofs.Common.{rules, ◌≡◌, length, subst}
use Rattle.std.specs.Prelude.{List}
use Rattle.commit_lock.specs.declared.life.Life.{Life}
use Rattle.commit_lock.specs.Lives.{EachLife, IsLife}
use Rattle.commit_lock.proofs.LifeLemmas.{each_end}
use Rattle.commit_lock.proofs.living_endless.endless_lives.Goals as goal

pub returns : goal.returns
returns c =
    let none : length c.loop-life.life-iterator.rest.items ≡ 0 = search rules in
    let all : c.into_iter-life-iterator.result.rest.items ≡ c.args.lives.items = search rules in
    subst (λ (ls : List Life). EachLife (IsLife c.args.plan.now.value) c.args.file.items ls c.loop-life.ends.items) all
    (each_end (IsLife c.args.plan.now.value) c.args.file.items c.loop-life.file.items
    c.into_iter-life-iterator.result.rest.items c.loop-life.life-iterator.rest.items c.loop-life.ends.items
    c.loop-life.invariant none)
