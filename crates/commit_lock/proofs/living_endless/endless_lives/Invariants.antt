use Rattle.std.proofs.Common.{◌++◌, List}
use Rattle.commit_lock.specs.declared.life.LifeEnd.{LifeEnd}
use Rattle.commit_lock.specs.Lives.{EachLife, IsLife}
use Rattle.commit_lock.proofs.living_endless.endless_lives.Given as goal

abbrev pub invariant-loop-life : goal.invariant-loop-life
invariant-loop-life l =
    (more : List LifeEnd) → EachLife (IsLife l.plan.value) l.file.items l.life-iterator.rest.items more
    → EachLife (IsLife l.plan.value) l.initial.file.items l.initial.life-iterator.rest.items (l.ends.items ++ more)
