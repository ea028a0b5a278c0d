use Rattle.std.proofs.Common.{[], arith}
use Rattle.durable_core.specs.declared.starting.StartMode.TheVariants.{Warm}
use Rattle.durable_core.proofs.EndlessLemmas.{first_life}
use Rattle.durable_core.proofs.starting.gone_on.Goals as goal

pub invariant_of-core : goal.invariant_of-core
invariant_of-core g c =
    let engine = c.args.parts.engine in
    let life = first_life Warm engine c.args.store c.requires.new c.requires.start c.requires.early c.requires.survives
    c.requires.tried c.requires.fresh (omega (arith, c.requires.room, engine.plan.sound.limits.record_is)) in
    record { life = (engine.values, [], life); room_is = c.requires.kept }

pub returns-clause-life : goal.returns-clause-life
returns-clause-life g c =
    let engine = c.args.parts.engine in
    let life = first_life Warm engine c.args.store c.requires.new c.requires.start c.requires.early c.requires.survives
    c.requires.tried c.requires.fresh (omega (arith, c.requires.room, engine.plan.sound.limits.record_is)) in
    life

pub returns-clause-survives : goal.returns-clause-survives
returns-clause-survives g c = λ tells file left.
    let engine = c.args.parts.engine in
    let life = first_life Warm engine c.args.store c.requires.new c.requires.start c.requires.early c.requires.survives
    c.requires.tried c.requires.fresh (omega (arith, c.requires.room, engine.plan.sound.limits.record_is)) in
    c.kept.ensures.survives tells file left engine.values [] life
