use Rattle.std.proofs.Common.{◌+◌, [], sym, subst, arith}
use Rattle.retain_store.specs.Recovered.{Recovered}
use Rattle.durable_core.specs.Restart.{Survives}
use Rattle.durable_core.proofs.StartLemmas.{save_writes_or_stays}
use Rattle.durable_core.proofs.SurvivalLemmas.{survives_now}
use Rattle.durable_core.specs.Endless.{first_state}
use Rattle.durable_core.proofs.EndlessLemmas.{first_life}
use Rattle.durable_core.proofs.starting.saved_first.Goals as goal

pub returns-in-Err-clause-unwritten : goal.returns-in-Err-clause-unwritten
returns-in-Err-clause-unwritten g c =
    rw c.into_disk.ensures.disk (save_writes_or_stays c.args.mode c.args.parts.engine.plan c.in-Err.fault _ c.args.store
    c.save_first.new.store c.in-Err.ensures.unsaved c.in-Err.ensures.refused c.requires.fresh c.requires.last
    c.requires.saves)

pub invariant_of-core : goal.invariant_of-core
invariant_of-core g c =
    let engine = c.args.parts.engine in
    let state = first_state engine in
    let last = c.in-Ok.ensures.saved in
    let now = subst (λ (r : Recovered). Survives state.plan state.start state.before [] 0 r) (sym last.last_is)
    (survives_now state 0 (c.args.store.generation + 1) (omega arith)) in
    let life = first_life c.args.mode engine c.save_first.new.store c.requires.new c.requires.start c.requires.early now
    last.tried_is last.working (omega (arith, last.room_is, c.requires.room, state.plan.sound.limits.record_is)) in
    record {
      life = (engine.values, [], life);
      room_is = omega (arith, c.requires.kept, c.in-Ok.ensures.kept);
    }

pub returns-clause-life : goal.returns-clause-life
returns-clause-life g c =
    let engine = c.args.parts.engine in
    let state = first_state engine in
    let last = c.in-Ok.ensures.saved in
    let now = subst (λ (r : Recovered). Survives state.plan state.start state.before [] 0 r) (sym last.last_is)
    (survives_now state 0 (c.args.store.generation + 1) (omega arith)) in
    let life = first_life c.args.mode engine c.save_first.new.store c.requires.new c.requires.start c.requires.early now
    last.tried_is last.working (omega (arith, last.room_is, c.requires.room, state.plan.sound.limits.record_is)) in
    life

pub returns-clause-survives : goal.returns-clause-survives
returns-clause-survives g c = λ tells file left.
    let engine = c.args.parts.engine in
    let state = first_state engine in
    let last = c.in-Ok.ensures.saved in
    let now = subst (λ (r : Recovered). Survives state.plan state.start state.before [] 0 r) (sym last.last_is)
    (survives_now state 0 (c.args.store.generation + 1) (omega arith)) in
    let life = first_life c.args.mode engine c.save_first.new.store c.requires.new c.requires.start c.requires.early now
    last.tried_is last.working (omega (arith, last.room_is, c.requires.room, state.plan.sound.limits.record_is)) in
    c.kept.ensures.survives tells file left engine.values [] life
