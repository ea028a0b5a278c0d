use Rattle.std.proofs.Common.{inl}
use Rattle.disk.specs.Runs.{weakens, joins}
use Rattle.retain_store.proofs.Steps.{behind, opening_second, saved_now}
use Rattle.retain_store.proofs.area.fill.Goals as goal

pub returns-in_err-write_after_gate-clause-any_moment : goal.returns-in_err-write_after_gate-clause-any_moment
returns-in_err-write_after_gate-clause-any_moment g c = λ tells content spells.
    weakens g.D.Disk.left_since g.D.Disk.may_leave _ _ _ _ (c.write_after_gate.ensures.any_moment tells)
    (λ file torn. inl (behind c.args.at c.requires.half (g.D.Disk.seen c.args.disk.now) (c.requires.ready tells).spare _
    file (c.requires.frame.short) torn (c.requires.shut tells)))

pub returns-in_err-write_synced-clause-any_moment : goal.returns-in_err-write_synced-clause-any_moment
returns-in_err-write_synced-clause-any_moment g c = λ tells content spells.
    let torn = weakens g.D.Disk.left_since g.D.Disk.may_leave _ _ _ _ (c.write_after_gate.ensures.any_moment tells)
    (λ file torn. inl (behind c.args.at c.requires.half (g.D.Disk.seen c.args.disk.now) (c.requires.ready tells).spare _
    file (c.requires.frame.short) torn (c.requires.shut tells))) in
    joins g.D.Disk.left_since g.D.Disk.may_leave _ _ _ _ _ torn (c.write_synced.ensures.any_moment tells)
    (λ file torn. opening_second c.args.generation c.args.at c.requires.half (g.D.Disk.seen c.args.disk.now)
    (c.requires.ready tells) c.args.frame.now content c.requires.frame spells (c.requires.shut tells) _
    (c.in_ok-write_after_gate.ensures.written tells) file torn)

pub returns-clause-any_moment : goal.returns-clause-any_moment
returns-clause-any_moment g c = λ tells content spells.
    let torn = weakens g.D.Disk.left_since g.D.Disk.may_leave _ _ _ _ (c.write_after_gate.ensures.any_moment tells)
    (λ file torn. inl (behind c.args.at c.requires.half (g.D.Disk.seen c.args.disk.now) (c.requires.ready tells).spare _
    file (c.requires.frame.short) torn (c.requires.shut tells))) in
    joins g.D.Disk.left_since g.D.Disk.may_leave _ _ _ _ _ torn (c.write_synced.ensures.any_moment tells)
    (λ file torn. opening_second c.args.generation c.args.at c.requires.half (g.D.Disk.seen c.args.disk.now)
    (c.requires.ready tells) c.args.frame.now content c.requires.frame spells (c.requires.shut tells) _
    (c.in_ok-write_after_gate.ensures.written tells) file torn)

pub returns-clause-saved : goal.returns-clause-saved
returns-clause-saved g c = λ tells content spells.
    saved_now c.args.generation c.args.at c.requires.half (g.D.Disk.seen c.args.disk.now) (c.requires.ready tells)
    c.args.frame.now content c.requires.frame spells (c.requires.shut tells) _
    (c.in_ok-write_after_gate.ensures.written tells) _ (c.in_ok-write_synced.ensures.written tells)
