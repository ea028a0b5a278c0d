use Rattle.std.proofs.Common.{inl, inr, ⊎_elim, ◌∙◌}
use Rattle.disk.specs.Runs.{weakens, joins}
use Rattle.retain_store.proofs.area.write_frame.Goals as goal

pub returns-in_err-fill-in-Open-clause-any_moment : goal.returns-in_err-fill-in-Open-clause-any_moment
returns-in_err-fill-in-Open-clause-any_moment g c = λ tells content spells.
    let closed = weakens g.D.Disk.left_since g.D.Disk.may_leave _ _ _ _ (c.close.ensures.any_moment tells)
    (λ file same. inl same) in
    joins g.D.Disk.left_since g.D.Disk.may_leave _ _ _ _ _ closed (c.fill.ensures.any_moment tells content spells)
    (λ file. ⊎_elim (λ before. inl (before ∙ (c.in_ok-close-in-Open.ensures.closed tells).same)) inr)

pub returns-in_ok-fill-in-Open-clause-any_moment : goal.returns-in_ok-fill-in-Open-clause-any_moment
returns-in_ok-fill-in-Open-clause-any_moment g c = λ tells content spells.
    let closed = weakens g.D.Disk.left_since g.D.Disk.may_leave _ _ _ _ (c.close.ensures.any_moment tells)
    (λ file same. inl same) in
    joins g.D.Disk.left_since g.D.Disk.may_leave _ _ _ _ _ closed (c.fill.ensures.any_moment tells content spells)
    (λ file. ⊎_elim (λ before. inl (before ∙ (c.in_ok-close-in-Open.ensures.closed tells).same)) inr)
