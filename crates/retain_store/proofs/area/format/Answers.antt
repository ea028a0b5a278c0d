use Rattle.std.proofs.Common.{◌-◌, ◌∙◌, ap, subst, sym, List, ℕ, [], ◌∷◌}
use Rattle.retain_store.specs.declared.shape.TheConstants.{FILE_BYTES}
use Rattle.disk.specs.Disk.{Torn, overwritten}
use Rattle.retain_store.specs.Areas.{IsZeros}
use Rattle.disk.specs.Runs.{weakens, joins}
use Rattle.retain_store.proofs.Formats.{torn_zeros, second_is, third_is, zeros_third, torn_last}
use Rattle.retain_store.proofs.area.format.Goals as goal

pub returns-in_err-write_synced-clause-any_moment : goal.returns-in_err-write_synced-clause-any_moment
returns-in_err-write_synced-clause-any_moment g c = λ tells.
    weakens g.D.Disk.left_since g.D.Disk.may_leave _ _ _ _ (c.write_synced.ensures.any_moment tells)
    (torn_zeros _ _ (c.requires.short tells) c.requires.zeros)

pub returns-in_err-write_synced-2-clause-any_moment : goal.returns-in_err-write_synced-2-clause-any_moment
returns-in_err-write_synced-2-clause-any_moment g c = λ tells.
    let first = weakens g.D.Disk.left_since g.D.Disk.may_leave _ _ _ _ (c.write_synced.ensures.any_moment tells)
    (torn_zeros _ _ (c.requires.short tells) c.requires.zeros) in
    joins g.D.Disk.left_since g.D.Disk.may_leave _ _ _ _ _ first (c.write_synced-2.ensures.any_moment tells)
    (λ file torn.
    torn_last c.args.zeros.now file c.requires.zeros (subst (λ (f : List ℕ). Torn (FILE_BYTES - 1) 1 f file)
    (c.in_ok-write_synced.ensures.written tells ∙ second_is _ _ (c.requires.short tells) c.requires.zeros) torn))

pub returns-clause-any_moment : goal.returns-clause-any_moment
returns-clause-any_moment g c = λ tells.
    let first = weakens g.D.Disk.left_since g.D.Disk.may_leave _ _ _ _ (c.write_synced.ensures.any_moment tells)
    (torn_zeros _ _ (c.requires.short tells) c.requires.zeros) in
    joins g.D.Disk.left_since g.D.Disk.may_leave _ _ _ _ _ first (c.write_synced-2.ensures.any_moment tells)
    (λ file torn.
    torn_last c.args.zeros.now file c.requires.zeros (subst (λ (f : List ℕ). Torn (FILE_BYTES - 1) 1 f file)
    (c.in_ok-write_synced.ensures.written tells ∙ second_is _ _ (c.requires.short tells) c.requires.zeros) torn))

pub returns-clause-zeros : goal.returns-clause-zeros
returns-clause-zeros g c = λ tells.
    let second = c.in_ok-write_synced.ensures.written tells ∙ second_is _ _ (c.requires.short tells) c.requires.zeros in
    let third = c.in_ok-write_synced-2.ensures.written tells
    ∙ ap (λ (f : List ℕ). overwritten f (FILE_BYTES - 1) (0 ∷ [])) second
    ∙ third_is c.args.zeros.now c.requires.zeros in
    subst (IsZeros FILE_BYTES) (sym third) (zeros_third c.args.zeros.now c.requires.zeros)
