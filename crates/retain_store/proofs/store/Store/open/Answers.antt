use Rattle.std.proofs.Common.{◌-◌, ◌≡◌, List, ℕ, take, arith, refl, sym, ap, subst, ◌∙◌}
use Rattle.retain_store.specs.declared.shape.TheConstants.{FILE_BYTES}
use Rattle.disk.specs.Runs.{at_rest}
use Rattle.retain_store.specs.Recovered.{recovered}
use Rattle.retain_store.specs.Areas.{IsZeros}
use Rattle.retain_store.specs.Opening.{IsLeftByOpening, IsOfFile}
use Rattle.retain_store.proofs.Formats.{left_same}
use Rattle.retain_store.proofs.Keeps.{kept_opened}
use Rattle.retain_store.proofs.store.Store.open.Goals as goal

pub recover-requires-clause-zeros : goal.recover-requires-clause-zeros
recover-requires-clause-zeros g c =
    subst (λ (l : List ℕ). IsZeros (FILE_BYTES - 1) (take (FILE_BYTES - 1) l)) (sym c.deref_mut.ensures.value)
    c.in-Ok.ensures.zeros

pub returns-in-Err-clause-any_moment : goal.returns-in-Err-clause-any_moment
returns-in-Err-clause-any_moment g c = λ tells only.
    at_rest g.D.Disk.left_since g.D.Disk.may_leave _ (g.D.Disk.seen c.args.disk)
    (IsLeftByOpening (g.D.Disk.seen c.args.disk))
    (λ file left. g.met.D.Disk.only_now c.args.disk file tells left) only (left_same _ _ refl)

pub invariant_of-result : goal.invariant_of-result
invariant_of-result g c = (
  kept_opened g.D.Disk.tells _ _ c.in-Ok-recover.areas _ _ (omega (arith, c.in-Ok.ensures.frame))
      (omega (arith, c.in-Ok.ensures.frame, c.requires.room)) c.in-Ok-recover.ensures.at_rest,
  c.in-Ok-recover.ensures.sound,
)

pub returns-in-Ok-recover-clause-at_rest : goal.returns-in-Ok-recover-clause-at_rest
returns-in-Ok-recover-clause-at_rest g c = λ tells file may.
    let at_rest = c.in-Ok-recover.ensures.at_rest tells in
    ap recovered (at_rest.synced file may) ∙ at_rest.surveyed.last_is

pub returns-clause-faults : goal.returns-clause-faults
returns-clause-faults g c =
    let of_file = c.in-Err-recover.ensures.faults in
    record {
      of_opening = (λ is. subst IsOfFile is of_file, λ is. subst IsOfFile is of_file);
      before_calls = λ is. absurd (subst IsOfFile is of_file);
    }
