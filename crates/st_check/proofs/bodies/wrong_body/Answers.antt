use Rattle.std.proofs.Common.{refl}
use Rattle.st_types.specs.UnitViews.{unit_view}
use Rattle.st_types.proofs.OptionLemmas.{ok_weaker}
use Rattle.st_rules.specs.Rules.{environment}
use Rattle.st_rules.proofs.CollectLemmas.{adds_more, adds_nothing, covers_less}
use Rattle.st_check.proofs.PassLemmas.{passes_among, among_passes}
use Rattle.st_check.proofs.bodies.wrong_body.Goals as goal

pub returns-in_err-names-clause-adds : goal.returns-in_err-names-clause-adds
returns-in_err-names-clause-adds c text serves = adds_nothing _ _

pub returns-clause-adds : goal.returns-clause-adds
returns-clause-adds c text serves =
    let env = environment text (unit_view c.args.unit.now) in
    adds_more _ _ _ _ (passes_among env)
    (rw c.deref.ensures.value at (c.wrong_passes.ensures.adds env (c.in_ok-names.ensures env serves refl)))

pub returns-clause-covers : goal.returns-clause-covers
returns-clause-covers c =
    ok_weaker c.wrong_passes.result _ _ (λ done h text serves.
    let env = environment text (unit_view c.args.unit.now) in
    covers_less _ _ c.wrong_passes.new.broken (among_passes env)
    (rw c.deref.ensures.value at (h env (c.in_ok-names.ensures env serves refl)))) c.wrong_passes.ensures.covers
