use Rattle.std.proofs.Common.{refl}
use Rattle.st_types.specs.UnitViews.{unit_view}
use Rattle.st_rules.proofs.CollectLemmas.{search_starts, loop_goes_on, loop_ends}
use Rattle.st_decl.proofs.JudgeLemmas.{none_cycles}
use Rattle.st_decl.proofs.too_deep.deep_units.Goals as goal

pub loop-unit-init : goal.loop-unit-init
loop-unit-init c text judged = search_starts _ _ _ refl

pub loop-unit-preserved : goal.loop-unit-preserved
loop-unit-preserved c text judged =
    let one = none_cycles text _ _ (unit_view c.unit-item.result.now).name.name _ _ _ judged
    (rw (c.is_wrong_unit-wrong.ensures text judged) at c.add_in_case.ensures) in
    loop_goes_on _ _ _ _ _ _ _ _ _ c.loop-unit-test.true c.unit-item.is (c.loop-unit.invariant text judged) one.adds
    one.covers

pub returns : goal.returns
returns c text judged = loop_ends _ _ _ _ _ _ _ c.loop-unit-test.false (c.loop-unit.invariant text judged)
