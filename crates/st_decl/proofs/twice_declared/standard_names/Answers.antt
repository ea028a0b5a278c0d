use Rattle.std.proofs.Common.{refl}
use Rattle.st_rules.proofs.CollectLemmas.{search_starts, loop_goes_on, loop_ends}
use Rattle.st_decl.proofs.twice_declared.standard_names.Goals as goal

pub loop-name-init : goal.loop-name-init
loop-name-init c = search_starts _ _ _ refl

pub loop-name-preserved : goal.loop-name-preserved
loop-name-preserved c =
    let one = rw c.is_standard.ensures at c.add_in_case.ensures in
    loop_goes_on _ _ _ _ _ _ _ _ _ c.loop-name-test.true c.name-item.is c.loop-name.invariant one.adds one.covers

pub returns : goal.returns
returns c = loop_ends _ _ _ _ _ _ _ c.loop-name-test.false c.loop-name.invariant
