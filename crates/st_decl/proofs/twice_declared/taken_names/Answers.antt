use Rattle.std.proofs.Common.{refl}
use Rattle.st_rules.proofs.CollectLemmas.{search_starts, loop_goes_on, loop_ends}
use Rattle.st_decl.proofs.twice_declared.taken_names.Goals as goal

pub loop-variable-init : goal.loop-variable-init
loop-variable-init c names found = search_starts _ _ _ refl

pub loop-variable-preserved : goal.loop-variable-preserved
loop-variable-preserved c names found =
    let one = c.taken_name.ensures names found in
    loop_goes_on _ _ _ _ _ _ _ _ _ c.loop-variable-test.true c.variable-item.is (c.loop-variable.invariant names found)
    one.adds one.covers

pub returns : goal.returns
returns c names found = loop_ends _ _ _ _ _ _ _ c.loop-variable-test.false (c.loop-variable.invariant names found)
