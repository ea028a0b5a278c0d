use Rattle.std.proofs.Common.{refl}
use Rattle.st_rules.proofs.CollectLemmas.{search_starts, loop_goes_on, loop_ends}
use Rattle.st_check.proofs.initials.wrong_starts_of.Goals as goal

pub loop-start-init : goal.loop-start-init
loop-start-init c text names tables fields = search_starts _ _ _ refl

pub loop-start-preserved : goal.loop-start-preserved
loop-start-preserved c text names tables fields =
    let one = c.wrong_start.ensures text names tables fields in
    loop_goes_on _ _ _ _ _ _ _ _ _ c.loop-start-test.true c.start-item.is
    (c.loop-start.invariant text names tables fields) one.adds one.covers

pub returns : goal.returns
returns c text names tables fields = loop_ends _ _ _ _ _ _ _ c.loop-start-test.false
    (c.loop-start.invariant text names tables fields)
