use Rattle.std.proofs.Common.{refl}
use Rattle.st_rules.proofs.CollectLemmas.{search_starts}
use Rattle.st_check.proofs.TargetLemmas.{selection_goes_on, selections_end}
use Rattle.st_check.proofs.selections.wrong_selectors.Goals as goal

pub loop-selector-init : goal.loop-selector-init
loop-selector-init c text tables = search_starts _ _ _ refl

pub loop-selector-preserved : goal.loop-selector-preserved
loop-selector-preserved c text tables =
    selection_goes_on text c.args.place _ _ c.args.selectors.now c.loop-selector.selector-index c.selector-item.result _
    _
    _ _ c.loop-selector-test.true c.selector-item.is (c.select-found.ensures.selected text tables)
    (c.loop-selector.invariant text tables) (c.select-found.ensures.broken text tables)

pub returns : goal.returns
returns c text tables =
    selections_end text c.args.place _ c.args.selectors.now c.loop-selector.selector-index _ _ _
    c.loop-selector-test.false (c.loop-selector.invariant text tables)
