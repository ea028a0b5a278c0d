use Rattle.std.proofs.Common.{refl}
use Rattle.st_types.specs.Initials.{elements_of}
use Rattle.st_types.specs.InitialViews.{element_view}
use Rattle.st_rules.specs.InitialRules.{wrong_counts}
use Rattle.st_rules.proofs.CollectLemmas.{search_starts}
use Rattle.st_check.proofs.LoopLemmas.{part_goes_on, parts_end}
use Rattle.st_check.proofs.initials.wrong_counts.Goals as goal

pub loop-element-init : goal.loop-element-init
loop-element-init c = search_starts _ _ _ refl

pub loop-element-preserved : goal.loop-element-preserved
loop-element-preserved c =
    part_goes_on (λ xs. wrong_counts (elements_of xs)) element_view c.args.elements.now c.loop-element.element-index _ _
    _
    _ _ _ c.loop-element-test.true c.element-item.is refl c.loop-element.invariant c.wrong_count.ensures

pub returns : goal.returns
returns c =
    parts_end (λ xs. wrong_counts (elements_of xs)) element_view c.args.elements.now c.loop-element.element-index _ _ _
    c.loop-element-test.false refl c.loop-element.invariant
