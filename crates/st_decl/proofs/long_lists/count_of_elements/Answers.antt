use Rattle.std.proofs.Common.{ap, arith}
use Rattle.st_types.specs.Initials.{elements_of}
use Rattle.st_types.specs.InitialViews.{element_view}
use Rattle.st_types.proofs.ListLemmas.{map_drop_next}
use Rattle.st_rules.specs.InitialRules.{count_of_elements}
use Rattle.st_decl.proofs.long_lists.count_of_elements.Goals as goal

pub overflow_add-count : goal.overflow_add-count
overflow_add-count c =
    let many = c.loop-element.invariant.1 in
    let small = c.count_of-count.ensures.small in
    omega arith

pub loop-element-preserved : goal.loop-element-preserved
loop-element-preserved c =
    let next = ap (λ ys. count_of_elements (elements_of ys))
    (map_drop_next element_view c.args.elements.now c.loop-element.element-index c.element-item.result
    c.loop-element-test.true c.element-item.is) in
    let whole = c.loop-element.invariant.0 in
    let many = c.loop-element.invariant.1 in
    let value = c.count_of-count.ensures.value in
    let small = c.count_of-count.ensures.small in
    (omega (arith, next), omega arith)
