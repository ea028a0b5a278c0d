use Rattle.std.proofs.Common.{◌≡◌, refl, ap, ◌∙◌}
use Rattle.st_rules.specs.Containment.{is_too_deep, row}
use Rattle.st_rules.proofs.CollectLemmas.{search_starts, loop_goes_on, loop_ends}
use Rattle.st_decl.specs.Walks.{is_deep}
use Rattle.st_decl.proofs.too_deep.deep_arrays.Goals as goal

pub loop-array-init : goal.loop-array-init
loop-array-init c text judged = search_starts _ _ _ refl

pub loop-array-preserved : goal.loop-array-preserved
loop-array-preserved c text judged =
    let part = row c.array-item.result.now.element in
    let deep : c.is_deep-deep.result ≡ is_too_deep text part =
    c.is_deep-deep.ensures ∙ ap (is_deep c.args.marks.now) c.link_of.ensures ∙ judged.deep part in
    let one = rw deep at c.add_in_case.ensures in
    loop_goes_on _ _ _ _ _ _ _ _ _ c.loop-array-test.true c.array-item.is (c.loop-array.invariant text judged) one.adds
    one.covers

pub returns : goal.returns
returns c text judged = loop_ends _ _ _ _ _ _ _ c.loop-array-test.false (c.loop-array.invariant text judged)
