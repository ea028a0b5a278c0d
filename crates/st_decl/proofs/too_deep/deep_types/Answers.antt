use Rattle.std.proofs.Common.{refl}
use Rattle.st_types.specs.DeclarationViews.{type_declaration_view}
use Rattle.st_rules.proofs.CollectLemmas.{search_starts, loop_goes_on, loop_ends}
use Rattle.st_decl.proofs.JudgeLemmas.{none_cycles}
use Rattle.st_decl.proofs.too_deep.deep_types.Goals as goal

pub loop-declaration-init : goal.loop-declaration-init
loop-declaration-init c text judged = search_starts _ _ _ refl

pub loop-declaration-preserved : goal.loop-declaration-preserved
loop-declaration-preserved c text judged =
    let one = none_cycles text _ _ (type_declaration_view c.declaration-item.result.now).name.name _ _ _ judged
    (rw (c.is_deep_name-deep.ensures text judged) at c.add_in_case.ensures) in
    loop_goes_on _ _ _ _ _ _ _ _ _ c.loop-declaration-test.true c.declaration-item.is
    (c.loop-declaration.invariant text judged) one.adds one.covers

pub returns : goal.returns
returns c text judged =
    loop_ends _ _ _ _ _ _ _ c.loop-declaration-test.false (c.loop-declaration.invariant text judged)
