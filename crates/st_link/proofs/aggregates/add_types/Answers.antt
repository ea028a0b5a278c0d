use Rattle.std.proofs.Common.{◌≡◌, ap, ◌∙◌, ◌+◌, map, drop, if◌then◌else◌, Some}
use Rattle.st_types.specs.DeclarationViews.{type_declaration_view}
use Rattle.st_meaning.specs.NameTypes.{type_named}
use Rattle.st_link.proofs.aggregates.add_types.Goals as goal
use Rattle.st_types.proofs.ListLemmas.{drop_next}

pub loop-declaration-preserved : goal.loop-declaration-preserved
loop-declaration-preserved c =
    let h = c.loop-declaration.invariant in
    let rest = map (λ t. type_declaration_view t.now) (drop (c.loop-declaration.declaration-index + 1)
    c.args.types.now) in
    record {
      serves = λ text serves. c.in_ok-add_aggregate.ensures.serves text (h.serves text serves);
      known = λ text serves knows.
          c.in_ok-add_aggregate.ensures.known text (h.serves text serves) (h.known text serves knows);
      kept = λ x none.
          let here = c.in_ok-add_aggregate.ensures.kept x none in let before = h.kept x here.0 in (
            before.0,
            λ others.
                before.1 (ap (λ ts. type_named (map (λ t. type_declaration_view t.now) ts) x)
                (drop_next c.args.types.now c.loop-declaration.declaration-index c.declaration-item.result
                c.loop-declaration-test.true c.declaration-item.is)
                ∙ ap (λ b. if b then Some (type_declaration_view c.declaration-item.result.now).definition else
                type_named rest x) here.1 ∙ others),
          );
    }
