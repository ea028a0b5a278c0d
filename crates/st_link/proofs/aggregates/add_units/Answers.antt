use Rattle.std.proofs.Common.{◌≡◌, ap, ◌∙◌, ◌+◌, map, drop, if◌then◌else◌, Some}
use Rattle.st_types.specs.UnitViews.{unit_view}
use Rattle.st_meaning.specs.NameTypes.{unit_named}
use Rattle.st_link.proofs.aggregates.add_units.Goals as goal
use Rattle.st_types.proofs.ListLemmas.{drop_next}

pub loop-unit-preserved : goal.loop-unit-preserved
loop-unit-preserved c =
    let h = c.loop-unit.invariant in
    let rest = map (λ t. unit_view t.now) (drop (c.loop-unit.unit-index + 1) c.args.units.now) in
    record {
      serves = λ text serves. c.in_ok-add_aggregate.ensures.serves text (h.serves text serves);
      known = λ text serves knows.
          c.in_ok-add_aggregate.ensures.known text (h.serves text serves) (h.known text serves knows);
      kept = λ x none.
          let here = c.in_ok-add_aggregate.ensures.kept x none in let before = h.kept x here.0 in (
            before.0,
            λ others.
                before.1 (ap (λ ts. unit_named (map (λ t. unit_view t.now) ts) x)
                (drop_next c.args.units.now c.loop-unit.unit-index c.unit-item.result c.loop-unit-test.true
                c.unit-item.is)
                ∙ ap (λ b. if b then Some (unit_view c.unit-item.result.now) else unit_named rest x) here.1 ∙ others),
          );
    }
