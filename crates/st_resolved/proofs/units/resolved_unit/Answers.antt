use Rattle.std.proofs.Common.{refl, map}
use Rattle.st_types.specs.DeclarationViews.{variable_block_view}
use Rattle.st_types.specs.StatementViews.{stmt_view}
use Rattle.st_types.specs.UnitViews.{unit_view}
use Rattle.st_rules.specs.Environments.{Environment}
use Rattle.st_resolved.proofs.UnitLemmas.{unit_resolved}
use Rattle.st_resolved.proofs.units.resolved_unit.Goals as goal

pub returns : goal.returns
returns c text tables fields =
    let u = c.args.unit.now in
    let env : Environment = record { text = text; unit = unit_view u } in
    let serves = c.in_ok-names.ensures env tables refl in
    unit_resolved text (unit_view u) c.in_ok-copied_sort.field-0 c.in_ok-copied.field-0
    (map variable_block_view c.in_ok-resolved_blocks.field-0.items) (map stmt_view c.in_ok-body.body.items)
    c.in_ok-copied_sort.ensures c.in_ok-copied.ensures
    (rw c.deref-2.ensures.value at (c.in_ok-resolved_blocks.ensures text tables fields))
    (rw c.deref.ensures.value at (c.in_ok-body.ensures env serves))
