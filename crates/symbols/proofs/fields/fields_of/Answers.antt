use Rattle.std.proofs.Common.{rules, refl}
use Rattle.symbols.specs.Found.{found}
use Rattle.symbols.proofs.FieldLemmas.{field_added}
use Rattle.symbols.proofs.fields.fields_of.Goals as goal

pub loop-field-preserved : goal.loop-field-preserved
loop-field-preserved c q =
    field_added c.args.fields.now c.loop-field.field-index c.field-item.result q (found c.loop-field.index q)
    (found c.add.new.self q) _ (search rules) c.field-item.is (c.loop-field.invariant q) (c.in_ok-add.ensures.added q)
    refl
