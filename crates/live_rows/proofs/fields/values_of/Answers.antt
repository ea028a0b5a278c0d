use Rattle.std.proofs.Common.{◌<◌, ◌∙◌, ◌++◌, sym, ap, length, arith, rules, Some}
use Rattle.image.specs.Plants.{spelled_values}
use Rattle.image.proofs.RowLemmas.{held_more}
use Rattle.live_rows.specs.RowLines.{fields_after}
use Rattle.live_rows.proofs.RowLineLemmas.{fields_after-some, fields_after-none, fields_after-many}
use Rattle.live_rows.proofs.ValueLemmas.{value_more, left_over, next_spells}
use Rattle.live_rows.proofs.fields.values_of.Goals as goal

pub returns-in_default-rest-clause-none : goal.returns-in_default-rest-clause-none
returns-in_default-rest-clause-none c = λ err values all same.
    let inv = c.loop-input.invariant in
    let rest = c.loop-input.rest.now in
    let none = fields_after-none rest c.in_default-rest.len_below in
    let left = left_over c.args.inputs.now c.loop-input.input-index c.loop-input.image.items values
    (fields_after c.args.fields.now) (fields_after rest) (omega arith) inv.held all inv.fields same in
    absurd (omega arith)

pub returns-in_default-value_of-clause-none : goal.returns-in_default-value_of-clause-none
returns-in_default-value_of-clause-none c = λ err values all same.
    let inv = c.loop-input.invariant in
    let rest = c.loop-input.rest.now in
    let items = c.loop-input.image.items in
    let cut = fields_after-some rest (omega arith) ∙ c.first_and_others.ensures in
    let found = next_spells c.args.inputs.now c.loop-input.input-index c.input-item.result items values
    c.first_and_others.result.0.now (fields_after c.first_and_others.result.1.now) (omega arith) c.input-item.is
    inv.held all (ap (λ fs. spelled_values items ++ fs) (sym cut) ∙ sym inv.fields ∙ same) in
    c.in_default-value_of.ensures.none found.0 found.1

pub loop-input-preserved : goal.loop-input-preserved
loop-input-preserved c =
    let inv = c.loop-input.invariant in
    let rest = c.loop-input.rest.now in
    let items = c.loop-input.image.items in
    let field = c.first_and_others.result.0.now in
    let cut = fields_after-some rest (omega arith) ∙ c.first_and_others.ensures in
    let spelled = c.in-Some.ensures.spelled in
    let pushed = c.in_ok-push.ensures.items in
    record {
      fields = rw pushed (value_more (fields_after c.args.fields.now) items c.in-Some.value field (fields_after rest)
          (fields_after c.first_and_others.result.1.now) inv.fields cut spelled.2);
      held = rw pushed (held_more c.args.inputs.now items c.loop-input.input-index c.input-item.result c.in-Some.value
          (Some field) inv.held (omega arith) c.input-item.is spelled);
    }

pub returns-then-not-is_empty-clause-none : goal.returns-then-not-is_empty-clause-none
returns-then-not-is_empty-clause-none c = λ err values all same.
    let inv = c.loop-input.invariant in
    let rest = c.loop-input.rest.now in
    let some : 0 < length rest = search rules in
    let many = fields_after-many rest some in
    let left = left_over c.args.inputs.now c.loop-input.input-index c.loop-input.image.items values
    (fields_after c.args.fields.now) (fields_after rest) (omega arith) inv.held all inv.fields same in
    absurd (omega arith)
