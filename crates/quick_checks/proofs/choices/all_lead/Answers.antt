use Rattle.std.proofs.Common.{rules, ◌≡◌, ◌+◌}
use Rattle.std.specs.Prelude.{Some, slice_get}
use Rattle.quick_code.specs.declared.quick_code.Way.{Way}
use Rattle.quick_checks.proofs.Below.{one_more}
use Rattle.quick_checks.proofs.choices.all_lead.Goals as goal

pub loop-index-preserved : goal.loop-index-preserved
loop-index-preserved c = one_more (λ j. (v : Way) → slice_get c.args.choices.now j ≡ Some c.args.arm
    → slice_get c.args.draft.now.code.ways.items (c.args.table.now.first + j) ≡ Some v → v ≡ c.args.way) _
    c.loop-index.invariant (c.if-not-leads_so.ensures (search rules))
