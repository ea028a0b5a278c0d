use Rattle.std.proofs.Common.{map, rules}
use Rattle.slot_code.specs.Codes.{code_view}
use Rattle.slot_memory.specs.Cells.{cell_view}
use Rattle.slot_run.proofs.TrueLemmas.{told_is_true}
use Rattle.slot_run.proofs.runner.execution_of.Goals as goal

pub new-requires : goal.new-requires
new-requires c =
    let s = c.args.snapshot in
    let ran = c.args.ran in
    told_is_true (code_view s.code.value) s.moment s.slots.items s.budget (map cell_view ran.reads.items)
    (map cell_view ran.writes.items) ran.outcome (search rules) c.requires.long c.requires.ran.reads c.requires.ran.writes
    c.requires.ran.outcome
