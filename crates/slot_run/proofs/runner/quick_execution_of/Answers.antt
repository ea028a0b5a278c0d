use Rattle.std.proofs.Common.{map, length, rules}
use Rattle.slot_code.specs.Codes.{code_view}
use Rattle.slot_code.specs.Windows.{window_of}
use Rattle.quick_trees.specs.Windows.{IsWindow}
use Rattle.slot_code.proofs.Filled.{filled, filled_in, filled_typed}
use Rattle.slot_memory.specs.Cells.{cell_view}
use Rattle.slot_run.proofs.TrueLemmas.{told_is_true}
use Rattle.slot_run.proofs.runner.quick_execution_of.Goals as goal

pub new-requires : goal.new-requires
new-requires c =
    let s = c.args.quick in
    let code = code_view s.code.value in
    let window = window_of s.code.value in
    let is_window : IsWindow (length code.kinds) window = search rules in
    let slots = filled code.kinds window s.values.items is_window s.typed in
    let kinds = filled_typed code.kinds window s.values.items is_window s.typed in
    let is_in = filled_in code.kinds window s.values.items is_window s.typed in
    let ran = c.args.ran in
    let did = c.requires.ran slots kinds is_in in
    told_is_true code s.moment slots s.budget (map cell_view ran.reads.items) (map cell_view ran.writes.items) ran.outcome kinds
    (c.requires.long slots kinds is_in) did.reads did.writes did.outcome
