use Rattle.std.proofs.Common.{◌≡◌, rules, map, length, take, drop, ◌∙◌}
use Rattle.machine_code.specs.Tracking.{tracked, are_read}
use Rattle.slot_code.specs.Codes.{code_view}
use Rattle.slot_memory.specs.Cells.{cell_view, picked, writes_left}
use Rattle.slot_run.specs.Runs.{memory_over}
use Rattle.slot_memory.proofs.PickedLemmas.{take_front}
use Rattle.slot_run.proofs.TrueLemmas.{begins, begins_long, is_long, outcome_is, reads_is, writes_is}
use Rattle.slot_run.proofs.runner.run_values.Goals as goal

pub returns : goal.returns
returns c =
    let code = code_view c.args.code.now in
    let now = c.args.moment in
    let us = c.args.slots.now in
    let budget = c.args.budget in
    let begun = tracked c.deref_mut.result.now c.deref_mut-2.result.now in
    let n = tracked c.end_of.new.memory c.end_of.new.marks in
    let o = c.in_ok-outcome.outcome in
    let reads = map cell_view c.in_ok-reads.reads.items in
    let writes = map cell_view c.in_ok-writes.writes.items in
    let memory_is : c.deref_mut.result.now ≡ memory_over us code.extra = search rules in
    let starts = begins us c.deref_mut.result.now code.extra c.deref_mut-2.result.now memory_is (search rules) in
    let ends = c.in_ok-outcome.ensures in
    let kept : length n.values ≡ c.in_ok-memory.memory.len = search rules in
    let marks_kept : length n.marks ≡ c.in_ok-marks.marks.len = search rules in
    let values_are : c.deref-2.result.now ≡ n.values = c.deref-2.ensures.value
    ∙ take_front n.values (drop (length n.values) c.in_ok-memory.memory.items) c.in_ok-memory.memory.len kept in
    let marks_are : c.deref.result.now ≡ n.marks = c.deref.ensures.value
    ∙ take_front n.marks (drop (length n.marks) c.in_ok-marks.marks.items) c.in_ok-marks.marks.len marks_kept in
    let marks_too : c.deref-3.result.now ≡ n.marks = c.deref-3.ensures.value
    ∙ take_front n.marks (drop (length n.marks) c.in_ok-marks.marks.items) c.in_ok-marks.marks.len marks_kept in
    let reads_are : reads ≡ picked (are_read n.marks) 0 us = rw marks_are at c.in_ok-reads.ensures in
    let writes_are : writes ≡ writes_left o (take (length us) n.values) n.marks =
    rw (values_are, marks_too) at c.in_ok-writes.ensures in
    let long = begins_long us c.deref_mut.result.now code.extra (length n.values) memory_is (search rules) in
    record {
      ran = record {
        reads = reads_is code now us budget o n begun reads writes starts ends reads_are writes_are;
        writes = writes_is code now us budget o n begun reads writes starts ends reads_are writes_are;
        outcome = outcome_is code now us budget o n begun reads writes starts ends reads_are writes_are;
      };
      long = is_long code now us budget o n begun reads writes starts ends reads_are writes_are long;
    }
