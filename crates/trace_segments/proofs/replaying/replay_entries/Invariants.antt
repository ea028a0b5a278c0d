use Rattle.std.proofs.Common.{◌≤◌}
use Rattle.trace_segments.proofs.RunLemmas.{IsAhead}
use Rattle.trace_segments.proofs.replaying.replay_entries.Given as goal

abbrev pub invariant-loop-entries : goal.invariant-loop-entries
invariant-loop-entries g l = IsAhead l.fn.position l.now l.fn.text l.rest l.entries l.rows l.faults
    × (l.rows ≤ l.entries) × (l.faults ≤ l.entries)
