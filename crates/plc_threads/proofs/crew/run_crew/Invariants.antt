use Rattle.std.proofs.Common.{◌≡◌, ◌+◌, ◌≤◌, vec_len}
use Rattle.std.specs.Prelude.{vec_capacity}
use Rattle.std.specs.Vec.Iter.{into_iter_len}
use Rattle.plc_threads.specs.Reports.{committed_in}
use Rattle.plc_threads.proofs.crew.run_crew.Given as goal

abbrev pub invariant-loop-resource : goal.invariant-loop-resource
invariant-loop-resource g l =
    (l.rest.parts + l.resource ≡ l.resources + 1) × (l.rest.amount ≡ 0)
    × (vec_len l.handles ≤ l.resource) × (l.resources ≤ vec_capacity l.handles)

abbrev pub invariant-loop-handle : goal.invariant-loop-handle
invariant-loop-handle g l =
    (l.rest.parts ≡ vec_len l.told + 1) × (l.rest.amount ≡ committed_in l.told.items)
    × (vec_len l.told + into_iter_len l.handle-iterator ≤ l.resources) × (l.resources ≤ vec_capacity l.told)
