use Rattle.std.proofs.Common.{◌≡◌, ◌≤◌, ◌-◌, length, []}
use Rattle.st_meaning.specs.Failures.{in_runs}
use Rattle.machine_code.specs.Machine.{exec}
use Rattle.machine_code.specs.Tracking.{tracking, tracked}
use Rattle.slot_machine.proofs.machine.run.Given as goal

-- the run from here on is the whole run
abbrev pub invariant-loop-i : goal.invariant-loop-i
invariant-loop-i l = record {
  place : l.place ≤ length l.code;
  goes_on : exec tracking in_runs l.now l.code (l.limit - l.i) l.place l.stack (tracked l.values l.marks) l.ticks
      ≡ exec tracking in_runs l.now l.code l.limit (length l.code) [] (tracked l.fn.values l.fn.marks) l.budget;
}
