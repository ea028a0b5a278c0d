use Rattle.std.proofs.Common.{◌≡◌, ◌-◌, ◌^◌, ℕ, List, min, sum}
use Rattle.commit_lock.proofs.FindingLemmas.{AreOverruns}
use Rattle.commit_lock.proofs.findings.overruns.Given as goal

abbrev pub invariant-loop-program : goal.invariant-loop-program
invariant-loop-program l =
    (each : List ℕ) × AreOverruns l.core l.program each × (l.overruns ≡ min (sum each) (2 ^ 64 - 1))
