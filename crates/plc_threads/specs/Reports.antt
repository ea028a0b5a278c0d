-- The answers that the workers of a run got in all.
use Rattle.std.specs.Prelude.{◌≡◌, ℕ, ◌+◌, List, length, sum_by}
use Rattle.plc_threads.specs.declared.report.AnswerCounts.{AnswerCounts}

-- how often they got Committed
abbrev pub committed_in : List AnswerCounts → ℕ
committed_in told = sum_by (λ t. t.committed) told

-- The worker of each resource has reported its numbers, and these parts and this amount are those of all shares: one
-- part for each worker, and one more.
pub record AreJoined (resources parts amount : ℕ) (told : List AnswerCounts) : Type 0 where
  pub parts_are : parts ≡ resources + 1
  pub counted : amount ≡ committed_in told
  pub each : length told ≡ resources
