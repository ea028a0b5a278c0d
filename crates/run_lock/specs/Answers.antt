-- A worker's counts of its answers.
use Rattle.std.specs.Prelude.{ℕ, ◌+◌, min, Option, Some, None, Result, Ok, Err}
use Rattle.core_engine.specs.declared.refusal.Answer.{Answer}
use Rattle.core_engine.specs.declared.refusal.Answer.TheVariants.{Committed, Stale}
use Rattle.durable_core.specs.declared.refusal.Refusal.{Refusal}

-- how many executions an answer reports
abbrev pub committed_by : Result Answer Refusal → ℕ
committed_by (Ok (Committed n)) = 1
committed_by (Ok Stale) = 0
committed_by (Err refusal) = 0

-- the same for a commit in one step
abbrev pub committed_here : Result (Option ℕ) Refusal → ℕ
committed_here (Ok (Some n)) = 1
committed_here (Ok None) = 0
committed_here (Err refusal) = 0

-- the count of stale answers, which stays at the greatest number
abbrev pub stale_after : ℕ → Result Answer Refusal → ℕ
stale_after stale (Ok (Committed n)) = stale
stale_after stale (Ok Stale) = min (stale + 1) 18446744073709551615
stale_after stale (Err refusal) = stale
