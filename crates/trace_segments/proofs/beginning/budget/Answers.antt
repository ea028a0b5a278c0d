use Rattle.std.proofs.Common.{◌≤◌, ◌++◌, ◌∷◌, [], ℕ}
use Rattle.std.specs.Prelude.{codes}
use Rattle.std.specs.Fmt.{decimal}
use Rattle.st_types.specs.declared.limits.TheConstants.{MAX_BUDGET}
use Rattle.trace.proofs.ReadLemmas.{begins_not}
use Rattle.trace_segments.proofs.beginning.budget.Goals as goal

pub returns-in_err-field : goal.returns-in_err-field
returns-in_err-field c =
    rw c.from_residual.ensures (begins_not (λ (n : ℕ). (1 ≤ n) × (n ≤ MAX_BUDGET)) (λ n. decimal n ++ 10 ∷ [])
    c.args.text.now (codes "trace 2\nbudget ") c.in_err-field.ensures)
