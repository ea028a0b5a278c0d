use Rattle.std.proofs.Common.{◌≡◌, map, take}
use Rattle.trace_segments.proofs.parsing.values_lines.Given as goal

abbrev pub invariant-loop-variable : goal.invariant-loop-variable
invariant-loop-variable l = map (λ d. d.kind) l.values.items
    ≡ map (λ v. v.initial.kind) (take l.variable-index l.plan.variables.items)
