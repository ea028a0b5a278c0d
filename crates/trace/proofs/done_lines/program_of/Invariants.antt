use Rattle.std.proofs.Common.{◌≡◌, ◌<◌, ◌++◌, ℕ, List, Some, slice_get}
use Rattle.std.specs.Prelude.{codes}
use Rattle.plan.specs.declared.task.ProgramInstance.{ProgramInstance}
use Rattle.trace.specs.Texts.{instance_text}
use Rattle.trace.proofs.done_lines.program_of.Given as goal

abbrev pub invariant-loop-i : goal.invariant-loop-i
invariant-loop-i l = (k : ℕ) (q : ProgramInstance) (rest : List ℕ) → k < l.i → slice_get l.programs k ≡ Some q
    → l.text ≡ (instance_text (Some q) ++ codes " ") ++ rest → ⊥
