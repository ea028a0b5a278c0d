use Rattle.std.proofs.Common.{◌≡◌, ◌++◌, ℕ, List, drop}
use Rattle.st_meaning.specs.Layouts.{steps_text}
use Rattle.trace.specs.Puts.{Puts}
use Rattle.trace.proofs.lines.put_steps.Given as goal

abbrev pub invariant-loop-step : goal.invariant-loop-step
invariant-loop-step g l =
    (text : List ℕ) × Puts (g.W.Write.contents l.initial.out) l.initial.works (g.W.Write.contents l.out) l.works text
    × (text ++ steps_text (drop l.step-index l.steps) ≡ steps_text l.steps)
