use Rattle.std.proofs.Common.{◌≡◌, ◌++◌, ℕ, List, drop}
use Rattle.std.specs.Io.KnownBytes.{Appends}
use Rattle.st_meaning.specs.Layouts.{steps_text}
use Rattle.st_print.proofs.path.write_steps.Given as goal

abbrev pub invariant-loop-step : goal.invariant-loop-step
invariant-loop-step g l =
    (text : List ℕ) × Appends (g.W.Write.contents l.initial.out) (g.W.Write.contents l.out) text
    × (text ++ steps_text (drop l.step-index l.steps) ≡ steps_text l.steps)
