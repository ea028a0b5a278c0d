use Rattle.std.proofs.Common.{◌≡◌, ◌++◌, drop}
use Rattle.live_drive.specs.AnswerLines.{name_fields}
use Rattle.live_drive.proofs.answers.put_names.Given as goal

abbrev pub invariant-loop-place : goal.invariant-loop-place
invariant-loop-place l = l.line.items ++ name_fields l.variables (drop l.place-index l.outputs)
    ≡ l.initial.line.items ++ name_fields l.variables l.outputs
