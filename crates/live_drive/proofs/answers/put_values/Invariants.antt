use Rattle.std.proofs.Common.{◌≡◌, ◌++◌, drop}
use Rattle.live_drive.specs.AnswerLines.{value_fields}
use Rattle.live_drive.proofs.answers.put_values.Given as goal

abbrev pub invariant-loop-place : goal.invariant-loop-place
invariant-loop-place l = l.line.items ++ value_fields l.values (drop l.place-index l.outputs)
    ≡ l.initial.line.items ++ value_fields l.values l.outputs
