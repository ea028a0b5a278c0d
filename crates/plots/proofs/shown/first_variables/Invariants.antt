use Rattle.std.proofs.Common.{◌≡◌, vec_len}
use Rattle.plots.proofs.shown.first_variables.Given as goal

abbrev pub invariant-loop-number : goal.invariant-loop-number
invariant-loop-number l = vec_len l.shown ≡ l.number
