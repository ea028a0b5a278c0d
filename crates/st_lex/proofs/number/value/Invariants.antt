use Rattle.std.proofs.Common.{◌≡◌, length, ◌<◌, ◌^◌}
use Rattle.st_lex.specs.Numbers.{value_from, below}
use Rattle.st_lex.proofs.number.value.Given as goal

abbrev pub invariant-loop-rest : goal.invariant-loop-rest
invariant-loop-rest l = record {
  fits : l.value < 2 ^ 64;
  told : below (2 ^ 64) (value_from l.base l.value l.rest) ≡ below (2 ^ 64) (value_from l.base 0 l.digits);
}

abbrev pub decreases-loop-rest : goal.decreases-loop-rest
decreases-loop-rest l = length l.rest
