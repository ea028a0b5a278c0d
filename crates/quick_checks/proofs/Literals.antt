-- Values of literals.
use Rattle.std.proofs.Common.{◌≡◌}
use Rattle.std.specs.Prelude.{Result, Ok, Err}
use Rattle.st_types.specs.Values.{Datum}
use Rattle.st_meaning.specs.Failures.{Failure, run_result}

pub value_is : (r : Result Datum Failure) (v : Datum) → run_result r ≡ Ok v → r ≡ Ok v
value_is (Ok x) v e = cc
value_is (Err x) v e = absurd (cc)
