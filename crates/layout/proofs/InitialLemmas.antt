-- Values of literals in the terms of runs.
use Rattle.std.proofs.Common.{◌≡◌, Ok, Err}
use Rattle.std.specs.Prelude.{Result}
use Rattle.st_types.specs.Values.{Datum}
use Rattle.st_meaning.specs.Failures.{Failure, run_result}

pub ran_ok : (r : Result Datum Failure) (v : Datum) → run_result r ≡ Ok v → r ≡ Ok v
ran_ok (Ok w) v h = cc
ran_ok (Err e) v h = absurd (cc)
