use Rattle.std.proofs.Common.{refl, lit<, lit≤}
use Rattle.machine_code.specs.Machine.{runs}
use Rattle.machine_code.specs.Calls.{units_code}
use Rattle.machine_code.specs.Fitting.{CallFitsWithin}
use Rattle.machine_code.specs.Programs.{program_code}
use Rattle.machine_code.proofs.examples.a_compiled_program.Goals as goal

pub returns-clause-fits : goal.returns-clause-fits
unfolding CallFitsWithin
returns-clause-fits c = record {
  numbered = lit≤ tt;
  room = lit≤ tt;
  body_fits = (
    ((lit< tt, ((lit< tt, tt), tt)), ((lit< tt, tt), tt)),
    (
      (lit≤ tt, (lit< tt, tt, tt)),
      ((lit< tt, tt, tt, tt, (((lit< tt, tt), ((lit< tt, tt), (lit< tt, ((lit< tt, tt), tt)))), tt)), tt),
    ),
  );
}

pub returns-clause-run : goal.returns-clause-run
unfolding runs program_code units_code
returns-clause-run c = refl

pub returns-clause-fault : goal.returns-clause-fault
unfolding runs program_code units_code
returns-clause-fault c = refl
