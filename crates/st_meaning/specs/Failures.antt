-- Why a part of a text gives nothing, and the fault that its run ends with.
use Rattle.std.specs.Prelude.{Option, Some, None, Result, Ok, Err}
use Rattle.st_types.specs.declared.fault.Fault.{Fault}
use Rattle.st_types.specs.declared.fault.Fault.TheVariants.{Index, Conversion}

-- a fault of the run, or a failure that no well-typed text meets: a name without a value, and a type, a name or a number of
-- parts that is wrong
pub data Failure : Type 0 where
  fails : Fault → Failure
  valueless : Failure
  ill_typed : Failure

-- the faults for failures that no well-typed text meets: for a name without a value, and for any other wrong text
pub record StuckFaults : Type 0 where
  pub missing : Fault
  pub wrong : Fault

abbrev pub fault_for : StuckFaults → Failure → Fault
fault_for stuck_faults (fails f) = f
fault_for stuck_faults valueless = stuck_faults.missing
fault_for stuck_faults ill_typed = stuck_faults.wrong

-- the faults that runs end with: F3 for a name without a value, F4 for any other wrong text
abbrev pub in_runs : StuckFaults
in_runs = record { missing = Index; wrong = Conversion }

-- the same with another fault for a name without a value, and for a wrong text
abbrev pub with_missing : Fault → StuckFaults
with_missing f = record { missing = f; wrong = in_runs.wrong }

abbrev pub with_wrong : Fault → StuckFaults
with_wrong f = record { missing = in_runs.missing; wrong = f }

abbrev pub failing : {A : Type 0} → Result A Fault → Result A Failure
failing (Ok a) = Ok a
failing (Err f) = Err (fails f)

-- the value, or the failure if there is none
abbrev pub or_failure : {A : Type 0} → Failure → Option A → Result A Failure
or_failure e (Some a) = Ok a
or_failure e None = Err e

-- the result of a run, with its fault in place of the failure
abbrev pub run_result : {A : Type 0} → Result A Failure → Result A Fault
run_result (Ok a) = Ok a
run_result (Err e) = Err (fault_for in_runs e)
