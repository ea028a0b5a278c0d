use Rattle.std.proofs.Common.{refl}
use Rattle.slot_run.proofs.InputLemmas.{left_out}
use Rattle.slot_run.proofs.laws.writes_to_inputs_change_no_variable.Goals as goal

pub returns : goal.returns
returns c = λ layout vs writes. left_out layout writes vs vs refl refl
