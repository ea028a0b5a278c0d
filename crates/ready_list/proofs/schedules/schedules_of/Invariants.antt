use Rattle.std.proofs.Common.{◌≡◌, map, take}
use Rattle.ready_list.specs.Schedules.{code_schedule}
use Rattle.ready_list.proofs.schedules.schedules_of.Given as goal

abbrev pub invariant-loop-program : goal.invariant-loop-program
invariant-loop-program l = l.schedules.items ≡ map (code_schedule l.tasks) (take l.program-index l.programs)
