use Rattle.ready_list.specs.Ready.{IsFirst}
use Rattle.ready_list.proofs.order.first_of.Given as goal

abbrev pub invariant-loop-program : goal.invariant-loop-program
invariant-loop-program l = IsFirst l.schedules l.states l.resource l.program l.first
