use Rattle.std.specs.contracts.alloc.Global
use denote.Exit.{no}
use denote.Param.Send.{IsSend, arg_send, param_send, sendable}
use Rattle.std.proofs.Crossing.{crosses}
use Rattle.plc_threads.proofs.Crossing.{five-send}
use Rattle.source_run.proofs.LiveCrossing.{lines-send, shared_newest-send, shared_plan-send}
use Rattle.source_run.proofs.living.start_reader.Goals as goal

pub spawn-requires-send-F : goal.spawn-requires-send-F
spawn-requires-send-F g c = λ κs within.
    let heap : IsSend Global.the_row = search (sendable, crosses) depth 20 in
    param_send _ _ (arg_send _ no _
    (five-send _ _ _ _ _ _ c.type_bounds.send-R heap (lines-send _ g.I.Read c.type_bounds.send-I) shared_plan-send
    shared_newest-send))
