use Rattle.std.specs.contracts.alloc.Global
use denote.Builtin.{usize}
use denote.Exit.{no}
use denote.Param.{param}
use denote.Param.Send.{IsSend, arg_send, param_send, sendable, shr_send}
use Rattle.std.proofs.Crossing.{crosses}
use Rattle.std.below.core.proofs.ledger.Share.TheSendSync as ShareSend
use Rattle.plc_threads.proofs.Crossing.{mark-sync, pace-send, shared-sync, five-send, six-send}
use Rattle.plc_threads.proofs.crew.run_crew.Goals as goal

pub spawn-requires-send-F : goal.spawn-requires-send-F
spawn-requires-send-F g c κs within =
    let b = c.type_bounds in
    let shared = shared-sync _ _ g.J.Run g.D.Disk g.J.Ledger b.send-J b.send-D in
    let number : IsSend usize = search sendable depth 20 in
    param_send _ _ (arg_send _ no _
    (five-send _ _ _ _ _ _ (shr_send _ _ _ b.sync-R) (shr_send _ _ _ shared) (shr_send _ _ _ mark-sync) number pace-send))

pub spawn-requires-in-loop-resource-send-F : goal.spawn-requires-in-loop-resource-send-F
spawn-requires-in-loop-resource-send-F g c κs within =
    let b = c.type_bounds in
    let shared = shared-sync _ _ g.J.Run g.D.Disk g.J.Ledger b.send-J b.send-D in
    let heap : IsSend Global.the_row = search (sendable, crosses) depth 20 in
    let number : IsSend usize = search sendable depth 20 in
    param_send _ _ (arg_send _ no _
    (six-send _ _ _ _ _ _ _ (shr_send _ _ _ b.sync-R) heap (shr_send _ _ _ shared) (shr_send _ _ _ b.sync-G) number
    (ShareSend.the_send (param 0 g.row.J) g.J.Ledger)))
