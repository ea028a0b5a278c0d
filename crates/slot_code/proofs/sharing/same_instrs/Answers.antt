use Rattle.std.proofs.Common.{rules}
use Rattle.slot_code.proofs.Comparing.{one_further}
use Rattle.slot_code.proofs.sharing.same_instrs.Goals as goal

pub loop-i-preserved : goal.loop-i-preserved
loop-i-preserved c = (
  c.loop-i.invariant.0,
  one_further c.args.these.now c.args.those.now c.loop-i.i c.instr_at-this.result c.instr_at-that.result
      (search rules) c.loop-i.invariant.0 c.instr_at-this.ensures c.instr_at-that.ensures
      (c.if-not-is_same.ensures (search rules)) c.loop-i.invariant.1,
)
