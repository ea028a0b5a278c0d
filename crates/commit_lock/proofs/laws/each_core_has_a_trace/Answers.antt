use Rattle.std.proofs.Common.{refl}
use Rattle.commit_lock.proofs.laws.each_core_has_a_trace.Goals as goal

pub returns : goal.returns
returns g c = λ behind. record {
  started = c.kept.ensures.started;
  early = c.kept.ensures.early;
  few = c.kept.ensures.room;
  legal = c.kept.ensures.legal;
  behind = behind;
  rows_are = refl;
  spelled = refl;
}
