use Rattle.std.proofs.Common.{inr, length}
use Rattle.disk.specs.Simulated.{succeeds, has_room}
use Rattle.disk.proofs.SimLemmas.{ok_of, reliable_works, reliable_counted, reliable_write, room_found}
use Rattle.disk.proofs.SimLemmas.{on_err, seen_write, follows_write, counts_write, widens_write, widens_or_keeps_write}
use Rattle.disk.proofs.sim_disk.SimDiskDisk.TheImpl.Goals as goal

pub write_at-tells : goal.write_at-tells
write_at-tells c = record {
  works = λ room serving within. rw c.ensures.answer (ok_of (succeeds c.args.self.now)
      (has_room c.args.self.now c.args.at (length c.args.bytes.now)) tt (reliable_works c.args.self.now room serving)
      (room_found c.args.self.now room c.args.at (length c.args.bytes.now) serving within));
  serves = λ room serving. rw c.ensures.after
      (reliable_counted c.result _ room (reliable_write c.args.self.now c.args.at c.args.bytes.now room serving));
  seen = λ _. rw (c.ensures.after, c.ensures.answer) (seen_write c.args.self.now c.args.at c.args.bytes.now);
  stop = λ _. rw c.ensures.after (follows_write c.args.self.now c.args.at c.args.bytes.now);
  widens = λ _. rw (c.ensures.after, c.ensures.answer)
      (widens_write c.args.self.now c.args.at c.args.bytes.now c.ensures.appended);
  widens_or_keeps = λ _. rw c.ensures.after
      (on_err c.result _ (widens_or_keeps_write c.args.self.now c.args.at c.args.bytes.now c.ensures.appended));
  past = λ _ then file left. inr left;
  count = rw (c.ensures.after, c.ensures.answer) (counts_write c.args.self.now c.args.at c.args.bytes.now);
}
