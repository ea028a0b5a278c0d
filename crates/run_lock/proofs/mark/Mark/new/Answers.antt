use Rattle.std.proofs.Common.{rules}
use Rattle.run_lock.proofs.Moves.{begins, splits}
use Rattle.run_lock.proofs.mark.Mark.new.Goals as goal

pub of_words-requires : goal.of_words-requires
of_words-requires c = begins

pub split_seat-other-requires : goal.split_seat-other-requires
split_seat-other-requires c = (search rules, search rules, splits _ _)
