use Rattle.std.proofs.Common.{◌≡◌, None, Some, false, refl}
use Rattle.st_types.specs.Kinds.{holds}
use Rattle.st_types.specs.Values.{Datum}
use Rattle.st_meaning.specs.Evaluation.{known}
use Rattle.machine_code.proofs.Asks.{reads_are_asked}
use Rattle.machine_code.proofs.machine_laws.what_is_read_is_asked_for.Goals as goal

no_value : (w : Datum) → holds w.kind w.number ≡ false → known (Some w) ≡ None
no_value w e = rw e refl

pub returns : goal.returns
returns c = λ t u now code p m budget k v w long unread none at kind out only read.
    reads_are_asked t u now code p m budget k v w long unread none at kind (no_value w out) only read
