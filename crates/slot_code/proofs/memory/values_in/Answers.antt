use Rattle.std.proofs.Common.{rules, ◌≡◌, ◌++◌, ◌∷◌, []}
use Rattle.slot_code.proofs.Named.{one_further, take_all}
use Rattle.slot_code.proofs.memory.values_in.Goals as goal
