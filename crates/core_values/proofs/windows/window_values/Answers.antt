use Rattle.std.proofs.Common.{rules, ◌≡◌, ◌++◌, ◌∷◌, []}
use Rattle.slot_code.proofs.Named.{one_further, take_all}
use Rattle.core_values.proofs.windows.window_values.Goals as goal
