-- The demands of a function on a call.
use Rattle.std.specs.Prelude.{◌≡◌, ℕ, ◌<◌, length}
use Rattle.slot_trees.specs.SlotTrees.{SlotFunction}
use Rattle.machine_code.specs.Fitting.{AllBelow}

-- it takes this number of arguments, and its inputs and its result are among its values
abbrev pub HasSignature : SlotFunction → ℕ → Type 0
HasSignature f count =
    (count ≡ length f.inputs) × AllBelow (length f.fresh) f.inputs × (f.result < length f.fresh)
