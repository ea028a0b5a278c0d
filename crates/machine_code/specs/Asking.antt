-- Slots that a run asks for, and how it ends if their value is not there.
use Rattle.std.specs.Prelude.{◌≡◌, ℕ, ◌+◌, ◌==◌, nat_le, nat_lt, List, length, Bool, false, ◌&&◌}
use Rattle.std.specs.List.{list_any}
use Rattle.st_types.specs.declared.fault.Fault.{Fault}
use Rattle.st_meaning.specs.StandardBlocks.{members_of}
use Rattle.symbols.specs.Standard.{block_view}
use Rattle.machine_code.specs.declared.instr.Instr.{Instr}
use Rattle.machine_code.specs.declared.instr.Instr.TheVariants.{LoadRaw, Step, ForTest, ForStep}
use Rattle.machine_code.specs.Machine.{Ending, finished, failed}

-- The instruction takes the slot's value as it is, whether its type holds it or not: the value that a call copies from an
-- instance, one that a standard block reads of its own, and the control variable of a FOR. That isn't a look-up.
abbrev pub takes_as_it_is : ℕ → Instr → Bool
takes_as_it_is k (LoadRaw j) = j == k
takes_as_it_is k (Step block j) = nat_le j k && nat_lt k (j + length (members_of (block_view block)))
takes_as_it_is k (ForTest j to) = j == k
takes_as_it_is k (ForStep j to) = j == k
takes_as_it_is k _ = false

-- no instruction of the code does so
abbrev pub IsOnlyLookedUp : List Instr → ℕ → Type 0
IsOnlyLookedUp code k = list_any (takes_as_it_is k) code ≡ false

-- the run ended with this fault
abbrev pub FailsWith : {M : Type 0} → Fault → Ending M → Type 0
FailsWith f (failed m g) = g ≡ f
FailsWith f (finished m b) = ⊥
