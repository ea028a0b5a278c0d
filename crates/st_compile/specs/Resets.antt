-- The slots that code resets: those of the values of functions.
use Rattle.std.specs.Prelude.{ℕ, suc, List, [], ◌∷◌, max}
use Rattle.machine_code.specs.declared.instr.Instr.{Instr}
use Rattle.machine_code.specs.declared.instr.Instr.TheVariants.{StoreRaw}
use Rattle.machine_code.specs.Growing.{Code}

-- the slot after the one that an instruction resets, or the first of all
abbrev pub slot_after_reset : Instr → ℕ
slot_after_reset (StoreRaw k) = suc k
slot_after_reset _ = 0

-- the slot after all that are reset
abbrev pub slot_after_resets : Code → ℕ
slot_after_resets [] = 0
slot_after_resets (i ∷ is) = max (slot_after_reset i) (slot_after_resets is)
