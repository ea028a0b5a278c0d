-- Code, from its end on.
use Rattle.std.specs.Prelude.{List, [], ◌∷◌, ◌++◌, length, ℕ, slice_set}
use Rattle.machine_code.specs.declared.instr.Instr.{Instr}
use Rattle.machine_code.specs.declared.instr.Instr.TheVariants.{LoopBack}

abbrev pub Code : Type 0
Code = List Instr

-- one more instruction before the others
infixl 20 ◌◂◌
abbrev pub ◌◂◌ : Code → Instr → Code
◌◂◌ c i = c ++ i ∷ []

-- the jump back that a loop's code began with leads to the present first instruction
abbrev pub closed : ℕ → Code → Code
closed at c = slice_set c at (LoopBack (length c))
