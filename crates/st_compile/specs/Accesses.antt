-- The instructions for a variable.
use Rattle.std.specs.Prelude.{ℕ}
use Rattle.machine_code.specs.declared.instr.Instr.{Instr}
use Rattle.machine_code.specs.declared.instr.Instr.TheVariants as instrs
use Rattle.st_compile.specs.declared.access.Access.{Access}
use Rattle.st_compile.specs.declared.access.Access.TheVariants.{Load, Store}

-- if its slot is known
abbrev pub known_instr : Access → ℕ → Instr
known_instr Load = instrs.Load
known_instr Store = instrs.Store

-- if subscripts lead to its slot
abbrev pub led_instr : Access → Instr
led_instr Load = instrs.LoadAt
led_instr Store = instrs.StoreAt
