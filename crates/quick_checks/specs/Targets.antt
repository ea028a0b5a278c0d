-- The instructions of straight-line code.
use Rattle.std.specs.Prelude.{ℕ, Option, Some, None}
use Rattle.quick_code.specs.declared.quick_instr.QuickInstr.{QuickInstr}
use Rattle.quick_code.specs.declared.quick_instr.QuickInstr.TheVariants.{Move, Set, MoveWithin, Select, Clock, AddInt}
use Rattle.quick_code.specs.declared.quick_instr.QuickInstr.TheVariants.{AddDint, AddLint, AddIntBy, AddDintBy}
use Rattle.quick_code.specs.declared.quick_instr.QuickInstr.TheVariants.{AddLintBy, SubtractInt, SubtractDint}
use Rattle.quick_code.specs.declared.quick_instr.QuickInstr.TheVariants.{SubtractLint, MultiplyInt, MultiplyDint}
use Rattle.quick_code.specs.declared.quick_instr.QuickInstr.TheVariants.{MultiplyLint, MultiplyDintBy, DivideInt}
use Rattle.quick_code.specs.declared.quick_instr.QuickInstr.TheVariants.{DivideDint, DivideLint, DivideBy, Modulo}
use Rattle.quick_code.specs.declared.quick_instr.QuickInstr.TheVariants.{ModuloBy, And, AndBy, Or, Xor, XorBy}
use Rattle.quick_code.specs.declared.quick_instr.QuickInstr.TheVariants.{ShiftRight, Equal, NotEqual, Less, AtMost}

-- the word that an instruction assigns, if it is one of those that do nothing else
abbrev pub target : QuickInstr → Option ℕ
target (Move from to) = Some to
target (Set k to) = Some to
target (MoveWithin from least greatest to) = Some to
target (Select x y z to) = Some to
target (Clock to) = Some to
target (AddInt l r to) = Some to
target (AddDint l r to) = Some to
target (AddLint l r to) = Some to
target (AddIntBy l r to) = Some to
target (AddDintBy l r to) = Some to
target (AddLintBy l r to) = Some to
target (SubtractInt l r to) = Some to
target (SubtractDint l r to) = Some to
target (SubtractLint l r to) = Some to
target (MultiplyInt l r to) = Some to
target (MultiplyDint l r to) = Some to
target (MultiplyLint l r to) = Some to
target (MultiplyDintBy l r to) = Some to
target (DivideInt l r to) = Some to
target (DivideDint l r to) = Some to
target (DivideLint l r to) = Some to
target (DivideBy l r to) = Some to
target (Modulo l r to) = Some to
target (ModuloBy l r to) = Some to
target (And l r to) = Some to
target (AndBy l r to) = Some to
target (Or l r to) = Some to
target (Xor l r to) = Some to
target (XorBy l r to) = Some to
target (ShiftRight l r to) = Some to
target (Equal l r to) = Some to
target (NotEqual l r to) = Some to
target (Less l r to) = Some to
target (AtMost l r to) = Some to
target _ = None
