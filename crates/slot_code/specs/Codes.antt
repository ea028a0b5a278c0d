-- Code as a value.
use Rattle.std.specs.Prelude.{ℕ, List}
use Rattle.st_types.specs.declared.kind.Kind.{Kind}
use Rattle.machine_code.specs.declared.instr.Instr.{Instr}
use Rattle.slot_code.specs.declared.code.Code.{Code}

-- its instructions, the types of the slots that it runs over, and how many values its memory has after them
pub record CodeView : Type 0 where
  pub instrs : List Instr
  pub kinds : List Kind
  pub extra : ℕ

abbrev pub code_view : Code → CodeView
code_view code =
    record { instrs = code.instrs.value.items; kinds = code.kinds.value.items; extra = code.extra }
