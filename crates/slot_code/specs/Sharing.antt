-- Quick code that programs may share.
use Rattle.std.specs.Prelude.{◌≡◌}
use Rattle.slot_code.specs.declared.parts.QuickParts.{QuickParts}

-- They are the same code, with the same constants and as many words.
pub record AreSameCode (p q : QuickParts) : Type 0 where
  pub instrs : p.code.instrs.items ≡ q.code.instrs.items
  pub ways : p.code.ways.items ≡ q.code.ways.items
  pub constants : p.constants.items ≡ q.constants.items
  pub words : p.words ≡ q.words
