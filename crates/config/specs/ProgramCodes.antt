-- The code of a program of a text.
use Rattle.std.specs.Prelude.{◌≡◌, ℕ, ◌+◌, length, map}
use Rattle.st_types.specs.Sources.{Source}
use Rattle.layout.specs.TextLayouts.{slots_of_text}
use Rattle.slot_trees.specs.SlotTrees.{SlotStmts}
use Rattle.slot_trees.specs.TextLinks.{LinkedText}
use Rattle.machine_code.specs.Programs.{program_code, ProgramFits}
use Rattle.slot_code.specs.Codes.{CodeView}

-- The code is that of a linked body over the text's layout, with calls of this depth; its types are those of the layout, and
-- the program fits its memory.
pub record IsCodeOf (source : Source) (linked : LinkedText) (body : SlotStmts) (depth : ℕ)
    (code : CodeView) : Type 0 where
  pub instrs : code.instrs ≡ program_code linked.library 0 (length (slots_of_text source)) body depth
  pub kinds : code.kinds ≡ map (λ l. l.kind) (slots_of_text source)
  pub fits : ProgramFits (length (slots_of_text source) + code.extra) linked.library 0
      (length (slots_of_text source)) body depth
