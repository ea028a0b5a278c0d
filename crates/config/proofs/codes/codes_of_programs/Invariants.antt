use Rattle.std.proofs.Common.{map, take}
use Rattle.slot_trees.specs.SlotTrees.{SlotLibrary}
use Rattle.slot_trees.specs.LibraryViews.{IsKeptOf, slot_library_view}
use Rattle.slot_trees.specs.StatementViews.{slot_stmts_view}
use Rattle.slot_code.specs.Codes.{code_view}
use Rattle.config.specs.Codes.{AreCodesOver}
use Rattle.config.proofs.codes.codes_of_programs.Given as goal

abbrev pub invariant-loop-body : goal.invariant-loop-body
invariant-loop-body l =
    (whole : SlotLibrary) → IsKeptOf (slot_library_view l.library) whole
    → AreCodesOver whole l.kinds.value.items
    (map (λ b. slot_stmts_view b.items) (take l.body-index l.programs))
    (map code_view l.codes.items)
