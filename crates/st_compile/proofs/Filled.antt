-- The units that are kept of a library are unchanged, with the others filled in.
use Rattle.std.proofs.Common.{◌≡◌, ℕ, Some, option_map, ap, ◌∙◌}
use Rattle.std.specs.Prelude.{slice_get}
use Rattle.std.proofs.lemmas.Option.{slice_get-map}
use Rattle.slot_trees.specs.LibraryViews.{KeptLibrary}
use Rattle.slot_trees.specs.SlotTrees.{SlotFunction, SlotStmts}
use Rattle.st_compile.specs.Emitting.{or_unfit_function, or_unfit_body, filled}

pub filled_function : (kept : KeptLibrary) (i : ℕ) (f : SlotFunction) → slice_get kept.functions i ≡ Some (Some f)
    → slice_get (filled kept).functions i ≡ Some f
filled_function kept i f at = slice_get-map or_unfit_function kept.functions i ∙ ap (option_map or_unfit_function) at

pub filled_body : (kept : KeptLibrary) (i : ℕ) (b : SlotStmts) → slice_get kept.blocks i ≡ Some (Some b)
    → slice_get (filled kept).blocks i ≡ Some b
filled_body kept i b at = slice_get-map or_unfit_body kept.blocks i ∙ ap (option_map or_unfit_body) at
