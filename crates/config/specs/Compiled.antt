-- Programs of which code is made, apart from its size.
use Rattle.std.specs.Prelude.{ℕ, List, [], ◌∷◌}
use Rattle.slot_trees.specs.LibraryViews.{KeptLibrary}
use Rattle.slot_trees.specs.SlotTrees.{SlotStmts}
use Rattle.st_compile.specs.Linked.{ProgramLinked}

-- each over this number of slots, with calls at most 64 deep
abbrev pub AreCompiled : KeptLibrary → ℕ → List SlotStmts → Type 0
AreCompiled library size [] = Unit {0}
AreCompiled library size (body ∷ bodies) = ProgramLinked library 0 size body 64 × AreCompiled library size bodies
