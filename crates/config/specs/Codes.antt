-- The codes of a text's programs.
use Rattle.std.specs.Prelude.{◌≡◌, ℕ, ◌+◌, List, [], ◌∷◌, length, Option, Some, slice_get}
use Rattle.st_types.specs.declared.kind.Kind.{Kind}
use Rattle.st_types.specs.Sources.{Source}
use Rattle.st_meaning.specs.Runs.{Program}
use Rattle.st_meaning.specs.Slots.{Slot}
use Rattle.layout.specs.Libraries.{programs_of_text}
use Rattle.layout.specs.TextLayouts.{slots_of_text}
use Rattle.slot_trees.specs.SlotTrees.{SlotLibrary, SlotStmts}
use Rattle.machine_code.specs.Programs.{program_code, ProgramFits}
use Rattle.slot_code.specs.Codes.{CodeView}
use Rattle.slot_code.specs.Meanings.{Means}
use Rattle.slot_code.specs.Reads.{ReadsAsAsked}

-- The code is that of a linked body over slots of these types, with calls at most 64 deep, and the program fits its
-- memory.
pub record IsCodeOver (library : SlotLibrary) (types : List Kind) (body : SlotStmts) (code : CodeView) : Type 0 where
  pub instrs : code.instrs ≡ program_code library 0 (length types) body 64
  pub kinds : code.kinds ≡ types
  pub fits : ProgramFits (length types + code.extra) library 0 (length types) body 64

-- the codes of linked bodies, in order
abbrev pub AreCodesOver : SlotLibrary → List Kind → List SlotStmts → List CodeView → Type 0
AreCodesOver library kinds [] [] = Unit {0}
AreCodesOver library kinds (body ∷ bodies) (code ∷ codes) =
    IsCodeOver library kinds body code × AreCodesOver library kinds bodies codes
AreCodesOver library kinds [] (code ∷ codes) = ⊥
AreCodesOver library kinds (body ∷ bodies) [] = ⊥

-- This is code, it means the program over the layout, and it reads what the program asks for.
pub record IsMeant (layout : List Slot) (p : Program) (o : Option CodeView) : Type 0 where
  pub code : CodeView
  pub is : o ≡ Some code
  pub means : Means layout code p
  pub reads : ReadsAsAsked layout code p

-- Each program of the text has the code of its number, which means it and reads what it asks for.
abbrev pub AreCodesOf : Source → List CodeView → Type 0
AreCodesOf source codes = (n : ℕ) (p : Program) → slice_get (programs_of_text source) n ≡ Some p
    → IsMeant (slots_of_text source) p (slice_get codes n)
