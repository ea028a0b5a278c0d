-- Texts whose programs have no code, since there is no room for it.
use Rattle.std.specs.Prelude.{◌≡◌, ℕ, ◌+◌, ◌<◌, List, length, Bool, Some, true}
use Rattle.machine_code.specs.declared.limits.TheConstants.{MAX_INSTRUCTIONS}
use Rattle.st_types.specs.Sources.{Source}
use Rattle.st_meaning.specs.NameTypes.{declared_in}
use Rattle.st_meaning.specs.ResolvedUnits.{resolved_source}
use Rattle.st_meaning.specs.Scopes.{Name}
use Rattle.st_rules.specs.Containment.{is_function}
use Rattle.layout.specs.TextLayouts.{slots_of_text}
use Rattle.st_link.specs.Homes.{IsAmong}
use Rattle.slot_trees.specs.SlotTrees.{SlotLibrary, SlotStmts}
use Rattle.slot_trees.specs.TextLinks.{LinkedText, linked_source}
use Rattle.slot_trees.specs.LibraryViews.{KeptLibrary}
use Rattle.machine_code.specs.Programs.{program_code, ProgramFits}
use Rattle.st_compile.specs.Emitting.{filled}
use Rattle.st_compile.specs.declared.compile_error.CompileError.{CompileError}
use Rattle.st_compile.specs.declared.compile_error.CompileError.TheVariants as errors
use Rattle.st_compile.specs.declared.limits.TheConstants.{FUNCTION_PLACES}
use Rattle.st_link.specs.Accepted.{IsLinked}
use Rattle.st_link.specs.CalledFunctions.{IsCalled}
use Rattle.st_link.specs.KeptTexts.{KeptText}

-- a program's code over `size` slots has more instructions than allowed
abbrev pub HasTooManyInstructions : SlotLibrary → ℕ → SlotStmts → Type 0
HasTooManyInstructions library size body = MAX_INSTRUCTIONS < length (program_code library 0 size body 64)

-- a program does not fit a memory with as many places after its slots as functions may take
abbrev pub IsCrowded : KeptLibrary → ℕ → SlotStmts → Type 0
IsCrowded library size body = ¬ (ProgramFits (size + FUNCTION_PLACES) (filled library) 0 size body 64)

-- one of these bodies has the property
pub record HasOne (P : SlotStmts → Type 0) (bodies : List SlotStmts) : Type 0 where
  pub body : SlotStmts
  pub among : IsAmong body bodies
  pub holds : P body

-- These are the functions that the text's programs call.
pub record AreCalled (source : Source) (called : Name → Bool) : Type 0 where
  pub only : (x : Name) → called x ≡ true → IsCalled (resolved_source source) x
  pub each : (x : Name) → is_function (declared_in (resolved_source source)) x ≡ true
      → IsCalled (resolved_source source) x → called x ≡ true

-- The code of one of the text's programs is too long.
pub record HasLongCode (source : Source) : Type 0 where
  pub linked : LinkedText
  pub is : linked_source source ≡ Some linked
  pub long : HasOne (HasTooManyInstructions linked.library (length (slots_of_text source))) linked.programs

-- One of the text's programs, linked with just the functions that are called, needs too many places for their values.
pub record NeedsTooManyPlaces (source : Source) : Type 0 where
  pub called : Name → Bool
  pub are_called : AreCalled source called
  pub kept : KeptText
  pub linked : IsLinked source called kept
  pub crowded : HasOne (IsCrowded kept.library (length (slots_of_text source))) kept.programs

-- Why there is no code, if the error says that there is no room for it; nothing is said of other errors.
abbrev pub LacksRoom : Source → CompileError → Type 0
LacksRoom source errors.TooManyInstructions = HasLongCode source
LacksRoom source errors.TooManyPlaces = NeedsTooManyPlaces source
LacksRoom source errors.OutOfMemory = Unit {0}
LacksRoom source errors.NotLinked = Unit {0}
