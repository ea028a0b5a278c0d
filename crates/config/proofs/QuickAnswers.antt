-- Quick code of a linked body answers as the instructions do.
use Rattle.std.proofs.Common.{◌≡◌, ◌≤◌, ◌+◌, ◌-◌, ℕ, List, Option, Some, None, IfOk, IfSome, Result, Ok, Err, length, sym}
use Rattle.std.proofs.Common.{subst, arith}
use Rattle.st_types.specs.declared.kind.Kind.{Kind}
use Rattle.slot_trees.specs.SlotTrees.{SlotLibrary, SlotStmts}
use Rattle.slot_trees.specs.LibraryViews.{IsKeptOf, KeptLibrary}
use Rattle.machine_code.specs.declared.instr.Instr.{Instr}
use Rattle.machine_code.specs.Programs.{program_code, ProgramFits}
use Rattle.st_compile.specs.Emitting.{filled}
use Rattle.st_compile.proofs.Filled.{filled_body, filled_function}
use Rattle.quick_code.specs.Soundness.{IsSound}
use Rattle.quick_trees.specs.Programs.{IsProgram}
use Rattle.quick_trees.specs.QuickMemory.{first_temporary}
use Rattle.quick_trees.specs.Windows.{IsWindow}
use Rattle.slot_code.specs.declared.parts.PlacedParts.{PlacedParts}
use Rattle.slot_code.specs.declared.parts.QuickParts.{QuickParts}
use Rattle.slot_code.specs.Quick.{AnswersFor, IsAnswering, frame_of}

-- the law of quick code next to instructions
abbrev pub AnswersLaw : Type 0
AnswersLaw =
    (library : SlotLibrary) (base calls depth extra : ℕ) (body : SlotStmts) (kinds : List Kind) (p : QuickParts)
    (window : List ℕ) → ((now : ℕ) → IsProgram (frame_of p window kinds now) library base calls body)
    → first_temporary (frame_of p window kinds 0) ≤ p.words
    → ProgramFits (length kinds + extra) library base (length kinds) body depth
    → AnswersFor (program_code library base (length kinds) body depth) kinds extra p window

module _ (law : AnswersLaw) (kept : KeptLibrary) (kinds : List Kind) (body : SlotStmts) (code : List Instr)
    (memory : ℕ)
    (code_is : (whole : SlotLibrary) → IsKeptOf kept whole → code ≡ program_code whole 0 (length kinds) body 64)
    (fits : (whole : SlotLibrary) → IsKeptOf kept whole → ProgramFits memory whole 0 (length kinds) body 64)
    (le : length kinds ≤ memory) where
  kept_of : IsKeptOf kept (filled kept)
  kept_of = record { functions = filled_function kept; blocks = filled_body kept }

  abbrev Stands : PlacedParts → Type 0
  Stands q = (whole : SlotLibrary) → IsKeptOf kept whole → (now : ℕ)
      → IsProgram (frame_of q.parts q.window.items kinds now) whole 0 64 body

  abbrev IsWhole : PlacedParts → Type 0
  IsWhole q = IsSound q.parts.code q.parts.words q.parts.words

  abbrev HasWindow : PlacedParts → Type 0
  HasWindow q = IsWindow (length kinds) q.window.items

  abbrev HasRoom : PlacedParts → Type 0
  HasRoom q = length q.window.items + length q.parts.constants.items ≤ q.parts.words

  abbrev Answers : PlacedParts → Type 0
  Answers q = IsAnswering code kinds (memory - length kinds) q.parts q.window.items

  answers : (q : PlacedParts) → Stands q → IsWhole q → HasWindow q → HasRoom q → Answers q
  answers q stands sound slots room =
      let whole = filled kept in
      let all : memory ≡ length kinds + (memory - length kinds) = omega (arith, le) in
      let fits_so = subst (λ n. ProgramFits n whole 0 (length kinds) body 64) all (fits whole kept_of) in
      let answering = law whole 0 64 64 (memory - length kinds) body kinds q.parts q.window.items (stands whole kept_of)
      room fits_so in
      record {
        sound = sound;
        slots = slots;
        answers = subst (λ is. AnswersFor is kinds (memory - length kinds) q.parts q.window.items)
            (sym (code_is whole kept_of)) answering;
      }

  if_answers : (o : Option PlacedParts) → IfSome o Stands → IfSome o IsWhole → IfSome o HasWindow → IfSome o HasRoom
      → IfSome o Answers
  if_answers (Some q) stands sound slots room = answers q stands sound slots room
  if_answers None stands sound slots room = stands

  pub all_answer : {E : Type 0} (r : Result (Option PlacedParts) E) → IfOk r (λ o. IfSome o Stands)
      → IfOk r (λ o. IfSome o IsWhole) → IfOk r (λ o. IfSome o HasWindow) → IfOk r (λ o. IfSome o HasRoom)
      → IfOk r (λ o. IfSome o Answers)
  all_answer (Ok o) stands sound slots room = if_answers o stands sound slots room
  all_answer (Err e) stands sound slots room = stands
