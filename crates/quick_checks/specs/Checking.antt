-- The view that a check has, in the words of the definitions.
use Rattle.std.specs.Prelude.{ℕ, List, map}
use Rattle.slot_trees.specs.declared.library.SlotLibrary as code_library
use Rattle.slot_trees.specs.LibraryViews.{slot_library_view, IsKeptOf}
use Rattle.slot_trees.specs.SlotTrees.{SlotLibrary}
use Rattle.quick_trees.specs.QuickMemory.{Frame}
use Rattle.quick_trees.specs.Points.{Point}
use Rattle.quick_trees.specs.UnitValues.{UnitValues, whole, called}
use Rattle.quick_trees.specs.UnitValues as sites
use Rattle.quick_trees.specs.Pieces.{Input}
use Rattle.quick_trees.specs.TreeCode.{QuickUnits}
use Rattle.quick_trees.specs.TreeCode as standing
use Rattle.quick_trees.specs.Calls.{quick_units}
use Rattle.quick_checks.specs.declared.draft.QuickDraft.{QuickDraft}
use Rattle.quick_checks.specs.declared.draft.Landing.{Landing}
use Rattle.quick_checks.specs.declared.programs.DraftedProgram.{DraftedProgram}
use Rattle.quick_checks.specs.declared.draft.Exits.{Exits}
use Rattle.st_types.specs.declared.kind.Kind.{Kind}
use Rattle.quick_checks.specs.declared.constants.Reading.{Reading}
use Rattle.quick_checks.specs.declared.cursor.Cursor.{Cursor}
use Rattle.quick_checks.specs.declared.members.Taken.{Taken}
use Rattle.quick_checks.specs.declared.scope.FunctionWord.{FunctionWord}
use Rattle.quick_checks.specs.declared.scope.Scope.{Scope}
use Rattle.quick_checks.specs.declared.scope.Values.{Values}
use Rattle.quick_checks.specs.declared.scope.Values.TheVariants.{Whole, Called}

abbrev pub frame_of : QuickDraft → ℕ → Frame
frame_of d now = record {
  code = d.code.instrs.items;
  ways = d.code.ways.items;
  now = now;
  kinds = d.kinds.items;
  window = d.window.items;
  constants = d.constants.items;
  size = d.words;
}

abbrev pub program_frame : DraftedProgram → List Kind → ℕ → Frame
program_frame p kinds now = record {
  code = p.code.instrs.items;
  ways = p.code.ways.items;
  now = now;
  kinds = kinds;
  window = p.window.items;
  constants = p.constants.items;
  size = p.words;
}

abbrev pub point_of : Cursor → Point
point_of c = record { place = c.place; ahead = c.ahead; noted = c.noted.items }

abbrev pub landing_of : Landing → Point
landing_of l = record { place = l.place; ahead = l.ahead; noted = l.noted.items }

abbrev pub exits_of : Exits → standing.Exits
exits_of e = record { out = landing_of e.out; back = landing_of e.back }

abbrev pub seat_of : FunctionWord → sites.FunctionWord
seat_of s = record { word = s.word; is_own = s.is_own }

abbrev pub site_of : Values → UnitValues
site_of (Whole base) = whole base
site_of (Called kinds seats) = called kinds.items (map seat_of seats.items)

-- the types and the words of values that were read
abbrev pub kinds_read : List Reading → List Kind
kinds_read rs = map (λ (r : Reading). r.kind) rs

abbrev pub words_read : List Reading → List ℕ
words_read rs = map (λ (r : Reading). r.word) rs

-- the inputs that a call gives
abbrev pub input_taken : Taken → Input
input_taken i = record { member = i.member; kind = i.kind; word = i.word }

abbrev pub inputs_taken : List Taken → List Input
inputs_taken = map input_taken

-- it holds at each moment, whatever is called
abbrev pub Ever : QuickDraft → Values → (Frame → UnitValues → QuickUnits → Type 0) → Type 0
Ever d vs P = (now : ℕ) (library : SlotLibrary) (calls : ℕ)
    → P (frame_of d now) (site_of vs) (quick_units (frame_of d now) library calls)

-- it holds at each moment, over each library from which the code's library is kept
abbrev pub Always : QuickDraft → code_library.SlotLibrary → Scope → (Frame → UnitValues → QuickUnits → Type 0) → Type 0
Always d library z P = (now : ℕ) (whole : SlotLibrary) → IsKeptOf (slot_library_view library) whole
    → P (frame_of d now) (site_of z.values) (quick_units (frame_of d now) whole z.calls)
