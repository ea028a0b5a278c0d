-- Programs in quick code, and their results.
use Rattle.std.specs.Prelude.{◌≡◌, ◌≤◌, ◌+◌, ◌-◌, ◌-ℤ◌, ℕ, ℤ, pos, List, [], ◌++◌, length, map, replicate, take, false}
use Rattle.std.specs.Prelude.{Some, slice_get}
use Rattle.st_types.specs.declared.kind.Kind.{Kind}
use Rattle.st_types.specs.Values.{Datum, bool_datum}
use Rattle.st_types.specs.Words.{shift_of}
use Rattle.st_meaning.specs.Failures.{in_runs}
use Rattle.machine_code.specs.declared.instr.Instr.{Instr}
use Rattle.machine_code.specs.declared.mark.Mark.{Mark}
use Rattle.machine_code.specs.Machine.{Ending, finished, runs}
use Rattle.machine_code.specs.Tracking.{Tracked, tracked, tracking}
use Rattle.quick_code.specs.QuickRuns.{EndsWell, Left}
use Rattle.quick_code.specs.QuickSteps.{Memory}
use Rattle.quick_trees.specs.QuickMemory.{Frame, first_temporary}
use Rattle.quick_trees.specs.Programs.{beginning}
use Rattle.quick_trees.specs.UnitValues.{IsMemory, whole}
use Rattle.quick_trees.specs.Windows.{IsWindow, StaysOutside}
use Rattle.quick_code.specs.Soundness.{IsSound}
use Rattle.slot_code.specs.declared.parts.QuickParts.{QuickParts}

-- the program over slots of these types, of which those of a window have words, at a moment
abbrev pub frame_of : QuickParts → List ℕ → List Kind → ℕ → Frame
frame_of p window kinds now = record {
  code = p.code.instrs.items;
  ways = p.code.ways.items;
  now = now;
  kinds = kinds;
  window = window;
  constants = p.constants.items;
  size = p.words;
}

-- the word of a value
abbrev pub word_of : Datum → ℤ
word_of v = v.number -ℤ shift_of v.kind

abbrev pub kinds_of : List Datum → List Kind
kinds_of vs = map (λ v. v.kind) vs

-- These are the values of the slots of a window, in its order.
pub record AreIn (window : List ℕ) (slots values : List Datum) : Type 0 where
  pub long : length values ≡ length window
  pub each : (w k : ℕ) → slice_get window w ≡ Some k → slice_get values w ≡ slice_get slots k

-- Values of a window's slots, in its order, are of the types that these slots have.
abbrev pub AreTyped : List Kind → List ℕ → List Datum → Type 0
AreTyped kinds window values = map (slice_get kinds) window ≡ map (λ v. Some v.kind) values

-- the words with which a run begins over the values of a window's slots, and no notes
abbrev pub start_memory : QuickParts → List Datum → Memory
start_memory p vs = record {
  words = map word_of vs ++ (map word_of p.constants.items
      ++ replicate (p.words - (length vs + length p.constants.items)) (pos 0));
  notes = replicate p.words 0;
}

-- nothing is looked up or assigned yet
abbrev pub unmarked : Mark
unmarked = record { is_read = false; is_assigned = false }

abbrev pub unmarked_slots : List Datum → Tracked
unmarked_slots vs = tracked vs (replicate (length vs) unmarked)

-- the first `n` values and marks of a memory
abbrev pub first_of : ℕ → Tracked → Tracked
first_of n m = tracked (take n m.values) (take n m.marks)

-- the run of instructions over values of slots, with `extra` values after them
abbrev pub run_of : List Instr → ℕ → ℕ → List Datum → ℕ → Ending Tracked
run_of instrs extra now vs budget =
    runs tracking in_runs now instrs (length instrs) []
    (tracked (vs ++ replicate extra (bool_datum false)) (replicate (length vs + extra) unmarked)) budget

-- The run of instructions over values of slots ended well, with as many ticks left, and with the values and the marks of
-- slots that words and notes encode; slots without a word are as they were.
pub record HasEnded (f : Frame) (vs : List Datum) (e : Left) (r : Ending Tracked) : Type 0 where
  pub memory : Tracked
  pub is : r ≡ finished memory e.ticks
  pub told : IsMemory f (whole 0) (beginning f) e.memory (first_of (length vs) memory)
  pub stays : StaysOutside f.window (unmarked_slots vs) (first_of (length vs) memory)
  pub marks : length (take (length vs) memory.marks) ≡ length vs

-- Whenever a run of the quick code over values of these types ends well, the run of the instructions ends in the same way.
pub record AnswersFor (instrs : List Instr) (kinds : List Kind) (extra : ℕ) (p : QuickParts) (window : List ℕ) : Type 0
  where
    pub room : first_temporary (frame_of p window kinds 0) ≤ p.words
    pub ends : (now budget : ℕ) (vs : List Datum) (m : Memory) (e : Left) → kinds_of vs ≡ kinds
        → IsMemory (frame_of p window kinds now) (whole 0) (beginning (frame_of p window kinds now)) m
        (unmarked_slots vs)
        → EndsWell p.code.instrs.items p.code.ways.items now 0 m budget e
        → HasEnded (frame_of p window kinds now) vs e (run_of instrs extra now vs budget)

-- The code may be run, its window is one, and it answers as the instructions do.
pub record IsAnswering (instrs : List Instr) (kinds : List Kind) (extra : ℕ) (p : QuickParts) (window : List ℕ) :
    Type 0
  where
    pub sound : IsSound p.code p.words p.words
    pub slots : IsWindow (length kinds) window
    pub answers : AnswersFor instrs kinds extra p window

-- A run over the values of a window's slots ends in this way over all slots that have these values there, whatever values
-- the others have: they all are of the slots' types.
abbrev pub Wherever : List Kind → List ℕ → List Datum → (List Datum → Type 0) → Type 0
Wherever kinds window values Ends = (slots : List Datum) → kinds_of slots ≡ kinds → AreIn window slots values
    → Ends slots

-- a program in quick code next to its instructions
pub record QuickView : Type 0 where
  pub instrs : List Instr
  pub kinds : List Kind
  pub extra : ℕ
  pub parts : QuickParts
  pub window : List ℕ

-- A run of instructions over slots ends well, with as many ticks left, and leaves these values and marks of the slots
-- of a window. All other slots are as they were, and unmarked.
pub record EndsWith (window : List ℕ) (vs : List Datum) (ticks : ℕ) (values : List Datum) (marks : List Mark)
    (r : Ending Tracked) : Type 0 where
  pub memory : Tracked
  pub is : r ≡ finished memory ticks
  pub slots : length (take (length vs) memory.values) ≡ length vs
  pub marked : length (take (length vs) memory.marks) ≡ length vs
  pub left : AreIn window (take (length vs) memory.values) values
  pub long : length marks ≡ length window
  pub told : (w k : ℕ) → slice_get window w ≡ Some k → slice_get marks w ≡ slice_get (take (length vs) memory.marks) k
  pub stays : StaysOutside window (unmarked_slots vs) (first_of (length vs) memory)
