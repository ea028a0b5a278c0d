-- Where code that stands for a unit runs, and what the code of the functions and blocks that it calls does.
use Rattle.std.proofs.Common.{◌≡◌, ℕ, ◌+◌, ◌<◌, ◌≤◌, ℤ, List, length, Some, Ok, []}
use Rattle.std.specs.Prelude.{slice_get}
use Rattle.st_types.specs.declared.kind.Kind.{Kind}
use Rattle.st_types.specs.Values.{Datum, IsHeld}
use Rattle.st_types.specs.Words.{datum_at}
use Rattle.st_meaning.specs.Failures.{StuckFaults}
use Rattle.st_meaning.specs.Ticks.{Run}
use Rattle.machine_code.specs.declared.mark.Mark.{Mark}
use Rattle.quick_code.specs.QuickRuns.{Left}
use Rattle.quick_code.specs.QuickSteps.{Memory, look, with_word}
use Rattle.machine_code.specs.MarkedEvaluation.{MarkedScope, MarkedUnits}
use Rattle.quick_trees.specs.Points.{Point}
use Rattle.quick_trees.specs.QuickMemory.{EndsWellAt, Frame, first_temporary}
use Rattle.quick_trees.specs.UnitValues.{UnitValues, base_of, whole}
use Rattle.quick_trees.specs.TreeCode.{QuickUnits}
use Rattle.quick_trees.proofs.Memories.{Holds, IsNoted, Keeps, Spares}
use Rattle.slot_trees.specs.SlotTrees.{BlockCode}
use Rattle.machine_code.specs.Tracking.{Tracked}

-- Words below a depth have the values of arguments.
pub record AreGiven (m : Memory) (d : ℕ) (kinds : List Kind) (words : List ℕ) (values : List Datum) : Type 0 where
  pub words_long : length values ≡ length words
  pub kinds_long : length values ≡ length kinds
  pub each : (i w : ℕ) (t : Kind) → slice_get words i ≡ Some w → slice_get kinds i ≡ Some t
      → slice_get values i ≡ Some (datum_at t (look m w))
  pub held : (i w : ℕ) (t : Kind) → slice_get words i ≡ Some w → slice_get kinds i ≡ Some t
      → IsHeld (datum_at t (look m w))
  pub low : (i w : ℕ) → slice_get words i ≡ Some w → w < d

-- A function was called: its result was assigned to a word, and words below a depth were kept.
pub record HasCalled (f : Frame) (x : Left) (run : Run Datum) (t : Kind) (d to : ℕ) (p q : Point) (marks : List Mark)
    (m : Memory) (b : ℕ) : Type 0 where
  pub memory : Memory
  pub word : ℤ
  pub left : ℕ
  pub gives : run (b + p.ahead) ≡ Ok (datum_at t word, left + q.ahead)
  pub fewer : left + q.ahead ≤ b + p.ahead
  pub keeps : Keeps d m memory
  pub noted : IsNoted f q.noted marks memory
  pub held : IsHeld (datum_at t word)
  pub ends : EndsWellAt f q.place (with_word memory to word) left x

-- code in the place of a call does what the function does
abbrev pub DoesCalls : Frame → Left → QuickUnits → MarkedUnits → Type 0
DoesCalls f x units means =
    (i : ℕ) (kinds : List Kind) (words : List ℕ) (d : ℕ) (t : Kind) (to : ℕ) (p q : Point)
    → units.functions i kinds words d t to p q → (marks : List Mark) (m : Memory) (b : ℕ) (values : List Datum)
    → first_temporary f ≤ d → IsNoted f p.noted marks m → AreGiven m d kinds words values → EndsWellAt f p.place m b x
    → HasCalled f x (means.functions i values) t d to p q marks m b

-- A block was called on an instance: the results of its body are in the words of the program.
pub record HasInvoked (f : Frame) (x : Left) (run : Tracked → Run Tracked) (at d : ℕ) (p q : Point) (around : Tracked)
    (m : Memory) (tr : Tracked) (b : ℕ) : Type 0 where
  pub memory : Memory
  pub tracked : Tracked
  pub left : ℕ
  pub gives : run tr (b + p.ahead) ≡ Ok (tracked, left + q.ahead)
  pub fewer : left + q.ahead ≤ b + p.ahead
  pub spares : Spares f (whole at) d m memory
  pub is : Holds f (whole at) around q.noted memory tracked
  pub ends : EndsWellAt f q.place memory left x

-- code in the place of a call of a block does what the block does
abbrev pub DoesBlocks : Frame → Left → QuickUnits → MarkedUnits → Type 0
DoesBlocks f x units means =
    (c : BlockCode) (at d : ℕ) (p q : Point) → units.blocks c at d p q → (around : Tracked) (m : Memory) (tr : Tracked)
    (b : ℕ) → first_temporary f ≤ d → Holds f (whole at) around p.noted m tr → EndsWellAt f p.place m b x
    → HasInvoked f x (means.blocks c at) at d p q around m tr b

-- The code, the unit's values, the code of units and their meaning, the slots around the unit, and the state after the run.
pub record Setting : Type 1 where
  pub frame : Frame
  pub site : UnitValues
  pub units : QuickUnits
  pub means : MarkedUnits
  pub stuck_faults : StuckFaults
  pub around : Tracked
  pub finish : Left
  pub does : DoesCalls frame finish units means
  pub does_blocks : DoesBlocks frame finish units means

abbrev pub scope_of : Setting → MarkedScope
scope_of s = record { units = s.means; base = base_of s.site; stuck_faults = s.stuck_faults }
