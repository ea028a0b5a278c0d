-- Quick code of a program, and how the program of this code ends.
use Rattle.std.specs.Prelude.{◌≡◌, ℕ, length, replicate, Some, slice_get, Result, Ok}
use Rattle.st_types.specs.declared.fault.Fault.{Fault}
use Rattle.quick_code.specs.declared.quick_code.Way.{Way}
use Rattle.quick_code.specs.declared.quick_instr.QuickInstr.TheVariants.{End, Jump}
use Rattle.quick_code.specs.QuickRuns.{Left}
use Rattle.slot_trees.specs.SlotTrees.{SlotLibrary, SlotStmts}
use Rattle.slot_trees.specs.SlotRuns.{state_of}
use Rattle.machine_code.specs.MarkedExecution.{MarkedEnd}
use Rattle.quick_trees.specs.declared.noting.Noting.TheVariants.{Exact}
use Rattle.quick_trees.specs.Points.{Point, along, Joins}
use Rattle.quick_trees.specs.QuickMemory.{Frame, first_temporary}
use Rattle.quick_trees.specs.UnitValues.{IsMemory, whole}
use Rattle.quick_trees.specs.TreeCode.{AreStmtsCode}
use Rattle.quick_trees.specs.Calls.{quick_units}
use Rattle.quick_trees.specs.Windows.{StaysOutside}
use Rattle.machine_code.specs.Tracking.{Tracked}

-- where a run begins: nothing is ahead
abbrev pub beginning : Frame → Point
beginning f = record { place = 0; ahead = 0; noted = replicate (length f.window) Exact }

-- The code of a program: it takes the ticks of the code up to the first branch, does what the body says, and ends with notes
-- that say what the program did.
pub record IsProgram (f : Frame) (library : SlotLibrary) (base depth : ℕ) (body : SlotStmts) : Type 0 where
  pub way : Way
  pub begins : slice_get f.code 0 ≡ Some (Jump way)
  pub end : Point
  pub last : Point
  pub last_is : last ≡ record { place = last.place; ahead = 0; noted = replicate (length f.window) Exact }
  pub stands : AreStmtsCode f (whole base) (quick_units f library depth) body (first_temporary f)
      (record { out = last; back = last }) (along (beginning f) way) end
  pub joins : Joins f end last
  pub ends : slice_get f.code last.place ≡ Some End

-- The program ends well, with as many ticks left as a run of code, and with the values and the marks that the words and the
-- notes of that run give; those of slots that have no word are as they were.
pub record EndsAs (f : Frame) (base : ℕ) (begun : Tracked) (r : Result (MarkedEnd × ℕ) Fault) (e : Left) : Type 0 where
  pub end : MarkedEnd
  pub gives : r ≡ Ok (end, e.ticks)
  pub at : Point
  pub exact : at.noted ≡ replicate (length f.window) Exact
  pub is : IsMemory f (whole base) at e.memory (state_of end)
  pub stays : StaysOutside f.window begun (state_of end)
