-- The effect of the code of units in the place of their calls.
use Rattle.std.proofs.Common.{◌≡◌, ℕ, ◌≤◌, List, ◌∷◌, length}
use Rattle.st_types.specs.Values.{Datum}
use Rattle.st_meaning.specs.Failures.{StuckFaults}
use Rattle.slot_trees.specs.SlotTrees.{BlockCode}
use Rattle.machine_code.specs.Tracking.{Tracked}
use Rattle.machine_code.specs.Growing.{Code}
use Rattle.machine_code.specs.UnitFrames.{UnitFrame, end_of}
use Rattle.machine_code.specs.Codes.{CodeUnits}
use Rattle.machine_code.specs.Fitting.{UnitCall, of_function, of_block}
use Rattle.machine_code.specs.MarkedEvaluation.{MarkedUnits}
use Rattle.machine_code.proofs.Places.{Has}
use Rattle.machine_code.proofs.Gives.{Gives}
use Rattle.machine_code.proofs.Growth.{UnitsGrow}
use Rattle.machine_code.proofs.Regions.{Holds, Frame}
use Rattle.machine_code.proofs.Steps.{G, stacked}

-- Calls that fit do on the machine what the units do: a function gives its value and leaves all below its own values, a
-- block leaves the values of the unit that calls it.
pub record UnitsRun (t : StuckFaults) (now memory : ℕ) (F : Code) (units : MarkedUnits) (codes : CodeUnits)
    (CallFits : UnitCall → Type 0) : Type 0 where
  pub grow : UnitsGrow codes
  pub functions : (f start : ℕ) (xs : List Datum) (c : Code) (st : List Datum) (m : Tracked) (b : ℕ)
      → CallFits (of_function f start (length xs)) → length m.values ≡ memory
      → Has F (length c) (codes.functions f start c)
      → Gives (units.functions f xs b) b (λ v n. Frame memory start m n) (λ v n a. G t now F (length c) (v ∷ st) n a)
      (G t now F (length (codes.functions f start c)) (stacked xs st) m b)
  pub blocks : (code : BlockCode) (s : UnitFrame) (told : ℕ) (below vs : Tracked) (c : Code) (st : List Datum)
      (m : Tracked) (b : ℕ) → CallFits (of_block code s) → end_of s ≤ memory → Holds memory s told below vs m
      → Has F (length c) (codes.blocks code s c)
      → Gives (units.blocks code s.base vs b) b (λ us n. Holds memory s told below us n)
      (λ us n a. G t now F (length c) st n a) (G t now F (length (codes.blocks code s c)) st m b)
