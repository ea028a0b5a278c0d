-- Values of arrays in arrays.
use Rattle.std.specs.Prelude.{◌≡◌, ℕ, ℤ, List, Some, slice_get}
use Rattle.st_types.specs.declared.kind.Kind.{Kind}
use Rattle.quick_code.specs.declared.quick_instr.QuickInstr.{QuickInstr}
use Rattle.quick_code.specs.declared.quick_instr.QuickInstr.TheVariants.{LoadNested, StoreNested}
use Rattle.slot_trees.specs.SlotTrees.{Place, SlotExpr, Subscripts, no_subscripts, place, subscript_then}
use Rattle.quick_trees.specs.declared.noting.Noting.{Noting}
use Rattle.quick_trees.specs.Pieces.{IsLed}
use Rattle.quick_trees.specs.Points.{CodeRelation}
use Rattle.quick_trees.specs.QuickMemory.{Frame}
use Rattle.quick_trees.specs.UnitValues.{UnitValues, kinds_of, HasOwnWord, IsExact}
use Rattle.quick_trees.specs.TreeCode.{IsLedOn, IsReadApart, IsStoredWithin, QuickUnits}
use Rattle.quick_checks.specs.declared.reached.Access.{Access}
use Rattle.quick_checks.specs.declared.reached.Access.TheVariants.{Load, Store}

-- the instruction of the last subscript: the use of the value, after the offset in a temporary and the first word of the
-- array
abbrev pub access_instr : Access → ℕ → ℕ → ℕ → ℤ → ℕ → ℕ → QuickInstr
access_instr (Load to) d word = λ i n count stride. LoadNested d i n to word count stride
access_instr (Store from) d word = λ i n count stride. StoreNested d i n from word count stride

-- A value of a unit is of a type and has a word, and nothing is known of its note.
pub record IsReached (f : Frame) (s : UnitValues) (ns : List Noting) (k word : ℕ) (t : Kind) : Type 0 where
  pub of_type : slice_get (kinds_of f s) k ≡ Some t
  pub own : HasOwnWord f.window s k word
  pub exact : IsExact s ns word

-- the first subscript leads to an element, and further ones lead on from there
abbrev pub AreLed : Frame → UnitValues → QuickUnits → Subscripts → ℕ → (ℕ → ℤ → ℕ → ℕ → QuickInstr) → CodeRelation
AreLed f s units no_subscripts d Instr p q = ⊥
AreLed f s units (subscript_then e lower count stride ss) d Instr p q =
    IsLed f (λ u n. IsReadApart f s units e u n d) lower count stride d (IsLedOn f s units ss d Instr) p q

-- an expression is assigned to a value of an array in an array
abbrev pub PlaceStored : Frame → UnitValues → QuickUnits → Place → SlotExpr → ℕ → CodeRelation
PlaceStored f s units (place a (subscript_then i lower count stride (subscript_then j low more wide ss))) y d p q =
    IsStoredWithin f s units a i lower count stride (subscript_then j low more wide ss) y d p q
PlaceStored f s units x y d p q = ⊥
