-- The code that stands for a standard function, whichever it is.
use Rattle.std.proofs.Common.{inr, ℕ}
use Rattle.st_types.specs.declared.kind.Kind.{Kind}
use Rattle.st_meaning.specs.StandardFunctions.{ABS, CONVERT, LIMIT, MAX, MIN, ROL, ROR, SEL, SHL, SHR, Standard}
use Rattle.slot_trees.specs.SlotTrees.{SlotExprs, compute, expr_then, no_exprs}
use Rattle.quick_trees.specs.Functions.{IsEvaluated}
use Rattle.quick_trees.specs.Pieces.{IsTemporary}
use Rattle.quick_trees.specs.Points.{Point}
use Rattle.quick_trees.specs.QuickMemory.{Frame}
use Rattle.quick_trees.specs.UnitValues.{UnitValues}
use Rattle.quick_trees.specs.TreeCode.{AreArguments, IsRead, QuickUnits}

module _ (f : Frame) (s : UnitValues) (units : QuickUnits) where
  pub read_evaluated : (g : Standard) (es : SlotExprs) (t : Kind) (d k : ℕ) (p q : Point) → IsTemporary f k d
      → IsEvaluated f (AreArguments f s units es d) g t d k p q → IsRead f s units (compute g es) t d k p q
  read_evaluated ABS es t d k p q there is = (there, is)
  read_evaluated MIN es t d k p q there is = (there, is)
  read_evaluated MAX es t d k p q there is = (there, is)
  read_evaluated LIMIT es t d k p q there is = (there, is)
  read_evaluated SEL es t d k p q there is = (there, is)
  read_evaluated SHL es t d k p q there is = (there, is)
  read_evaluated SHR es t d k p q there is = (there, is)
  read_evaluated ROL es t d k p q there is = (there, is)
  read_evaluated ROR es t d k p q there is = (there, is)
  read_evaluated (CONVERT from to) no_exprs t d k p q there is = (there, is)
  read_evaluated (CONVERT from to) (expr_then e no_exprs) t d k p q there is = inr (there, is)
  read_evaluated (CONVERT from to) (expr_then e (expr_then i es)) t d k p q there is = (there, is)
