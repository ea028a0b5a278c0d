-- Code of minus and NOT.
use Rattle.std.proofs.Common.{ℕ}
use Rattle.st_types.specs.declared.kind.Kind.{Kind}
use Rattle.st_types.specs.declared.operator.UnaryOperator.{UnaryOperator}
use Rattle.st_types.specs.declared.operator.UnaryOperator.TheVariants.{Negate, Not}
use Rattle.slot_trees.specs.SlotTrees.{SlotExpr, unary}
use Rattle.quick_trees.specs.Pieces.{IsTemporary}
use Rattle.quick_trees.specs.Points.{Point}
use Rattle.quick_trees.specs.QuickMemory.{Frame}
use Rattle.quick_trees.specs.UnitValues.{UnitValues}
use Rattle.quick_trees.specs.TreeCode.{IsAssignedTo, IsRead, QuickUnits}

pub unary_read : (f : Frame) (s : UnitValues) (units : QuickUnits) (op : UnaryOperator) (e : SlotExpr) (t : Kind) (d : ℕ)
    (p q : Point) → IsTemporary f d d → IsAssignedTo f s units (unary op e) t d d p q
    → IsRead f s units (unary op e) t d d p q
unary_read f s units Negate e t d p q there h = (there, h)
unary_read f s units Not e t d p q there h = (there, h)
