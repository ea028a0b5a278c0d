-- Sums of an expression and a constant.
use Rattle.std.specs.Prelude.{◌≡◌, ◌⊎◌, ℤ}
use Rattle.st_types.specs.declared.kind.Kind.{Kind}
use Rattle.st_types.specs.declared.operator.BinaryOperator.TheVariants.{Add}
use Rattle.slot_trees.specs.SlotTrees.{SlotExpr, binary}
use Rattle.quick_trees.specs.Pieces.{AddsConstant, IsNumber}

-- an expression is a sum of another one and a constant of a type
abbrev pub IsSum : SlotExpr → SlotExpr → Kind → ℤ → Type 0
IsSum (binary op x y) rest t n = (AddsConstant op y t n × (rest ≡ x)) ⊎ ((op ≡ Add) × (IsNumber x t n × (rest ≡ y)))
IsSum _ rest t n = ⊥
