-- The value of an expression over slots. All operands are evaluated, the left before the right.
-- F3 is a subscript out of bounds.
use Rattle.std.specs.Prelude.{ℕ, ◌+◌, ◌*◌, List, [], ◌∷◌, Bool, if◌then◌else◌, slice_get}
use Rattle.st_types.specs.declared.fault.Fault.TheVariants.{Index}
use Rattle.st_types.specs.Values.{Datum}
use Rattle.st_meaning.specs.Failures.{StuckFaults, valueless, or_failure, failing}
use Rattle.st_meaning.specs.Ticks.{Run, ◌>>=◌, give, fault, attempt}
use Rattle.st_meaning.specs.Operators.{value_of_literal, apply, apply_unary, condition_of}
use Rattle.st_meaning.specs.StandardFunctions.{standard_value}
use Rattle.st_meaning.specs.Evaluation.{known}
use Rattle.layout.specs.Shapes.{in_bounds, distance}
use Rattle.slot_trees.specs.SlotTrees.{Anchor, own, absolute, SlotExpr, constant, load, compute, call, unary, binary}
use Rattle.slot_trees.specs.SlotTrees.{SlotExprs, no_exprs, expr_then, Place, place, Subscripts, no_subscripts}
use Rattle.slot_trees.specs.SlotTrees.{subscript_then, BlockCode}

-- the effects of a text's units: of a function for its arguments, of a block for the first slot of its instance and
-- the values of all slots
pub record SlotUnits : Type 0 where
  pub functions : ℕ → List Datum → Run Datum
  pub blocks : BlockCode → ℕ → List Datum → Run (List Datum)

-- the scope of a body: the units, the first slot of its own variables, and the faults that stand for the cases that
-- no well-typed text meets
pub record SlotScope : Type 0 where
  pub units : SlotUnits
  pub base : ℕ
  pub stuck_faults : StuckFaults

-- the slot that an anchor stands for if a unit's own variables begin at the base
abbrev pub slot_at : ℕ → Anchor → ℕ
slot_at base (own o) = base + o
slot_at base (absolute k) = k

-- the value in a slot
abbrev pub loaded : SlotScope → List Datum → ℕ → Run Datum
loaded z vs k = attempt z.stuck_faults (or_failure valueless (known (slice_get vs k)))

abbrev mutual
  pub slot_value : SlotScope → List Datum → SlotExpr → Run Datum
  slot_value z vs (constant l) = attempt z.stuck_faults (value_of_literal l)
  slot_value z vs (load p) = do
    k ← placed z vs p
    loaded z vs k
  slot_value z vs (compute f es) = do
    xs ← slot_values z vs es
    attempt z.stuck_faults (standard_value f xs)
  slot_value z vs (call f es) = do
    xs ← slot_values z vs es
    z.units.functions f xs
  slot_value z vs (unary op e) = do
    x ← slot_value z vs e
    attempt z.stuck_faults (failing (apply_unary op x))
  slot_value z vs (binary op l r) = do
    x ← slot_value z vs l
    y ← slot_value z vs r
    attempt z.stuck_faults (apply op x y)

  pub slot_values : SlotScope → List Datum → SlotExprs → Run (List Datum)
  slot_values z vs no_exprs = give []
  slot_values z vs (expr_then e es) = do
    v ← slot_value z vs e
    xs ← slot_values z vs es
    give (v ∷ xs)

  -- the slot that a place leads to
  pub placed : SlotScope → List Datum → Place → Run ℕ
  placed z vs (place a ss) = led z vs (slot_at z.base a) ss

  -- the slot that subscripts lead to from one: each is evaluated and tested before the next
  pub led : SlotScope → List Datum → ℕ → Subscripts → Run ℕ
  led z vs k no_subscripts = give k
  led z vs k (subscript_then e lower count stride ss) = do
    v ← slot_value z vs e
    if in_bounds lower count v.number then led z vs (k + distance lower v.number * stride) ss else fault Index

-- the truth of a condition
unfoldable pub slot_truth : SlotScope → SlotExpr → List Datum → Run Bool
slot_truth z e vs = do
  v ← slot_value z vs e
  attempt z.stuck_faults (condition_of v)
