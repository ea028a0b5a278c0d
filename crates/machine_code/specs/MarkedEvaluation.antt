-- The value of an expression over slots that are marked: which were looked up before they were assigned, and which were
-- assigned. Without the marks it is the value over slots.
use Rattle.std.specs.Prelude.{ℕ, ◌+◌, ◌*◌, List, [], ◌∷◌, Bool, if◌then◌else◌, Some}
use Rattle.st_types.specs.declared.fault.Fault.TheVariants.{Index}
use Rattle.st_types.specs.Values.{Datum}
use Rattle.st_meaning.specs.Failures.{Failure, StuckFaults, valueless, or_failure, failing}
use Rattle.st_meaning.specs.Ticks.{Run, ◌>>=◌, give, fault, attempt}
use Rattle.st_meaning.specs.Operators.{value_of_literal, apply, apply_unary, condition_of}
use Rattle.st_meaning.specs.StandardFunctions.{standard_value}
use Rattle.st_meaning.specs.Evaluation.{known}
use Rattle.layout.specs.Shapes.{in_bounds, distance}
use Rattle.machine_code.specs.Tracking.{Tracked, tracking}
use Rattle.slot_trees.specs.SlotTrees.{SlotExpr, constant, load, compute, call, unary, binary}
use Rattle.slot_trees.specs.SlotTrees.{SlotExprs, no_exprs, expr_then, Place, place, Subscripts, no_subscripts}
use Rattle.slot_trees.specs.SlotTrees.{subscript_then, BlockCode}
use Rattle.slot_trees.specs.SlotEvaluation.{slot_at}

-- the units of a text, a block with the marks of all slots
pub record MarkedUnits : Type 0 where
  pub functions : ℕ → List Datum → Run Datum
  pub blocks : BlockCode → ℕ → Tracked → Run Tracked

-- where a body runs
pub record MarkedScope : Type 0 where
  pub units : MarkedUnits
  pub base : ℕ
  pub stuck_faults : StuckFaults

-- the value of a slot as it is, which is marked; this failure if there is no such slot
abbrev pub marked_look : StuckFaults → Failure → Tracked → ℕ → Run (Datum × Tracked)
marked_look t e m k = attempt t (or_failure e (tracking.look m k))

-- the value of a variable
abbrev pub marked_load : StuckFaults → Tracked → ℕ → Run (Datum × Tracked)
marked_load t m k = do
  r ← marked_look t valueless m k
  v ← attempt t (or_failure valueless (known (Some r.0)))
  give (v, r.1)

abbrev mutual
  pub marked_value : MarkedScope → Tracked → SlotExpr → Run (Datum × Tracked)
  marked_value z m (constant l) = do
    v ← attempt z.stuck_faults (value_of_literal l)
    give (v, m)
  marked_value z m (load p) = do
    r ← marked_place z m p
    marked_load z.stuck_faults r.1 r.0
  marked_value z m (compute f es) = do
    r ← marked_values z m es
    v ← attempt z.stuck_faults (standard_value f r.0)
    give (v, r.1)
  marked_value z m (call f es) = do
    r ← marked_values z m es
    v ← z.units.functions f r.0
    give (v, r.1)
  marked_value z m (unary op e) = do
    r ← marked_value z m e
    v ← attempt z.stuck_faults (failing (apply_unary op r.0))
    give (v, r.1)
  marked_value z m (binary op x y) = do
    r ← marked_value z m x
    s ← marked_value z r.1 y
    v ← attempt z.stuck_faults (apply op r.0 s.0)
    give (v, s.1)

  pub marked_values : MarkedScope → Tracked → SlotExprs → Run (List Datum × Tracked)
  marked_values z m no_exprs = give ([], m)
  marked_values z m (expr_then e es) = do
    r ← marked_value z m e
    s ← marked_values z r.1 es
    give (r.0 ∷ s.0, s.1)

  -- the slot that a place leads to
  pub marked_place : MarkedScope → Tracked → Place → Run (ℕ × Tracked)
  marked_place z m (place a ss) = marked_led z m (slot_at z.base a) ss

  pub marked_led : MarkedScope → Tracked → ℕ → Subscripts → Run (ℕ × Tracked)
  marked_led z m k no_subscripts = give (k, m)
  marked_led z m k (subscript_then e lower count stride ss) = do
    r ← marked_value z m e
    if in_bounds lower count r.0.number then marked_led z r.1 (k + distance lower r.0.number * stride) ss
        else fault Index

-- the truth of a condition
unfoldable pub marked_truth : MarkedScope → SlotExpr → Tracked → Run (Bool × Tracked)
marked_truth z e m = do
  r ← marked_value z m e
  go ← attempt z.stuck_faults (condition_of r.0)
  give (go, r.1)
