-- An expression over marked slots has the value that it has over slots, and leaves their values.
use Rattle.std.proofs.Common.{ℕ, ◌+◌, ◌*◌, List, [], ◌∷◌, Option, Some, None, refl, subst}
use Rattle.std.specs.Prelude.{slice_get}
use Rattle.st_types.specs.declared.fault.Fault.TheVariants.{Index}
use Rattle.st_types.specs.Values.{Datum}
use Rattle.st_meaning.specs.Failures.{Failure, StuckFaults, valueless, or_failure, failing}
use Rattle.st_meaning.specs.Ticks.{◌>>=◌, give, attempt}
use Rattle.st_meaning.specs.Operators.{value_of_literal, apply, apply_unary, condition_of}
use Rattle.st_meaning.specs.StandardFunctions.{standard_value}
use Rattle.st_meaning.specs.Evaluation.{known}
use Rattle.layout.specs.Shapes.{in_bounds, distance}
use Rattle.machine_code.specs.Tracking.{Tracked, looked}
use Rattle.slot_trees.specs.SlotTrees.{SlotExpr, constant, load, compute, call, unary, binary, SlotExprs, no_exprs}
use Rattle.slot_trees.specs.SlotTrees.{expr_then, Place, place, Subscripts, no_subscripts, subscript_then, BlockCode}
use Rattle.slot_trees.specs.SlotEvaluation.{SlotUnits, SlotScope, slot_at, slot_value, slot_values, placed, led}
use Rattle.slot_trees.specs.SlotEvaluation.{slot_truth}
use Rattle.slot_trees.specs.SlotExecution.{Slots}
use Rattle.slot_trees.specs.Alike.{RunEqually}
use Rattle.slot_trees.proofs.Sim.{Same, sim_give, sim_fault, sim_if, sim_attempt, sim_attempted, ResultAlike}
use Rattle.machine_code.specs.MarkedEvaluation.{MarkedUnits, MarkedScope, marked_look, marked_load, marked_value}
use Rattle.machine_code.specs.MarkedEvaluation.{marked_values, marked_place, marked_led, marked_truth}
use Rattle.machine_code.proofs.UnmarkedLoops.{Unmarked, SameFrom, ReadRun, StateRun, ConditionRun, sim_read, sim_kept}

-- units that do the same, but for marks
pub record UnitsAlike (units : MarkedUnits) (others : SlotUnits) : Type 0 where
  pub functions : (f : ℕ) (xs : List Datum)
      → RunEqually Datum Datum (Same Datum) (units.functions f xs) (others.functions f xs)
  pub blocks : (code : BlockCode) (at : ℕ) (m : Tracked) (vs : Slots) → Unmarked m vs
      → StateRun (units.blocks code at m) (others.blocks code at vs)

module _ (t : StuckFaults) where
  look_by : (e : Failure) (m : Tracked) (k : ℕ) (o : Option Datum)
      → ResultAlike (SameFrom Datum m.values) (or_failure e (looked m k o)) (or_failure e o)
  look_by e m k (Some v) = (refl, refl)
  look_by e m k None = refl

  -- a slot's value as it is
  pub look_sim : (e : Failure) (m : Tracked) (k : ℕ) (vs : Slots) → Unmarked m vs
      → ReadRun Datum vs (marked_look t e m k) (attempt t (or_failure e (slice_get vs k)))
  look_sim e m k vs h =
      subst (λ us. ReadRun Datum us (marked_look t e m k) (attempt t (or_failure e (slice_get us k)))) h
      (sim_attempt t (or_failure e (looked m k (slice_get m.values k))) (or_failure e (slice_get m.values k))
      (look_by e m k (slice_get m.values k)))

  load_by : (m : Tracked) (k : ℕ) (o : Option Datum)
      → ReadRun Datum m.values
      (attempt t (or_failure valueless (looked m k o)) >>= (λ r. attempt t (or_failure valueless (known (Some r.0)))
      >>= (λ v. give (v, r.1)))) (attempt t (or_failure valueless (known o)))
  load_by m k (Some v) = sim_kept _ m.values refl (sim_attempted t (or_failure valueless (known (Some v))))
  load_by m k None = sim_fault t.missing

  load_sim : (m : Tracked) (k : ℕ) (vs : Slots) → Unmarked m vs
      → ReadRun Datum vs (marked_load t m k) (attempt t (or_failure valueless (known (slice_get vs k))))
  load_sim m k vs h =
      subst (λ us. ReadRun Datum us (marked_load t m k) (attempt t (or_failure valueless (known (slice_get us k))))) h
      (load_by m k (slice_get m.values k))

module _ (t : StuckFaults) (units : MarkedUnits) (others : SlotUnits) (alike : UnitsAlike units others) (base : ℕ) where
  abbrev marking : MarkedScope
  marking = record { units = units; base = base; stuck_faults = t }

  abbrev plainly : SlotScope
  plainly = record { units = others; base = base; stuck_faults = t }

  mutual
    pub value_sim : (e : SlotExpr) (m : Tracked) (vs : Slots) → Unmarked m vs
        → ReadRun Datum vs (marked_value marking m e) (slot_value plainly vs e)
    value_sim (constant l) m vs h = sim_kept m vs h (sim_attempted t (value_of_literal l))
    value_sim (load p) m vs h = sim_read _ _ (place_sim p m vs h) (λ k n g. load_sim t n k vs g)
    value_sim (compute f es) m vs h =
        sim_read _ _ (values_sim es m vs h) (λ xs n g. sim_kept n vs g (sim_attempted t (standard_value f xs)))
    value_sim (call f es) m vs h =
        sim_read _ _ (values_sim es m vs h) (λ xs n g. sim_kept n vs g (alike.functions f xs))
    value_sim (unary op e) m vs h =
        sim_read _ _ (value_sim e m vs h) (λ x n g. sim_kept n vs g (sim_attempted t (failing (apply_unary op x))))
    value_sim (binary op l r) m vs h =
        sim_read _ _ (value_sim l m vs h) (λ x n g.
        sim_read _ _ (value_sim r n vs g) (λ y k i. sim_kept k vs i (sim_attempted t (apply op x y))))

    pub values_sim : (es : SlotExprs) (m : Tracked) (vs : Slots) → Unmarked m vs
        → ReadRun (List Datum) vs (marked_values marking m es) (slot_values plainly vs es)
    values_sim no_exprs m vs h = sim_give ([], m) [] (refl, h)
    values_sim (expr_then e es) m vs h =
        sim_read _ _ (value_sim e m vs h) (λ v n g.
        sim_read _ _ (values_sim es n vs g) (λ xs k i. sim_give (v ∷ xs, k) (v ∷ xs) (refl, i)))

    pub place_sim : (p : Place) (m : Tracked) (vs : Slots) → Unmarked m vs
        → ReadRun ℕ vs (marked_place marking m p) (placed plainly vs p)
    place_sim (place a ss) m vs h = led_sim ss (slot_at base a) m vs h

    led_sim : (ss : Subscripts) (k : ℕ) (m : Tracked) (vs : Slots) → Unmarked m vs
        → ReadRun ℕ vs (marked_led marking m k ss) (led plainly vs k ss)
    led_sim no_subscripts k m vs h = sim_give (k, m) k (refl, h)
    led_sim (subscript_then e lower count stride ss) k m vs h =
        sim_read _ _ (value_sim e m vs h) (λ v n g. sim_if (in_bounds lower count v.number)
        (led_sim ss (k + distance lower v.number * stride) n vs g) (sim_fault Index))

  pub truth_sim : (e : SlotExpr) → ConditionRun (marked_truth marking e) (slot_truth plainly e)
  unfolding marked_truth slot_truth
  truth_sim e m vs h = sim_read _ _ (value_sim e m vs h) (λ v n g. sim_kept n vs g (sim_attempted t (condition_of v)))
