use Rattle.std.proofs.Common.{◌≡◌, ℕ, length, ◌-◌, ◌<◌}
use Rattle.std.specs.Prelude.{Some, slice_get}
use Rattle.st_types.specs.declared.kind.Kind.{Kind}
use Rattle.st_types.specs.Values.{Datum}
use Rattle.slot_trees.specs.LibraryViews.{slot_function_view}
use Rattle.quick_trees.specs.Calls.{kinds_in}
use Rattle.quick_checks.specs.Checking.{kinds_read}
use Rattle.quick_checks.proofs.prologues.are_inputs.Given as goal

abbrev pub invariant-loop-index : goal.invariant-loop-index
invariant-loop-index l = record {
  typed : (i : ℕ) → i < l.index → (k : ℕ) (t : Kind) → slice_get (slot_function_view l.function).inputs i ≡ Some k
      → slice_get (kinds_in (slot_function_view l.function)) k ≡ Some t → slice_get (kinds_read l.read) i ≡ Some t;
  there : (i : ℕ) → i < l.index → (k : ℕ) → slice_get (slot_function_view l.function).inputs i ≡ Some k
      → (v : Datum) × (slice_get (slot_function_view l.function).fresh k ≡ Some v);
  first : (i : ℕ) → i < l.index → (j k : ℕ) → slice_get (slot_function_view l.function).inputs i ≡ Some k
      → slice_get (slot_function_view l.function).inputs j ≡ Some k → j < i → ⊥;
}

abbrev pub decreases-loop-index : goal.decreases-loop-index
decreases-loop-index l = length l.read - l.index
