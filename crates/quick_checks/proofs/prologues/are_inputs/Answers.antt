use Rattle.std.proofs.Common.{rules, ◌≡◌, ◌∙◌, ap, ℕ, length, arith, inl, inr, sym, ◌<◌}
use Rattle.std.specs.Prelude.{Some, slice_get}
use Rattle.std.proofs.lemmas.Bool.{cases_order}
use Rattle.std.proofs.lemmas.Option.{slice_get_within}
use Rattle.st_types.specs.declared.kind.Kind.{Kind}
use Rattle.st_types.specs.Values.{Datum}
use Rattle.slot_trees.specs.LibraryViews.{slot_function_view}
use Rattle.quick_trees.specs.Calls.{kinds_in}
use Rattle.quick_checks.specs.Checking.{kinds_read}
use Rattle.quick_checks.proofs.Arguments.{long_kinds, long_words}
use Rattle.quick_checks.proofs.Below.{one_more}
use Rattle.quick_checks.proofs.prologues.are_inputs.Goals as goal

pub loop-index-preserved : goal.loop-index-preserved
loop-index-preserved c = record {
  typed = one_more (λ i. (k : ℕ) (t : Kind) → slice_get (slot_function_view c.args.function.now).inputs i ≡ Some k
      → slice_get (kinds_in (slot_function_view c.args.function.now)) k ≡ Some t
      → slice_get (kinds_read c.args.read.now) i ≡ Some t) _ c.loop-index.invariant.typed
      (c.if-not-is_input.ensures.typed (search rules));
  there = one_more (λ i. (k : ℕ) → slice_get (slot_function_view c.args.function.now).inputs i ≡ Some k
      → (v : Datum) × (slice_get (slot_function_view c.args.function.now).fresh k ≡ Some v)) _
      c.loop-index.invariant.there (c.if-not-is_input.ensures.there (search rules));
  first = one_more (λ i. (j k : ℕ) → slice_get (slot_function_view c.args.function.now).inputs i ≡ Some k
      → slice_get (slot_function_view c.args.function.now).inputs j ≡ Some k → j < i → ⊥) _
      c.loop-index.invariant.first (c.if-not-is_input.ensures.first (search rules));
}

pub returns : goal.returns
returns c =
    let g = slot_function_view c.args.function.now in
    let long : length g.inputs ≡ length c.args.read.now =
    omega (arith, ap length c.as_slice.ensures.value, c.if-read-as_slice.false) in
    let inside : (i k : ℕ) → slice_get g.inputs i ≡ Some k → i < c.loop-index.index =
    λ i k e. (let h = slice_get_within g.inputs i k e in omega (arith, h, long)) in
    λ yes. record {
      words_long = long_words c.args.read.now ∙ sym long;
      kinds_long = long_kinds c.args.read.now ∙ sym long;
      typed = λ i k t a b. c.loop-index.invariant.typed i (inside i k a) k t a b;
      there = λ i k a. c.loop-index.invariant.there i (inside i k a) k a;
      once = λ i j k a b. elim (cases_order i j) [
        | inl e ↦ e
        | inr (inl lt) ↦ absurd (c.loop-index.invariant.first j (inside j k b) i k b a lt)
        | inr (inr lt) ↦ absurd (c.loop-index.invariant.first i (inside i k a) j k a b lt)
      ];
    }
