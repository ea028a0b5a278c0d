use Rattle.std.proofs.Common.{rules, ◌≡◌, ◌+◌, ◌*◌}
use Rattle.std.specs.Prelude.{Some, slice_get}
use Rattle.quick_trees.specs.UnitValues.{HasOwnWord, IsExact, kinds_of}
use Rattle.quick_checks.specs.Checking.{frame_of, site_of}
use Rattle.quick_checks.proofs.Below.{one_more}
use Rattle.quick_checks.proofs.expressions.read_elements.Goals as goal

pub loop-index-preserved : goal.loop-index-preserved
loop-index-preserved c = record {
  each = λ now. one_more (λ j. slice_get (kinds_of (frame_of c.args.draft.now now) (site_of c.args.values.now))
      (c.in_ok-first.first + j * c.args.subscript.now.stride) ≡ Some c.in_ok-kind.kind) _ (c.loop-index.invariant.each now)
      (c.if-not-is_element.ensures.of_type (search rules) now);
  words = one_more (λ j. HasOwnWord c.args.draft.now.window.items (site_of c.args.values.now) (c.in_ok-first.first + j
      * c.args.subscript.now.stride)
      (c.in_ok-word.word + j * c.args.subscript.now.stride)) _ c.loop-index.invariant.words
      (c.if-not-is_element.ensures.has (search rules));
  exact = one_more (λ j. IsExact (site_of c.args.values.now) c.args.at.now.noted.items
      (c.in_ok-word.word + j * c.args.subscript.now.stride)) _ c.loop-index.invariant.exact
      (c.if-not-is_element.ensures.exact (search rules));
}
