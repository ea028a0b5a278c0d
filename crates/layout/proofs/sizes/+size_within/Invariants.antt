use Rattle.std.proofs.Common.{drop}
use Rattle.st_meaning.specs.NameTypes.{Declared}
use Rattle.layout.specs.Compositions.{ServesTypes}
use Rattle.layout.specs.Sizes.{KnowsSizes}
use Rattle.layout.proofs.SizeLemmas.{SizedSoFar}
use Rattle.layout.proofs.sizes.+size_within.Given as goal

abbrev pub decreases-size_within : goal.decreases-size_within
decreases-size_within l = l.depth

abbrev pub invariant-loop-part : goal.invariant-loop-part
invariant-loop-part l = record {
  known : (text : Declared) → ServesTypes l.types text → KnowsSizes text l.fn.known → KnowsSizes text l.known;
  sized : (text : Declared) → ServesTypes l.types text → KnowsSizes text l.fn.known
      → SizedSoFar text l.initial.total l.total l.part-items (drop l.part-index l.part-items);
}
