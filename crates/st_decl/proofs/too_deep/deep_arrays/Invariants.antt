use Rattle.std.proofs.Common.{map, drop}
use Rattle.std.specs.List.{flat_map}
use Rattle.st_meaning.specs.NameTypes.{Declared}
use Rattle.st_rules.specs.Containment.{too_deep_array}
use Rattle.st_rules.proofs.CollectLemmas.{Searches}
use Rattle.symbols.specs.Found.{found}
use Rattle.st_decl.specs.Numbered.{AreJudged}
use Rattle.st_decl.proofs.too_deep.deep_arrays.Given as goal

abbrev pub invariant-loop-array : goal.invariant-loop-array
invariant-loop-array l = (text : Declared) → AreJudged text (found l.numbers) l.marks
    → Searches (flat_map (too_deep_array text) (map (λ a. a.now) l.arrays))
    (flat_map (too_deep_array text) (map (λ a. a.now) (drop l.array-index l.arrays))) l.initial.broken l.broken
