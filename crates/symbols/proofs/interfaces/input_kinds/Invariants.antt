use Rattle.std.proofs.Common.{◌≡◌, ◌++◌, drop, map}
use Rattle.st_types.specs.DeclarationViews.{variable_block_view}
use Rattle.st_meaning.specs.NameTypes.{Declared, input_kinds}
use Rattle.st_meaning.specs.Enumerations.{enumerations_of}
use Rattle.symbols.specs.Enumerated.{HasEnumerations}
use Rattle.symbols.proofs.interfaces.input_kinds.Given as goal

abbrev pub invariant-loop-block : goal.invariant-loop-block
invariant-loop-block l = (text : Declared) → HasEnumerations l.enumerated (enumerations_of text.types)
    → l.kinds.items ++ input_kinds text (map variable_block_view (drop l.block-index l.blocks))
    ≡ input_kinds text (map variable_block_view l.blocks)
