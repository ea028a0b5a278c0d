use Rattle.std.proofs.Common.{◌≡◌, List, ℕ, drop, map}
use Rattle.st_types.specs.DeclarationViews.{variable_block_view}
use Rattle.st_meaning.specs.NameTypes.{type_in_sections}
use Rattle.symbols.specs.Found.{or_found}
use Rattle.symbols.specs.Variables.{type_found}
use Rattle.symbols.specs.Interfaces.{is_of}
use Rattle.symbols.proofs.interfaces.side_of.Given as goal

abbrev pub invariant-loop-block : goal.invariant-loop-block
invariant-loop-block l = (q : List ℕ) → or_found (type_found l.variables q)
    (type_in_sections (is_of l.side) (map variable_block_view (drop l.block-index l.blocks)) q)
    ≡ type_in_sections (is_of l.side) (map variable_block_view l.blocks) q
