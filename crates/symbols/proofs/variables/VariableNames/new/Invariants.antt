use Rattle.std.proofs.Common.{◌≡◌, List, ℕ, drop, map}
use Rattle.st_types.specs.DeclarationViews.{variable_block_view}
use Rattle.st_meaning.specs.NameTypes.{type_in_blocks}
use Rattle.st_rules.specs.Environments.{section_in}
use Rattle.symbols.specs.Found.{or_found}
use Rattle.symbols.specs.Variables.{type_found, section_found}
use Rattle.symbols.proofs.variables.VariableNames.new.Given as goal

abbrev pub invariant-loop-block : goal.invariant-loop-block
invariant-loop-block l =
    ((q : List ℕ) → or_found (type_found l.variables q)
    (type_in_blocks (map variable_block_view (drop l.block-index l.blocks)) q)
    ≡ type_in_blocks (map variable_block_view l.blocks) q)
    × ((q : List ℕ) → or_found (section_found l.variables q)
    (section_in (map variable_block_view (drop l.block-index l.blocks)) q)
    ≡ section_in (map variable_block_view l.blocks) q)
