use Rattle.std.proofs.Common.{◌≡◌, List, drop, map}
use Rattle.std.specs.List.{list_all}
use Rattle.st_types.specs.Configurations as tree
use Rattle.st_types.specs.DeclarationViews.{variable_block_view}
use Rattle.st_meaning.specs.NameTypes.{Declared}
use Rattle.symbols.specs.Texts.{ServesText}
use Rattle.st_rules.specs.ConfigurationRules.{is_known_section}
use Rattle.config.specs.Globals.{ServesGlobals}
use Rattle.config.proofs.externals.has_known_externals.Given as goal

abbrev pub invariant-loop-block : goal.invariant-loop-block
invariant-loop-block l = (text : Declared) (blocks : List tree.GlobalBlock) → ServesText l.names.text.now text
    → ServesGlobals l.names.globals.now blocks
    → list_all (λ b. is_known_section text blocks b.section b.declarations)
    (map variable_block_view l.unit.blocks.items)
    ≡ list_all (λ b. is_known_section text blocks b.section b.declarations)
    (map variable_block_view (drop l.block-index l.unit.blocks.items))
