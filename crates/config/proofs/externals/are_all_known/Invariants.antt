use Rattle.std.proofs.Common.{◌≡◌, List, drop, map}
use Rattle.std.specs.List.{list_all}
use Rattle.st_types.specs.Configurations as tree
use Rattle.st_types.specs.DeclarationViews.{declaration_view}
use Rattle.st_meaning.specs.NameTypes.{Declared}
use Rattle.symbols.specs.Texts.{ServesText}
use Rattle.st_rules.specs.ConfigurationRules.{are_known_externals}
use Rattle.config.specs.Globals.{ServesGlobals}
use Rattle.config.proofs.externals.are_all_known.Given as goal

abbrev pub invariant-loop-declaration : goal.invariant-loop-declaration
invariant-loop-declaration l = (text : Declared) (blocks : List tree.GlobalBlock) → ServesText l.names.text.now text
    → ServesGlobals l.names.globals.now blocks
    → list_all (are_known_externals text blocks l.fn.constant) (map declaration_view l.declarations)
    ≡ list_all (are_known_externals text blocks l.fn.constant)
    (map declaration_view (drop l.declaration-index l.declarations))
