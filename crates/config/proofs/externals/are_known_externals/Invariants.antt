use Rattle.std.proofs.Common.{◌≡◌, List, drop}
use Rattle.std.specs.List.{list_all}
use Rattle.st_types.specs.Configurations as tree
use Rattle.st_meaning.specs.NameTypes.{Declared}
use Rattle.symbols.specs.Texts.{ServesText}
use Rattle.st_rules.specs.ConfigurationRules.{is_known_external}
use Rattle.config.specs.Globals.{ServesGlobals}
use Rattle.config.proofs.externals.are_known_externals.Given as goal

-- all are known exactly if all that are still to come are
abbrev pub invariant-loop-name : goal.invariant-loop-name
invariant-loop-name l = (text : Declared) (blocks : List tree.GlobalBlock) → ServesText l.names.text.now text
    → ServesGlobals l.names.globals.now blocks
    → list_all (λ x. is_known_external text blocks l.fn.constant l.declaration.declared x.name)
    l.declaration.names.items
    ≡ list_all (λ x. is_known_external text blocks l.fn.constant l.declaration.declared x.name)
    (drop l.name-index l.declaration.names.items)
