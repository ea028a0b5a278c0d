use Rattle.std.proofs.Common.{◌≡◌, List, drop, map}
use Rattle.std.specs.List.{list_all}
use Rattle.st_types.specs.Configurations as tree
use Rattle.st_types.specs.ConfigurationViews.{resource_view}
use Rattle.st_meaning.specs.NameTypes.{Declared}
use Rattle.symbols.specs.Texts.{ServesText}
use Rattle.st_rules.specs.ConfigurationRules.{is_known_resource}
use Rattle.config.specs.Globals.{ServesGlobals}
use Rattle.config.proofs.instances.are_known_resources.Given as goal

abbrev pub invariant-loop-resource : goal.invariant-loop-resource
invariant-loop-resource l = (text : Declared) (blocks : List tree.GlobalBlock) → ServesText l.names.text.now text
    → ServesGlobals l.names.globals.now blocks
    → list_all (is_known_resource text blocks) (map resource_view l.resources)
    ≡ list_all (is_known_resource text blocks) (map resource_view (drop l.resource-index l.resources))
