use Rattle.std.proofs.Common.{◌≡◌, List, drop}
use Rattle.std.specs.List.{list_all}
use Rattle.st_types.specs.Configurations as tree
use Rattle.st_meaning.specs.NameTypes.{Declared}
use Rattle.symbols.specs.Texts.{ServesText}
use Rattle.st_rules.specs.ConfigurationRules.{is_known_single}
use Rattle.config.specs.Globals.{ServesGlobals}
use Rattle.config.proofs.instances.are_known_singles.Given as goal

abbrev pub invariant-loop-task : goal.invariant-loop-task
invariant-loop-task l = (text : Declared) (blocks : List tree.GlobalBlock) → ServesText l.names.text.now text
    → ServesGlobals l.names.globals.now blocks → list_all (λ t. is_known_single text blocks t.single) l.tasks
    ≡ list_all (λ t. is_known_single text blocks t.single) (drop l.task-index l.tasks)
