use Rattle.std.proofs.Common.{◌≡◌, drop}
use Rattle.std.specs.List.{list_all}
use Rattle.st_meaning.specs.NameTypes.{Declared}
use Rattle.symbols.specs.Texts.{ServesText}
use Rattle.st_rules.specs.ConfigurationRules.{is_known_instance}
use Rattle.config.proofs.instances.are_known_instances.Given as goal

abbrev pub invariant-loop-instance : goal.invariant-loop-instance
invariant-loop-instance l = (text : Declared) → ServesText l.names.text.now text
    → list_all (is_known_instance text l.tasks) l.instances
    ≡ list_all (is_known_instance text l.tasks) (drop l.instance-index l.instances)
