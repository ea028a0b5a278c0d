use Rattle.std.proofs.Common.{map, drop}
use Rattle.std.specs.List.{flat_map}
use Rattle.st_meaning.specs.NameTypes.{Declared}
use Rattle.st_rules.specs.LabelRules.{wrong_label}
use Rattle.st_rules.proofs.CollectLemmas.{Searches}
use Rattle.symbols.specs.Tables.{ServesTables}
use Rattle.st_typing.proofs.labels.wrong_alone.Given as goal

abbrev pub invariant-loop-label : goal.invariant-loop-label
invariant-loop-label l = (text : Declared) → ServesTables l.tables text
    → Searches (flat_map (wrong_label text l.selector) (map (λ x. x.now) l.labels))
    (flat_map (wrong_label text l.selector) (map (λ x. x.now) (drop l.label-index l.labels))) l.initial.broken l.broken
