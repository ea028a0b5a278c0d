use Rattle.std.proofs.Common.{map, drop}
use Rattle.std.specs.List.{flat_map}
use Rattle.st_meaning.specs.NameTypes.{Declared}
use Rattle.st_rules.specs.InitialRules.{wrong_start}
use Rattle.st_rules.proofs.CollectLemmas.{Searches}
use Rattle.symbols.specs.Texts.{ServesText}
use Rattle.symbols.specs.Tables.{ServesTables}
use Rattle.symbols.specs.Fields.{ServesFields}
use Rattle.st_decl.specs.StartViews.{start_view}
use Rattle.st_check.proofs.initials.wrong_starts_of.Given as goal

abbrev pub invariant-loop-start : goal.invariant-loop-start
invariant-loop-start l = (text : Declared) → ServesText l.names text → ServesTables l.tables text
    → ServesFields l.fields text
    → Searches (flat_map (wrong_start text) (map start_view l.starts))
    (flat_map (wrong_start text) (map start_view (drop l.start-index l.starts)))
    l.initial.broken l.broken
