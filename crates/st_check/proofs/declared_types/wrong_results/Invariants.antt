use Rattle.std.proofs.Common.{map, drop}
use Rattle.std.specs.List.{flat_map}
use Rattle.st_meaning.specs.NameTypes.{Declared}
use Rattle.st_rules.specs.TypeRules.{wrong_result}
use Rattle.st_rules.proofs.CollectLemmas.{Searches}
use Rattle.symbols.specs.Texts.{ServesText}
use Rattle.symbols.specs.Tables.{ServesTables}
use Rattle.st_decl.specs.Entries.{of_each, entry_view, result_of}
use Rattle.st_check.proofs.declared_types.wrong_results.Given as goal

abbrev pub invariant-loop-entry : goal.invariant-loop-entry
invariant-loop-entry l = (text : Declared) → ServesText l.names text → ServesTables l.tables text
    → Searches (flat_map (λ e. of_each (wrong_result text) (result_of e)) (map entry_view l.entries))
    (flat_map (λ e. of_each (wrong_result text) (result_of e)) (map entry_view (drop l.entry-index l.entries)))
    l.initial.broken l.broken
