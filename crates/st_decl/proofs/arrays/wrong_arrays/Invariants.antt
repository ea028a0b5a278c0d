use Rattle.std.proofs.Common.{map, drop}
use Rattle.std.specs.List.{flat_map}
use Rattle.st_rules.specs.TypeRules.{wrong_bounds}
use Rattle.st_rules.proofs.CollectLemmas.{Searches}
use Rattle.st_decl.specs.Entries.{of_each, entry_view, array_of}
use Rattle.st_decl.proofs.arrays.wrong_arrays.Given as goal

abbrev pub invariant-loop-entry : goal.invariant-loop-entry
invariant-loop-entry l =
    Searches (flat_map (λ e. of_each wrong_bounds (array_of e)) (map entry_view l.entries))
    (flat_map (λ e. of_each wrong_bounds (array_of e)) (map entry_view (drop l.entry-index l.entries))) l.initial.broken
    l.broken
