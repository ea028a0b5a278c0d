use Rattle.std.proofs.Common.{map, drop}
use Rattle.std.specs.List.{flat_map}
use Rattle.st_rules.specs.TypeRules.{wrong_bound_numbers}
use Rattle.st_rules.proofs.CollectLemmas.{Searches}
use Rattle.st_decl.specs.Entries.{of_each, entry_view, array_of}
use Rattle.st_check.proofs.arrays.wrong_bounds.Given as goal

abbrev pub invariant-loop-entry : goal.invariant-loop-entry
invariant-loop-entry l = Searches (flat_map (λ e. of_each wrong_bound_numbers (array_of e)) (map entry_view l.entries))
    (flat_map (λ e. of_each wrong_bound_numbers (array_of e)) (map entry_view (drop l.entry-index l.entries)))
    l.initial.broken l.broken
