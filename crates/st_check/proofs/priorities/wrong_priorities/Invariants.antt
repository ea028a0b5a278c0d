use Rattle.std.proofs.Common.{map, drop}
use Rattle.std.specs.List.{flat_map}
use Rattle.st_rules.specs.declared.reason.Reason.TheVariants.{PriorityTooGreat}
use Rattle.st_rules.specs.Faults.{breaking}
use Rattle.st_rules.proofs.CollectLemmas.{Searches}
use Rattle.st_decl.specs.Entries.{entry_view, priorities_of}
use Rattle.st_check.proofs.priorities.wrong_priorities.Given as goal

abbrev pub invariant-loop-entry : goal.invariant-loop-entry
invariant-loop-entry l = Searches (flat_map (λ e. breaking PriorityTooGreat (priorities_of e))
    (map entry_view l.entries))
    (flat_map (λ e. breaking PriorityTooGreat (priorities_of e)) (map entry_view (drop l.entry-index l.entries)))
    l.initial.broken l.broken
