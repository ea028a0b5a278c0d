use Rattle.std.proofs.Common.{map, drop}
use Rattle.st_types.specs.Initials.{elements_of}
use Rattle.st_types.specs.InitialViews.{element_view}
use Rattle.st_rules.specs.InitialRules.{wrong_counts}
use Rattle.st_rules.proofs.CollectLemmas.{Searches}
use Rattle.st_check.proofs.initials.wrong_counts.Given as goal

abbrev pub invariant-loop-element : goal.invariant-loop-element
invariant-loop-element l = Searches (wrong_counts (elements_of (map element_view l.elements)))
    (wrong_counts (elements_of (map element_view (drop l.element-index l.elements)))) l.initial.broken l.broken
