use Rattle.std.proofs.Common.{◌≡◌, ◌+◌, ◌*◌, ◌^◌, ◌≤◌, map, drop}
use Rattle.st_types.specs.Initials.{elements_of}
use Rattle.st_types.specs.InitialViews.{element_view}
use Rattle.st_rules.specs.InitialRules.{count_of_elements}
use Rattle.st_decl.proofs.long_lists.count_of_elements.Given as goal

abbrev pub invariant-loop-element : goal.invariant-loop-element
invariant-loop-element l =
    (l.count + count_of_elements (elements_of (map element_view (drop l.element-index l.elements)))
    ≡ count_of_elements (elements_of (map element_view l.elements))) × (l.count ≤ 2 ^ 64 * l.element-index)
