use Rattle.std.proofs.Common.{◌≡◌, ◌++◌, map, drop}
use Rattle.st_types.specs.Initials.{elements_of}
use Rattle.st_types.specs.InitialViews.{element_view}
use Rattle.layout.specs.Sites.{listed_elements}
use Rattle.layout.specs.KeptSites.{given_view}
use Rattle.layout.proofs.elements.listed_elements.Given as goal

-- the elements so far and those still to come
abbrev pub invariant-loop-element : goal.invariant-loop-element
invariant-loop-element l = map given_view l.given.items
    ++ listed_elements (elements_of (map element_view (drop l.element-index l.elements)))
    ≡ listed_elements (elements_of (map element_view l.elements))
