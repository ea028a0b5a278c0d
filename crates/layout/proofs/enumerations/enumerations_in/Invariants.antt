use Rattle.std.proofs.Common.{◌≡◌, ◌++◌, drop, map}
use Rattle.std.specs.Vec.{vec_items}
use Rattle.st_types.specs.SourceViews.{element_view}
use Rattle.layout.specs.TypeNames.{names_in_text}
use Rattle.layout.proofs.enumerations.enumerations_in.Given as goal

abbrev pub invariant-loop-element : goal.invariant-loop-element
invariant-loop-element l =
    map vec_items l.enumerations.items ++ names_in_text (map element_view (drop l.element-index l.element-items))
    ≡ names_in_text (map element_view l.element-items)
