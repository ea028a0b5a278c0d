use Rattle.std.proofs.Common.{◌≡◌, ◌++◌, map, drop}
use Rattle.st_types.specs.UnitViews.{unit_view}
use Rattle.st_types.specs.SourceViews.{element_view}
use Rattle.st_meaning.specs.NameTypes.{units_in}
use Rattle.st_decl.proofs.elements.units_in.Given as goal

abbrev pub invariant-loop-element : goal.invariant-loop-element
invariant-loop-element l = map (λ u. unit_view u.now) l.units.items
    ++ units_in (map element_view (drop l.element-index l.source.elements.items))
    ≡ units_in (map element_view l.source.elements.items)
