use Rattle.std.proofs.Common.{◌≡◌, ◌++◌, map, drop}
use Rattle.st_types.specs.UnitViews.{unit_view}
use Rattle.st_decl.proofs.too_deep.push_unit_places.Given as goal

abbrev pub invariant-loop-unit : goal.invariant-loop-unit
invariant-loop-unit l = l.places.items
    ++ map (λ u. u.name.place) (map (λ u. unit_view u.now) (drop l.unit-index l.units))
    ≡ l.initial.places.items ++ map (λ u. u.name.place) (map (λ u. unit_view u.now) l.units)
