use Rattle.std.proofs.Common.{◌≡◌, ◌++◌, map, drop}
use Rattle.st_types.specs.UnitViews.{unit_view}
use Rattle.st_decl.proofs.links.push_unit_names.Given as goal

abbrev pub invariant-loop-unit : goal.invariant-loop-unit
invariant-loop-unit l = map (λ x. x.now) l.names.items
    ++ map (λ u. u.name.name) (map (λ u. unit_view u.now) (drop l.unit-index l.units))
    ≡ map (λ x. x.now) l.initial.names.items ++ map (λ u. u.name.name) (map (λ u. unit_view u.now) l.units)
