use Rattle.std.proofs.Common.{◌≡◌, map, drop}
use Rattle.std.specs.List.{list_any}
use Rattle.st_types.specs.UnitViews.{unit_view}
use Rattle.st_rules.specs.Containment.{is_function_sort}
use Rattle.st_link.proofs.called_functions.has_functions.Given as goal

abbrev pub invariant-loop-unit : goal.invariant-loop-unit
invariant-loop-unit l = list_any (λ u. is_function_sort u.sort) (map (λ u. unit_view u.now) l.units)
    ≡ list_any (λ u. is_function_sort u.sort) (map (λ u. unit_view u.now) (drop l.unit-index l.units))
