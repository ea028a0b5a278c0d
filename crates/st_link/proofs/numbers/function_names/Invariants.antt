use Rattle.std.proofs.Common.{◌≡◌, ◌++◌, map, drop}
use Rattle.st_types.specs.UnitViews.{unit_view}
use Rattle.slot_trees.specs.TextNumbers.{function_names}
use Rattle.st_link.proofs.numbers.function_names.Given as goal

-- the elements so far and those still to come
abbrev pub invariant-loop-unit : goal.invariant-loop-unit
invariant-loop-unit l = map (λ x. x.now) l.names.items
    ++ function_names (map (λ u. unit_view u.now) (drop l.unit-index l.units))
    ≡ function_names (map (λ u. unit_view u.now) l.units)
