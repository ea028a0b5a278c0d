use Rattle.std.proofs.Common.{◌≡◌, ◌++◌, map, drop}
use Rattle.symbols.specs.PlaceTypes.{place_type_view}
use Rattle.st_link.specs.LinkVariables.{named_so, variable_view}
use Rattle.st_link.proofs.variables.push_names.Given as goal

-- the elements so far and those still to come
abbrev pub invariant-loop-name : goal.invariant-loop-name
invariant-loop-name l = map variable_view l.variables.items
    ++ map (named_so (place_type_view l.initial.declared)) (drop l.name-index l.names)
    ≡ map variable_view l.initial.variables.items ++ map (named_so (place_type_view l.initial.declared)) l.names
