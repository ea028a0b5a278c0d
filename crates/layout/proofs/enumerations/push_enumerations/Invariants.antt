use Rattle.std.proofs.Common.{◌≡◌, ◌++◌, drop, map}
use Rattle.std.specs.Vec.{vec_items}
use Rattle.st_types.specs.DeclarationViews.{type_declaration_view}
use Rattle.layout.specs.TypeNames.{names_of_types}
use Rattle.layout.proofs.enumerations.push_enumerations.Given as goal

abbrev pub invariant-loop-declared : goal.invariant-loop-declared
invariant-loop-declared l =
    map vec_items l.enumerations.items
    ++ names_of_types (map type_declaration_view (drop l.declared-index l.types))
    ≡ map vec_items l.initial.enumerations.items ++ names_of_types (map type_declaration_view l.types)
