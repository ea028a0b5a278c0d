use Rattle.std.proofs.Common.{◌≡◌, map, drop}
use Rattle.st_types.specs.DeclarationViews.{declaration_view}
use Rattle.st_meaning.specs.NameTypes.{type_in}
use Rattle.st_meaning.proofs.lookup.type_in.Given as goal

abbrev pub invariant-loop-declaration : goal.invariant-loop-declaration
invariant-loop-declaration l = type_in (map declaration_view l.declarations) l.name
    ≡ type_in (map declaration_view (drop l.declaration-index l.declarations)) l.name
