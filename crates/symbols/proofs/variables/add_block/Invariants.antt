use Rattle.std.proofs.Common.{◌≡◌, List, ℕ, drop, if◌then◌else◌, Some, None, map}
use Rattle.std.specs.List.{list_any}
use Rattle.st_types.specs.DeclarationViews.{declaration_view}
use Rattle.st_meaning.specs.NameTypes.{is_named, type_in}
use Rattle.symbols.specs.Found.{or_found}
use Rattle.symbols.specs.Variables.{type_found, section_found}
use Rattle.symbols.proofs.variables.add_block.Given as goal

abbrev pub invariant-loop-declaration : goal.invariant-loop-declaration
invariant-loop-declaration l =
    ((q : List ℕ) → or_found (type_found l.variables q)
    (type_in (map declaration_view (drop l.declaration-index l.declarations)) q)
    ≡ or_found (type_found l.initial.variables q) (type_in (map declaration_view l.declarations) q))
    × ((q : List ℕ) → or_found (section_found l.variables q)
    (if list_any (λ d. list_any (is_named q) d.names) (map declaration_view (drop l.declaration-index l.declarations))
    then Some l.section else None)
    ≡ or_found (section_found l.initial.variables q)
    (if list_any (λ d. list_any (is_named q) d.names) (map declaration_view l.declarations)
    then Some l.section else None))
