use Rattle.std.proofs.Common.{◌≡◌, ◌++◌, map, drop}
use Rattle.st_decl.specs.Parts.{link_of}
use Rattle.symbols.specs.Found.{found}
use Rattle.st_rules.specs.Containment.{parts_of_definition}
use Rattle.st_types.specs.DeclarationViews.{type_declaration_view}
use Rattle.st_decl.proofs.links.push_types.Given as goal

abbrev pub invariant-loop-declaration : goal.invariant-loop-declaration
invariant-loop-declaration l = map (λ n. n.items) l.nodes.items
    ++ map (map (link_of (found l.numbers))) (map (λ t. parts_of_definition t.definition) (map
    (λ t. type_declaration_view t.now) (drop l.declaration-index l.types)))
    ≡ map (λ n. n.items) l.initial.nodes.items
    ++ map (map (link_of (found l.numbers))) (map (λ t. parts_of_definition t.definition) (map
    (λ t. type_declaration_view t.now) l.types))
