use Rattle.std.proofs.Common.{◌≡◌, ◌++◌, map, drop}
use Rattle.st_decl.specs.Parts.{part_view}
use Rattle.st_rules.specs.Containment.{part_of_type}
use Rattle.st_types.specs.DeclarationViews.{declaration_view}
use Rattle.st_decl.proofs.parts.push_variables.Given as goal

abbrev pub invariant-loop-declaration : goal.invariant-loop-declaration
invariant-loop-declaration l = map part_view l.parts.items
    ++ map (λ d. part_of_type d.declared) (map declaration_view
    (drop l.declaration-index l.block.declarations.items))
    ≡ map part_view l.initial.parts.items
    ++ map (λ d. part_of_type d.declared) (map declaration_view l.block.declarations.items)
