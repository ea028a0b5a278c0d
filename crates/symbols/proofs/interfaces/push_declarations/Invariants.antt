use Rattle.std.proofs.Common.{◌≡◌, ◌++◌, drop, map}
use Rattle.st_types.specs.DeclarationViews.{declaration_view}
use Rattle.st_meaning.specs.NameTypes.{Declared, kinds_of_declarations}
use Rattle.st_meaning.specs.Enumerations.{enumerations_of}
use Rattle.symbols.specs.Enumerated.{HasEnumerations}
use Rattle.symbols.proofs.interfaces.push_declarations.Given as goal

abbrev pub invariant-loop-declaration : goal.invariant-loop-declaration
invariant-loop-declaration l = (text : Declared) → HasEnumerations l.enumerated (enumerations_of text.types)
    → l.kinds.items ++ kinds_of_declarations text (map declaration_view (drop l.declaration-index l.declarations))
    ≡ l.initial.kinds.items ++ kinds_of_declarations text (map declaration_view l.declarations)
