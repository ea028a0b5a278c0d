use Rattle.std.proofs.Common.{take, map}
use Rattle.st_types.specs.DeclarationViews.{type_declaration_view}
use Rattle.st_meaning.specs.Enumerations.{enumerations_of}
use Rattle.symbols.specs.Enumerated.{HasEnumerations}
use Rattle.symbols.proofs.enumerations.EnumeratedNames.new.Given as goal

abbrev pub invariant-loop-declaration : goal.invariant-loop-declaration
invariant-loop-declaration l = HasEnumerations l.names
    (enumerations_of (map (λ t. type_declaration_view t.now) (take l.declaration-index l.types)))
