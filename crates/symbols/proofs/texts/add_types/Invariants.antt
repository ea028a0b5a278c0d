use Rattle.std.proofs.Common.{◌≡◌, List, ℕ, take}
use Rattle.std.specs.Prelude.{map}
use Rattle.st_types.specs.DeclarationViews.{type_declaration_view}
use Rattle.st_meaning.specs.NameTypes.{type_named}
use Rattle.symbols.specs.Found.{or_found}
use Rattle.symbols.specs.Texts.{type_found}
use Rattle.symbols.proofs.texts.add_types.Given as goal

abbrev pub invariant-loop-declaration : goal.invariant-loop-declaration
invariant-loop-declaration l = (q : List ℕ) → type_found l.types q ≡ or_found (type_found l.initial.types q)
    (type_named (map type_declaration_view (take l.declaration-index l.declared)) q)
