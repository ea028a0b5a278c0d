use Rattle.std.proofs.Common.{◌≡◌, ◌++◌, map, drop}
use Rattle.st_types.specs.DeclarationViews.{declaration_view}
use Rattle.st_meaning.specs.NameTypes.{Declared}
use Rattle.st_meaning.specs.ResolvedUnits.{resolved_declaration}
use Rattle.symbols.specs.Fields.{ServesFields}
use Rattle.symbols.specs.Tables.{ServesTables}
use Rattle.st_resolved.proofs.declarations.resolved_declarations.Given as goal

abbrev pub invariant-loop-declaration : goal.invariant-loop-declaration
invariant-loop-declaration l = (text : Declared) → ServesTables l.tables text → ServesFields l.fields text
    → map declaration_view l.resolved.items ++ map (resolved_declaration text) (map declaration_view (drop l.declaration-index l.declarations))
    ≡ map (resolved_declaration text) (map declaration_view l.declarations)
