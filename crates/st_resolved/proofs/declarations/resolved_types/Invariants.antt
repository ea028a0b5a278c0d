use Rattle.std.proofs.Common.{◌≡◌, ◌++◌, map, drop}
use Rattle.st_types.specs.DeclarationViews.{type_declaration_view}
use Rattle.st_meaning.specs.NameTypes.{Declared}
use Rattle.st_meaning.specs.ResolvedUnits.{resolved_type_declaration}
use Rattle.symbols.specs.Fields.{ServesFields}
use Rattle.symbols.specs.Tables.{ServesTables}
use Rattle.st_resolved.proofs.declarations.resolved_types.Given as goal

abbrev pub invariant-loop-declaration : goal.invariant-loop-declaration
invariant-loop-declaration l = (text : Declared) → ServesTables l.tables text → ServesFields l.fields text
    → map type_declaration_view l.resolved.items ++ map (resolved_type_declaration text) (map type_declaration_view (drop l.declaration-index l.types))
    ≡ map (resolved_type_declaration text) (map type_declaration_view l.types)
