use Rattle.std.proofs.Common.{◌≡◌, ◌++◌, map, drop}
use Rattle.st_types.specs.DeclarationViews.{field_view}
use Rattle.st_meaning.specs.NameTypes.{Declared}
use Rattle.st_meaning.specs.ResolvedUnits.{resolved_field}
use Rattle.symbols.specs.Fields.{ServesFields}
use Rattle.symbols.specs.Tables.{ServesTables}
use Rattle.st_resolved.proofs.declarations.resolved_structure.Given as goal

abbrev pub invariant-loop-field : goal.invariant-loop-field
invariant-loop-field l = (text : Declared) → ServesTables l.tables text → ServesFields l.fields text
    → map field_view l.resolved.items ++ map (resolved_field text) (map field_view (drop l.field-index l.structure))
    ≡ map (resolved_field text) (map field_view l.structure)
