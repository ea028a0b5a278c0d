use Rattle.std.proofs.Common.{◌≡◌, ◌++◌, map, drop}
use Rattle.st_types.specs.ConfigurationViews.{global_declaration_view}
use Rattle.st_meaning.specs.NameTypes.{Declared}
use Rattle.st_meaning.specs.ResolvedUnits.{resolved_global}
use Rattle.symbols.specs.Fields.{ServesFields}
use Rattle.symbols.specs.Tables.{ServesTables}
use Rattle.st_resolved.proofs.globals.resolved_block.Given as goal

abbrev pub invariant-loop-declaration : goal.invariant-loop-declaration
invariant-loop-declaration l = (text : Declared) → ServesTables l.tables text → ServesFields l.fields text
    → map global_declaration_view l.resolved.items ++ map (resolved_global text) (map global_declaration_view (drop l.declaration-index l.declarations))
    ≡ map (resolved_global text) (map global_declaration_view l.declarations)
