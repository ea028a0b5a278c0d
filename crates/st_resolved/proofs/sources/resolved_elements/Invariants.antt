use Rattle.std.proofs.Common.{◌≡◌, ◌++◌, map, drop}
use Rattle.st_types.specs.SourceViews.{element_view}
use Rattle.st_meaning.specs.NameTypes.{Declared}
use Rattle.st_meaning.specs.ResolvedUnits.{resolved_element_of_text}
use Rattle.symbols.specs.Fields.{ServesFields}
use Rattle.symbols.specs.Tables.{ServesTables}
use Rattle.st_resolved.proofs.sources.resolved_elements.Given as goal

abbrev pub invariant-loop-element : goal.invariant-loop-element
invariant-loop-element l = (text : Declared) → ServesTables l.tables text → ServesFields l.fields text
    → map element_view l.resolved.items ++ map (resolved_element_of_text text) (map element_view (drop l.element-index l.elements))
    ≡ map (resolved_element_of_text text) (map element_view l.elements)
