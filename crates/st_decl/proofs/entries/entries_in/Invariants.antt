use Rattle.std.proofs.Common.{◌≡◌, ◌++◌, map, drop}
use Rattle.std.specs.List.{flat_map}
use Rattle.st_types.specs.SourceViews.{element_view}
use Rattle.st_decl.specs.Entries.{entry_view, entries_of_element}
use Rattle.st_decl.proofs.entries.entries_in.Given as goal

abbrev pub invariant-loop-element : goal.invariant-loop-element
invariant-loop-element l = map entry_view l.entries.items
    ++ flat_map entries_of_element (map element_view (drop l.element-index l.source.elements.items))
    ≡ flat_map entries_of_element (map element_view l.source.elements.items)
