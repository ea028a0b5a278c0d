use Rattle.std.proofs.Common.{◌≡◌, ◌++◌, map, drop}
use Rattle.std.specs.List.{flat_map}
use Rattle.st_types.specs.DeclarationViews.{type_declaration_view}
use Rattle.st_decl.specs.Entries.{entry_view, entries_of_type}
use Rattle.st_decl.proofs.entries.push_types.Given as goal

abbrev pub invariant-loop-declaration : goal.invariant-loop-declaration
invariant-loop-declaration l = map entry_view l.entries.items
    ++ flat_map entries_of_type (map type_declaration_view (drop l.declaration-index l.types))
    ≡ map entry_view l.initial.entries.items ++ flat_map entries_of_type (map type_declaration_view l.types)
