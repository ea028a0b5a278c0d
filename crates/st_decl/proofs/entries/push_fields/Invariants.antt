use Rattle.std.proofs.Common.{◌≡◌, ◌++◌, map, drop}
use Rattle.st_types.specs.DeclarationViews.{field_view}
use Rattle.st_decl.specs.Entries.{entry_view, field_declared}
use Rattle.st_decl.proofs.entries.push_fields.Given as goal

abbrev pub invariant-loop-field : goal.invariant-loop-field
invariant-loop-field l = map entry_view l.entries.items
    ++ map field_declared (map field_view (drop l.field-index l.fields))
    ≡ map entry_view l.initial.entries.items ++ map field_declared (map field_view l.fields)
