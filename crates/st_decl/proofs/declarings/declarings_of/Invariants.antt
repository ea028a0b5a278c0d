use Rattle.std.proofs.Common.{◌≡◌, ◌++◌, map, drop}
use Rattle.std.specs.List.{filter_map}
use Rattle.st_decl.specs.DeclaringViews.{declaring_view}
use Rattle.st_decl.specs.Entries.{entry_view, declaring_of}
use Rattle.st_decl.proofs.declarings.declarings_of.Given as goal

abbrev pub invariant-loop-entry : goal.invariant-loop-entry
invariant-loop-entry l = map declaring_view l.declarings.items
    ++ filter_map declaring_of (map entry_view (drop l.entry-index l.entries))
    ≡ filter_map declaring_of (map entry_view l.entries)
