use Rattle.std.proofs.Common.{◌≡◌, ◌++◌, map, drop}
use Rattle.st_types.specs.DeclarationViews.{declaration_view}
use Rattle.st_decl.specs.Entries.{entry_view, variable_declared}
use Rattle.st_decl.proofs.entries.push_block.Given as goal

abbrev pub invariant-loop-declaration : goal.invariant-loop-declaration
invariant-loop-declaration l = map entry_view l.entries.items
    ++ map (variable_declared l.sort l.block.section)
    (map declaration_view (drop l.declaration-index l.block.declarations.items))
    ≡ map entry_view l.initial.entries.items
    ++ map (variable_declared l.sort l.block.section) (map declaration_view l.block.declarations.items)
