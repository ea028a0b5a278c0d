use Rattle.std.proofs.Common.{◌≡◌, ◌++◌, drop, map}
use Rattle.std.specs.List.{flat_map}
use Rattle.st_types.specs.ConfigurationViews.{global_declaration_view}
use Rattle.config.specs.Globals.{globals_of_declaration, named_global_view}
use Rattle.config.proofs.globals.push_block.Given as goal

abbrev pub invariant-loop-declaration : goal.invariant-loop-declaration
invariant-loop-declaration l = map named_global_view l.globals.items
    ++ flat_map (globals_of_declaration l.block.qualifier)
    (map global_declaration_view (drop l.declaration-index l.block.declarations.items))
    ≡ map named_global_view l.initial.globals.items
    ++ flat_map (globals_of_declaration l.block.qualifier) (map global_declaration_view l.block.declarations.items)
