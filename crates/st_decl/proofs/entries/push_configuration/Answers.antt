use Rattle.std.proofs.Common.{rules, refl, map}
use Rattle.std.specs.List.{flat_map}
use Rattle.st_types.specs.ConfigurationViews.{global_block_view, resource_view}
use Rattle.st_decl.specs.Entries.{entry_view, entries_of_globals, resource_declared}
use Rattle.st_decl.proofs.FlatLemmas.{joined}
use Rattle.st_decl.proofs.PushLemmas.{pushed_turn, pushed_all}
use Rattle.st_decl.proofs.entries.push_configuration.Goals as goal

pub loop-block-preserved : goal.loop-block-preserved
loop-block-preserved c =
    pushed_turn _ _ c.args.configuration.now.globals.items c.loop-block.block-index c.block-item.result _ _ _
    (search rules) (search rules) c.loop-block.invariant c.in_ok-push_globals.ensures

pub returns : goal.returns
returns c =
    let blocks = c.args.configuration.now.globals.items in
    joined c.push_resources.result (map entry_view c.args.entries.now.items) (map entry_view c.loop-block.entries.items)
    (map entry_view c.push_resources.new.entries.items) (flat_map entries_of_globals (map global_block_view blocks))
    (map resource_declared (map resource_view c.args.configuration.now.resources.items)) _
    (pushed_all _ _ blocks _ _ _ (search rules) c.loop-block.invariant) refl (search rules)
