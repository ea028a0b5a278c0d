use Rattle.std.proofs.Common.{rules, refl, ◌+◌, map, take}
use Rattle.symbols.specs.Found.{found}
use Rattle.config.specs.Globals.{global_named, global_view, named_global_view}
use Rattle.config.proofs.GlobalLemmas.{global_more, agree_more}
use Rattle.config.proofs.globals.first_of_each.Goals as goal

pub loop-named-preserved : goal.loop-named-preserved
loop-named-preserved c x =
    let gs = c.args.globals.now in
    let i = c.loop-named.named-index in
    let g = c.named-item.result in
    agree_more (found c.loop-named.index x) (found c.add.new.self x)
    (global_named (map named_global_view (take i gs)) x) (global_named (map named_global_view (take (i + 1) gs)) x)
    g.global (global_view g.global) _ (c.in_ok-add.ensures.added x)
    (global_more gs i g x (search rules) (search rules)) refl (c.loop-named.invariant x)
