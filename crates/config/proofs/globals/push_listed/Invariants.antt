use Rattle.std.proofs.Common.{◌≡◌, ◌++◌, drop, map}
use Rattle.config.specs.Globals.{global_view, named_global_view}
use Rattle.config.proofs.globals.push_listed.Given as goal

abbrev pub invariant-loop-name : goal.invariant-loop-name
invariant-loop-name l = map named_global_view l.globals.items
    ++ map (λ x. (x.name, global_view l.global)) (drop l.name-index l.names)
    ≡ map named_global_view l.initial.globals.items ++ map (λ x. (x.name, global_view l.global)) l.names
