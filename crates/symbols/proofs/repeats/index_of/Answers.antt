use Rattle.std.proofs.Common.{rules, ◌+◌, take}
use Rattle.std.specs.Prelude.{map}
use Rattle.symbols.specs.Found.{found}
use Rattle.symbols.proofs.RepeatLemmas.{more_named}
use Rattle.symbols.proofs.repeats.index_of.Goals as goal
use Rattle.st_types.proofs.ListLemmas.{map_take_next}

pub loop-identifier-preserved : goal.loop-identifier-preserved
loop-identifier-preserved c q =
    let xs = c.args.names.now in
    let i = c.loop-identifier.identifier-index in
    let y = c.identifier-item.result in
    more_named (map (λ x. x.now) (take i xs)) (map (λ x. x.now) (take (i + 1) xs)) y.now q
    (found c.loop-identifier.index q) (found c.add.new.self q)
    (map_take_next (λ x. x.now) xs i y (search rules) (search rules)) (c.loop-identifier.invariant q)
    (c.in_ok-add.ensures.added q)
