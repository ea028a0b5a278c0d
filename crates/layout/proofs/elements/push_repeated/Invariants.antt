use Rattle.std.proofs.Common.{◌≡◌, ◌++◌, ◌-◌, map, replicate}
use Rattle.layout.specs.KeptSites.{given_view}
use Rattle.layout.proofs.elements.push_repeated.Given as goal

-- the elements so far and those still to come
abbrev pub invariant-loop : goal.invariant-loop
invariant-loop l = map given_view l.given.items ++ replicate (l.times - l.counter) (given_view l.initial')
    ≡ map given_view l.initial.given.items ++ replicate l.times (given_view l.initial')
