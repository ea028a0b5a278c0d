use Rattle.std.proofs.Common.{◌≡◌, ℕ, List, map, take}
use Rattle.symbols.specs.Found.{found}
use Rattle.slot_trees.specs.Tables.{named_in}
use Rattle.slot_trees.specs.TextNumbers.{numbered_from}
use Rattle.st_link.proofs.numbers.numbered.Given as goal

abbrev pub invariant-loop-number : goal.invariant-loop-number
invariant-loop-number l = (x : List ℕ) → found l.numbers x
    ≡ named_in (numbered_from 0 (map (λ y. y.now) (take l.number l.names))) x
