use Rattle.std.proofs.Common.{◌≡◌, List, take, ℕ}
use Rattle.std.specs.Prelude.{is_some, map}
use Rattle.std.specs.List.{list_any}
use Rattle.st_meaning.specs.NameTypes.{is_named}
use Rattle.symbols.specs.Found.{found}
use Rattle.symbols.proofs.repeats.index_of.Given as goal

abbrev pub invariant-loop-identifier : goal.invariant-loop-identifier
invariant-loop-identifier l = (q : List ℕ) → is_some (found l.index q)
    ≡ list_any (is_named q) (map (λ x. x.now) (take l.identifier-index l.names))
