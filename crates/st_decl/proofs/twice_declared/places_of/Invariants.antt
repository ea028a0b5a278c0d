use Rattle.std.proofs.Common.{◌≡◌, ℕ, List, map, option_map, take}
use Rattle.st_rules.specs.Places.{first_named}
use Rattle.symbols.specs.Found.{found}
use Rattle.st_decl.proofs.twice_declared.places_of.Given as goal

abbrev pub invariant-loop-name : goal.invariant-loop-name
invariant-loop-name l = (q : List ℕ)
    → found l.index q ≡ option_map (λ x. x.place) (first_named (map (λ x. x.now) (take l.name-index l.names)) q)
