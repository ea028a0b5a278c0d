use Rattle.std.proofs.Common.{◌≡◌, ℕ, List, map, option_map, take, drop}
use Rattle.st_rules.specs.Places.{first_named}
use Rattle.st_rules.specs.TwiceDeclared.{repeated, repeated_after}
use Rattle.st_rules.proofs.CollectLemmas.{Searches}
use Rattle.symbols.specs.Found.{found}
use Rattle.st_decl.proofs.twice_declared.repeated.Given as goal

abbrev pub invariant-loop-name : goal.invariant-loop-name
invariant-loop-name l =
    ((q : List ℕ)
    → found l.places q ≡ option_map (λ x. x.place) (first_named (map (λ x. x.now) (take l.name-index l.names)) q))
    × Searches (repeated (map (λ x. x.now) l.names))
    (repeated_after (map (λ x. x.now) (take l.name-index l.names)) (map (λ x. x.now) (drop l.name-index l.names)))
    l.initial.broken l.broken
