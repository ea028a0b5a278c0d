use Rattle.std.proofs.Common.{◌≡◌, ◌++◌, List, ℕ, take}
use Rattle.std.specs.Prelude.{option_map}
use Rattle.st_meaning.specs.Enumerations.{Member, place_among}
use Rattle.symbols.specs.Found.{found}
use Rattle.symbols.specs.Enumerated.{member_at, listed, IsListedAs}
use Rattle.symbols.proofs.enumerations.add_names.Given as goal

abbrev pub invariant-loop-place : goal.invariant-loop-place
invariant-loop-place l =
    ((q : List ℕ) → found l.places q ≡ place_among (take l.place l.names) q)
    × ((q : List ℕ) (ms : List Member) → IsListedAs l.initial.values q ms
    → IsListedAs l.values q (ms ++ listed (option_map (member_at l.kind) (place_among (take l.place l.names) q))))
