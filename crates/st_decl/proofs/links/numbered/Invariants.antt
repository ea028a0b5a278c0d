use Rattle.std.proofs.Common.{◌≡◌, List, ℕ, map, drop}
use Rattle.symbols.specs.Found.{found, or_found}
use Rattle.st_decl.specs.Parts.{number_in}
use Rattle.st_decl.proofs.links.numbered.Given as goal

abbrev pub invariant-loop-i : goal.invariant-loop-i
invariant-loop-i l = (q : List ℕ) → or_found (found l.numbers q) (number_in (map (λ x. x.now) (drop l.i l.names)) l.i q)
    ≡ number_in (map (λ x. x.now) l.names) 0 q
