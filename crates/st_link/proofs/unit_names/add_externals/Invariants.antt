use Rattle.std.proofs.Common.{◌≡◌, ℕ, List, map, take, if◌then◌else◌, None}
use Rattle.st_meaning.specs.Scopes.{contains_name}
use Rattle.symbols.specs.Found.{found, or_found}
use Rattle.st_link.proofs.unit_names.add_externals.Given as goal

abbrev pub invariant-loop-name : goal.invariant-loop-name
invariant-loop-name l = (x : List ℕ) → found l.symbols x ≡ or_found (found l.initial.symbols x)
    (if contains_name (map (λ y. y.now.name) (take l.name-index l.externals)) x then found l.globals x else None)
