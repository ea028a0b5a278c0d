use Rattle.std.proofs.Common.{◌≡◌, ℕ, List, map, take}
use Rattle.std.specs.Prelude.{is_some}
use Rattle.st_meaning.specs.Scopes.{contains_name}
use Rattle.symbols.specs.Found.{found}
use Rattle.st_link.proofs.unit_names.hidden_names.Given as goal

abbrev pub invariant-loop-name : goal.invariant-loop-name
invariant-loop-name l = (x : List ℕ) → is_some (found l.hidden x)
    ≡ contains_name (map (λ y. y.now.name) (take l.name-index l.externals)) x
