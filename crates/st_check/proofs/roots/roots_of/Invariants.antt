use Rattle.std.proofs.Common.{◌≡◌, ◌++◌, map, drop}
use Rattle.std.specs.List.{flat_map}
use Rattle.st_rules.specs.Environments.{Environment}
use Rattle.symbols.specs.Serving.{Serves}
use Rattle.st_check.specs.Listings.{listed_view}
use Rattle.st_check.specs.Roots.{root_view, all_roots}
use Rattle.st_check.proofs.roots.roots_of.Given as goal

abbrev pub invariant-loop-listed : goal.invariant-loop-listed
invariant-loop-listed l = (env : Environment) → Serves l.names env
    → map root_view l.roots.items
    ++ flat_map (λ x. all_roots env x.statement) (map listed_view (drop l.listed-index l.statements))
    ≡ flat_map (λ x. all_roots env x.statement) (map listed_view l.statements)
