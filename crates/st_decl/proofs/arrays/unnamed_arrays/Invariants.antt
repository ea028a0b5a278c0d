use Rattle.std.proofs.Common.{◌≡◌, ◌++◌, map, drop}
use Rattle.std.specs.List.{flat_map}
use Rattle.st_rules.specs.DeclaredTypes.{array_of_type}
use Rattle.st_decl.specs.DeclaringViews.{declaring_view}
use Rattle.st_decl.proofs.arrays.unnamed_arrays.Given as goal

abbrev pub invariant-loop-declaring : goal.invariant-loop-declaring
invariant-loop-declaring l = map (λ a. a.now) l.arrays.items
    ++ flat_map (λ d. array_of_type d.declared) (map declaring_view (drop l.declaring-index l.declarings))
    ≡ flat_map (λ d. array_of_type d.declared) (map declaring_view l.declarings)
