use Rattle.std.proofs.Common.{◌≡◌, take, map}
use Rattle.st_meaning.specs.Scopes.{Name}
use Rattle.symbols.specs.Agreeing.{Agree}
use Rattle.symbols.specs.Found.{found}
use Rattle.config.specs.Globals.{global_named, global_view, named_global_view}
use Rattle.config.proofs.globals.first_of_each.Given as goal

abbrev pub invariant-loop-named : goal.invariant-loop-named
invariant-loop-named l = (x : Name) → Agree (λ g h. global_view g ≡ h) (found l.index x)
    (global_named (map named_global_view (take l.named-index l.globals)) x)
