use Rattle.std.proofs.Common.{◌≡◌, ◌++◌, ℕ, List}
use Rattle.std.specs.Io.KnownBytes.{Appends}
use Rattle.trace.proofs.putting.put.Given as goal

abbrev pub invariant-tries : goal.invariant-tries
invariant-tries g l =
    (done : List ℕ) × (l.fn.bytes ≡ done ++ l.rest)
    × Appends (g.W.Write.contents l.initial.out) (g.W.Write.contents l.out) done
