use Rattle.std.proofs.Common.{◌≡◌, ℕ, List, true}
use Rattle.std.specs.Io.KnownBytes.{Appends}
use Rattle.std.specs.List.{list_all}
use Rattle.diagnostics.specs.Pages.{is_shown}
use Rattle.diagnostics.proofs.writing.write_rules.Given as goal

abbrev pub invariant-loop-one : goal.invariant-loop-one
invariant-loop-one g l = (shown : List ℕ) × (list_all is_shown shown ≡ true)
    × Appends (g.W.Write.contents l.initial.out) (g.W.Write.contents l.out) shown
