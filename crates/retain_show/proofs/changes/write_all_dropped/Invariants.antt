use Rattle.std.proofs.Common.{◌≡◌, ◌++◌, ℕ, List, drop, map}
use Rattle.std.specs.List.{flat_map}
use Rattle.std.specs.Io.KnownBytes.{Appends}
use Rattle.retain_show.specs.Against.{dropped_shown}
use Rattle.retain_show.specs.InitialLines.{line_view}
use Rattle.retain_show.proofs.changes.write_all_dropped.Given as goal

abbrev pub invariant-loop-line : goal.invariant-loop-line
invariant-loop-line g l =
    (text : List ℕ) × Appends (g.W.Write.contents l.initial.out) (g.W.Write.contents l.out) text
    × (text ++ flat_map dropped_shown (map (λ x. line_view x.now) (drop l.line-index l.dropped))
    ≡ flat_map dropped_shown (map (λ x. line_view x.now) l.dropped))
