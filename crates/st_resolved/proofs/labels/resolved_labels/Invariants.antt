use Rattle.std.proofs.Common.{◌≡◌, ◌++◌, map, drop}
use Rattle.st_meaning.specs.NameTypes.{Declared}
use Rattle.st_meaning.specs.ResolvedUnits.{resolved_label}
use Rattle.symbols.specs.Tables.{ServesTables}
use Rattle.st_resolved.proofs.labels.resolved_labels.Given as goal

abbrev pub invariant-loop-label : goal.invariant-loop-label
invariant-loop-label l = (text : Declared) → ServesTables l.tables text
    → l.resolved.items ++ map (resolved_label text l.kind) (drop l.label-index l.labels)
    ≡ map (resolved_label text l.kind) l.labels
