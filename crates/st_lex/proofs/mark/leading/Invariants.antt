use Rattle.std.proofs.Common.{◌≡◌, length, map}
use Rattle.st_lex.specs.Marks.{leading}
use Rattle.st_lex.proofs.mark.leading.Given as goal

abbrev pub invariant-loop-table : goal.invariant-loop-table
invariant-loop-table l = leading (map (λ row. (row.0.now, row.1)) l.table) l.text
    ≡ leading (map (λ row. (row.0.now, row.1)) l.initial.table) l.text

abbrev pub decreases-loop-table : goal.decreases-loop-table
decreases-loop-table l = length l.table
