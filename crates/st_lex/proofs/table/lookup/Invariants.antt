use Rattle.std.proofs.Common.{◌≡◌, length, map}
use Rattle.st_lex.specs.Tables.{lookup}
use Rattle.st_lex.proofs.table.lookup.Given as goal

abbrev pub invariant-loop-table : goal.invariant-loop-table
invariant-loop-table g l = lookup (map (λ row. (row.0.now, row.1)) l.table) l.word
    ≡ lookup (map (λ row. (row.0.now, row.1)) l.initial.table) l.word

abbrev pub decreases-loop-table : goal.decreases-loop-table
decreases-loop-table g l = length l.table
