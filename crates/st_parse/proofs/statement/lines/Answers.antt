use Rattle.std.proofs.Common.{rules}
use Rattle.st_parse.specs.StatementReading.{line_at, lines, starts_stmt}
use Rattle.st_parse.proofs.statement.lines.Goals as goal

pub returns : goal.returns
unfolding lines
returns g c =
    let read = c.several.ensures starts_stmt (line_at c.args.below)
    (λ ts r e. search rules) (λ ts r e. search rules) in
    search rules
