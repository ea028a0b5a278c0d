use Rattle.std.proofs.Common.{rules}
use Rattle.st_lex.specs.declared.keyword.Keyword.TheVariants as w
use Rattle.st_parse.specs.Tokens.{is_keyword}
use Rattle.st_parse.specs.StatementReading.{elsif_at, line_at}
use Rattle.st_parse.proofs.statement.more_arms.Goals as goal

pub returns : goal.returns
returns g c =
    let read = c.several.ensures (is_keyword w.Elsif) (elsif_at c.args.below (line_at c.args.below))
    (λ ts r e. search rules) (λ ts r e. search rules) in
    search rules
