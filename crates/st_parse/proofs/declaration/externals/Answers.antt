use Rattle.std.proofs.Common.{rules}
use Rattle.st_parse.specs.Tokens.{is_name}
use Rattle.st_parse.specs.UnitReading.{external_at}
use Rattle.st_parse.specs.Reading.{many}
use Rattle.st_parse.proofs.declaration.externals.Goals as goal

pub returns : goal.returns
unfolding many
returns c =
    let read = c.several.ensures is_name external_at (λ ts r e. search rules) (λ ts r e. search rules) in
    search rules
