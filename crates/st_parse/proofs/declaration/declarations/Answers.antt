use Rattle.std.proofs.Common.{rules}
use Rattle.st_types.specs.declared.limits.TheConstants.{MAX_DEPTH}
use Rattle.st_parse.specs.Tokens.{is_name}
use Rattle.st_parse.specs.UnitReading.{declaration_at}
use Rattle.st_parse.specs.Reading.{many}
use Rattle.st_parse.proofs.declaration.declarations.Goals as goal

pub returns : goal.returns
unfolding many
returns c =
    let read = c.several.ensures is_name (declaration_at MAX_DEPTH) (λ ts r e. search rules) (λ ts r e. search rules) in
    search rules
