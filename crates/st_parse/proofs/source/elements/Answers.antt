use Rattle.std.proofs.Common.{rules}
use Rattle.st_types.specs.declared.limits.TheConstants.{MAX_DEPTH}
use Rattle.st_parse.specs.SourceReading.{is_token, element_at, source_at}
use Rattle.st_parse.specs.Reading.{many}
use Rattle.st_parse.proofs.source.elements.Goals as goal

pub returns : goal.returns
unfolding source_at many
returns c =
    let read = c.several.ensures is_token (element_at MAX_DEPTH) (λ ts r e. search rules) (λ ts r e. search rules) in
    search rules
