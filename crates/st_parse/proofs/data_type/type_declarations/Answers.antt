use Rattle.std.proofs.Common.{rules}
use Rattle.st_types.specs.declared.limits.TheConstants.{MAX_DEPTH}
use Rattle.st_parse.specs.Tokens.{is_name}
use Rattle.st_parse.specs.TypeReading.{type_declaration_at, type_declarations_at}
use Rattle.st_parse.specs.Reading.{at_least_one}
use Rattle.st_parse.proofs.data_type.type_declarations.Goals as goal

pub returns : goal.returns
unfolding type_declarations_at at_least_one
returns c =
    let read =
    c.several.ensures is_name (type_declaration_at MAX_DEPTH) (λ ts r e. search rules) (λ ts r e. search rules) in
    search rules
