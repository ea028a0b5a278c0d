use Rattle.std.proofs.Common.{rules}
use Rattle.st_lex.specs.declared.mark.Mark.TheVariants.{Comma}
use Rattle.st_parse.specs.Tokens.{is_mark, name}
use Rattle.st_parse.specs.Parsers.{after_comma, one}
use Rattle.st_parse.proofs.OwnMirrors.{plainly}
use Rattle.st_parse.proofs.names.more_names.Goals as goal

pub returns : goal.returns
returns c =
    let read =
    c.several.ensures (is_mark Comma) (after_comma (one name)) (λ ts r e. search rules) (λ ts r e. search rules) in
    search (rules, plainly)
