use Rattle.std.proofs.Common.{rules}
use Rattle.st_lex.specs.declared.keyword.Keyword.TheVariants as w
use Rattle.st_parse.specs.Tokens.{is_keyword}
use Rattle.st_parse.specs.ConfigurationReading.{instance_at}
use Rattle.st_parse.proofs.OwnMirrors.{plainly}
use Rattle.st_parse.specs.Reading.{at_least_one}
use Rattle.st_parse.proofs.resource.instances.Goals as goal

pub returns : goal.returns
unfolding at_least_one
returns c =
    let read = c.several.ensures (is_keyword w.Program) instance_at (λ ts r e. search rules) (λ ts r e. search rules) in
    search (rules, plainly)
