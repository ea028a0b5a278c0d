use Rattle.std.proofs.Common.{subst, sym}
use Rattle.st_lex.proofs.Fronts.{one_list}
use Rattle.st_parse.specs.Tokens.{Tokens}
use Rattle.st_parse.specs.Sources.{IsSource}
use Rattle.st_parse.proofs.PrefixSources.{one_source}
use Rattle.st_parse.proofs.laws.a_text_has_one_tree.Goals as goal

pub returns-clause-tokens : goal.returns-clause-tokens
returns-clause-tokens c = one_source

pub returns-clause-text : goal.returns-clause-text
returns-clause-text c = λ text some others this that s t i j.
    one_source some this that i
    (subst (λ (ts : Tokens). IsSource ts that) (sym (one_list s.spells t.spells)) j)
