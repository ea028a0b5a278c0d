use Rattle.st_lex.proofs.Decided.{each_is_decided, one_fault}
use Rattle.st_lex.proofs.Fronts.{no_list, one_list}
use Rattle.st_lex.proofs.laws.a_text_is_read_in_one_way.Goals as goal

pub returns-clause-decided : goal.returns-clause-decided
returns-clause-decided c = each_is_decided

pub returns-clause-tokens : goal.returns-clause-tokens
returns-clause-tokens c = λ text these those s t. one_list s t

pub returns-clause-fault : goal.returns-clause-fault
returns-clause-fault c = λ text f g p q s t. one_fault s t

pub returns-clause-apart : goal.returns-clause-apart
returns-clause-apart c = λ text tokens f p s b. no_list b s
