use Rattle.st_meaning.proofs.RestartLemmas.{given_back, given_back_after}
use Rattle.st_meaning.proofs.restarts.restarts_give_back_what_was_kept.Goals as goal

pub returns-clause-values : goal.returns-clause-values
returns-clause-values c = given_back

pub returns-clause-lives : goal.returns-clause-lives
returns-clause-lives c = given_back_after
