use Rattle.st_link.proofs.StatementLinks.{stmts_linked}
use Rattle.st_link.proofs.links.statements_without_faults_are_linked.Goals as goal

pub returns : goal.returns
returns c = λ env t c xs orderly serves h. stmts_linked env t orderly serves c xs h
