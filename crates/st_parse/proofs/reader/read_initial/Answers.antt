use Rattle.st_types.specs.InitialViews.{initial_view}
use Rattle.st_parse.proofs.Clauses.{initial_found, initial_refused, initial_only}
use Rattle.st_parse.proofs.reader.read_initial.Goals as goal

pub returns-clause-found : goal.returns-clause-found
returns-clause-found c =
    initial_found (λ x. (initial_view x.0, x.1.now)) c.args.tokens.now c.initial.result c.initial.ensures

pub returns-clause-refused : goal.returns-clause-refused
returns-clause-refused c =
    initial_refused (λ x. (initial_view x.0, x.1.now)) c.args.tokens.now c.initial.result c.initial.ensures

pub returns-clause-only : goal.returns-clause-only
returns-clause-only c =
    initial_only (λ x. (initial_view x.0, x.1.now)) c.args.tokens.now c.initial.result c.initial.ensures
