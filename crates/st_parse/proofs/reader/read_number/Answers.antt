use Rattle.st_parse.proofs.Clauses.{number_found, number_refused, number_only}
use Rattle.st_parse.proofs.reader.read_number.Goals as goal

pub returns-clause-found : goal.returns-clause-found
returns-clause-found c =
    number_found (λ x. (x.0, x.1.now)) c.args.tokens.now c.signed_number.result c.signed_number.ensures

pub returns-clause-refused : goal.returns-clause-refused
returns-clause-refused c =
    number_refused (λ x. (x.0, x.1.now)) c.args.tokens.now c.signed_number.result c.signed_number.ensures

pub returns-clause-only : goal.returns-clause-only
returns-clause-only c =
    number_only (λ x. (x.0, x.1.now)) c.args.tokens.now c.signed_number.result c.signed_number.ensures
