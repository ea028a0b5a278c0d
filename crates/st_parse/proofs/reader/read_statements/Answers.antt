use Rattle.std.proofs.Common.{map}
use Rattle.st_types.specs.StatementViews.{stmt_view}
use Rattle.st_parse.proofs.Clauses.{statements_found, statements_refused, statements_only}
use Rattle.st_parse.proofs.reader.read_statements.Goals as goal

pub returns-clause-found : goal.returns-clause-found
returns-clause-found c =
    statements_found (λ x. (map stmt_view x.0.items, x.1.now)) c.args.tokens.now c.stmts.result c.stmts.ensures

pub returns-clause-refused : goal.returns-clause-refused
returns-clause-refused c =
    statements_refused (λ x. (map stmt_view x.0.items, x.1.now)) c.args.tokens.now c.stmts.result c.stmts.ensures

pub returns-clause-only : goal.returns-clause-only
returns-clause-only c =
    statements_only (λ x. (map stmt_view x.0.items, x.1.now)) c.args.tokens.now c.stmts.result c.stmts.ensures
