use Rattle.st_link.proofs.DifferentNames.{names_differ, scopes_differ, text_layout}
use Rattle.st_link.proofs.homes.names_differ_where_none_is_declared_twice.Goals as goal

pub returns-clause-names : goal.returns-clause-names
returns-clause-names c = names_differ

pub returns-clause-scopes : goal.returns-clause-scopes
returns-clause-scopes c = scopes_differ

pub returns-clause-layout : goal.returns-clause-layout
returns-clause-layout c = text_layout
