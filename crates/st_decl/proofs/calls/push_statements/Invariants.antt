use Rattle.std.proofs.Common.{◌≡◌, ◌++◌, map, drop}
use Rattle.std.specs.List.{flat_map}
use Rattle.st_rules.specs.Containment.{calls_in_statement}
use Rattle.st_types.specs.StatementViews.{stmt_view}
use Rattle.st_decl.proofs.calls.push_statements.Given as goal

abbrev pub invariant-loop-statement : goal.invariant-loop-statement
invariant-loop-statement l = map (λ x. x.now.name) l.calls.items
    ++ flat_map calls_in_statement (map (λ s. stmt_view s.now) (drop l.statement-index l.statements))
    ≡ map (λ x. x.now.name) l.initial.calls.items
    ++ flat_map calls_in_statement (map (λ s. stmt_view s.now) l.statements)
