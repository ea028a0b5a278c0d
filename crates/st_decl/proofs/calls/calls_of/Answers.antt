use Rattle.std.proofs.Common.{rules, ◌≡◌, sym, ap, ◌∙◌, map}
use Rattle.std.specs.List.{flat_map}
use Rattle.st_types.specs.Statements.{stmts_of}
use Rattle.st_types.specs.StatementViews.{stmt_view}
use Rattle.st_types.specs.UnitViews.{unit_view}
use Rattle.st_rules.specs.Containment.{calls_in_statement}
use Rattle.st_decl.specs.Flattened.{all_in}
use Rattle.st_decl.proofs.FlatLemmas.{calls_by_statements}
use Rattle.st_decl.proofs.calls.calls_of.Goals as goal

pub returns : goal.returns
returns c =
    let statements = map (λ s. stmt_view s.now) c.in_ok-statements.statements.items in
    let all : statements ≡ all_in (stmts_of (unit_view c.args.unit.now).body) = search rules in
    let pushed : map (λ x. x.now.name) c.push_statements.new.calls.items ≡ flat_map calls_in_statement statements =
    search rules in
    pushed ∙ ap (flat_map calls_in_statement) all ∙ sym (calls_by_statements (unit_view c.args.unit.now))
