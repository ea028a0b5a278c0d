use Rattle.std.proofs.Common.{rules, ◌≡◌, ◌++◌, ◌∙◌, ap, map, subst}
use Rattle.std.specs.List.{flat_map}
use Rattle.st_types.specs.Statements.{stmts_of}
use Rattle.st_types.specs.StatementViews.{stmt_view}
use Rattle.st_types.specs.UnitViews.{unit_view}
use Rattle.st_rules.specs.Containment.{calls_of}
use Rattle.st_decl.specs.Flattened.{all_in}
use Rattle.st_link.specs.CalledFunctions.{block_called}
use Rattle.st_link.specs.LinkVariables.{variable_view, variables_of_blocks}
use Rattle.st_link.specs.Reaching.{HasTypes}
use Rattle.st_link.proofs.TypeLemmas.{calls_together}
use Rattle.st_link.proofs.called_functions.callees_of.Goals as goal

pub returns : goal.returns
returns c =
    let u = unit_view c.args.unit.now in
    let vs = map variable_view c.in_ok-variables.variables.items in
    let statements = map (λ s. stmt_view s.now) c.in_ok-statements.statements.items in
    let names = map (λ x. x.now) c.in_ok-names.names.items in
    let v : vs ≡ variables_of_blocks u.blocks = search rules in
    let s : statements ≡ all_in (stmts_of u.body) = search rules in
    let n : names ≡ calls_of u = search rules in
    let types : HasTypes c.in_ok-types.types vs =
    subst (λ ys. HasTypes c.in_ok-types.types (map variable_view ys)) c.deref-2.ensures.value c.in_ok-types.ensures in
    calls_together u vs statements names (map (λ x. x.now) c.push_blocks.new.names.items) v s n
    (c.in_ok-push_blocks.ensures vs types
    ∙ ap (λ ss. names ++ flat_map (block_called vs) (map (λ t. stmt_view t.now) ss)) c.deref-5.ensures.value)
