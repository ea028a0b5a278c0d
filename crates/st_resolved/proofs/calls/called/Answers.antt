use Rattle.std.proofs.Common.{◌≡◌, ◌∙◌, sym, ap, map, option_map}
use Rattle.st_types.specs.Expressions.{call, exprs_of}
use Rattle.st_types.specs.ExpressionViews.{expr_view}
use Rattle.st_rules.specs.Typings.{common_of}
use Rattle.symbols.specs.Tables.{callee_view}
use Rattle.st_resolved.specs.Resolutions.{resolved_kind}
use Rattle.st_resolved.proofs.CallLemmas.{call_resolves}
use Rattle.st_resolved.proofs.calls.called.Goals as goal

pub returns : goal.returns
returns c env es serves resolves =
    let rs = c.args.parts.items in
    let o = option_map callee_view c.callee_of-callee.result in
    let args = exprs_of (map expr_view c.in_ok-arguments.arguments.items) in
    let common : c.common_of-common.result ≡ common_of o (map resolved_kind rs) =
    c.common_of-common.ensures ∙ ap (λ xs. common_of o (map resolved_kind xs)) c.deref.ensures.value in
    call_resolves env c.args.function.now es rs o c.kind_of_call-kind.result c.call.result args
    (c.callee_of-callee.ensures env serves) resolves (c.kind_of_call-kind.ensures (map resolved_kind rs) common)
    (c.call.ensures ∙ ap (λ x. call x args) c.in_ok-copied.ensures)
    (c.in_ok-arguments.ensures env es resolves common)
