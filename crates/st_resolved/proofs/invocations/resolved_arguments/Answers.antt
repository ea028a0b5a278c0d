use Rattle.st_resolved.proofs.ListLemmas.{resolved_turn, all_resolved}
use Rattle.st_resolved.proofs.invocations.resolved_arguments.Goals as goal

pub loop-argument-preserved : goal.loop-argument-preserved
loop-argument-preserved c = λ env serves.
    resolved_turn _ _ _ _ _ _ _ _ _ c.loop-argument-test.true c.argument-item.is
    (c.loop-argument.invariant env serves) c.in_ok-push.ensures.items (c.in_ok-resolved_argument.ensures env serves)

pub returns : goal.returns
returns c = λ env serves. all_resolved _ _ _ _ _ _ c.loop-argument-test.false (c.loop-argument.invariant env serves)
