use Rattle.std.proofs.Common.{refl, map}
use Rattle.std.specs.List.{flat_map}
use Rattle.st_types.specs.StatementViews.{stmt_view}
use Rattle.layout.proofs.PushLemmas.{appended}
use Rattle.st_link.specs.CalledFunctions.{block_called}
use Rattle.st_link.proofs.called_functions.push_blocks.Goals as goal

pub loop-statement-preserved : goal.loop-statement-preserved
loop-statement-preserved c vs types =
    appended (λ xs. flat_map (block_called vs) (map (λ s. stmt_view s.now) xs)) c.args.statements.now
    c.loop-statement.statement-index c.statement-item.result
    (block_called vs (stmt_view c.statement-item.result.now)) _ _ _ c.loop-statement-test.true c.statement-item.is
    (λ rest. refl) (c.in_ok-push_block.ensures vs types) (c.loop-statement.invariant vs types)
