use Rattle.st_link.proofs.WholeLemmas.{knows_more}
use Rattle.st_link.proofs.aggregates.add_aggregate.Goals as goal

pub returns-clause-known : goal.returns-clause-known
returns-clause-known c text serves knows =
    knows_more text c.args.wholes.now c.add.new.self c.args.name.now c.in_ok-whole.whole knows
    c.in_ok-add.ensures.added (λ at expanded. c.in_ok-whole.ensures.whole text at serves expanded)
