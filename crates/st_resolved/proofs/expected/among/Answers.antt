use Rattle.st_resolved.proofs.ExpectedLemmas.{among_first}
use Rattle.st_resolved.proofs.expected.among.Goals as goal

pub returns-then-index-count : goal.returns-then-index-count
returns-then-index-count c = among_first c.args.count c.args.index c.args.kind c.if-index-count.true
