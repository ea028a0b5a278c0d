use Rattle.std.proofs.Common.{◌∙◌}
use Rattle.durable_core.specs.Endless.{first_core}
use Rattle.source_run.proofs.ProgressLemmas.{begins}
use Rattle.source_run.proofs.living.started.Goals as goal

pub returns-clause-begins : goal.returns-clause-begins
returns-clause-begins g c =
    begins _ _ c.args.asked c.in_ok-core.core.store.last (first_core c.in_ok-core.core).state
    (λ is. c.in_ok-core.ensures.core.resumed (c.mode.ensures ∙ is))
    (λ is. c.in_ok-core.ensures.core.cold (c.mode.ensures ∙ is))
