use Rattle.commit_lock.proofs.AcceptLemmas.{accepted}
use Rattle.commit_lock.proofs.replaying.replay_text.Goals as goal

pub returns-clause-accepts : goal.returns-clause-accepts
returns-clause-accepts c =
    accepted c.args.plan.value c.args.rows.now c.args.text.now c.replay_watched.result
    c.replay_watched.ensures.only c.replay_watched.ensures.refused
