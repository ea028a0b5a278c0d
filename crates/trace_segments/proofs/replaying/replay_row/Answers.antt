use Rattle.trace_segments.proofs.RunLemmas.{row_steps}
use Rattle.trace_segments.proofs.replaying.replay_row.Goals as goal

pub returns : goal.returns
returns c = row_steps c.args.position c.in_ok-position.position c.in_ok-row.row c.args.text.now c.in_ok-row.rest.now
    c.in_ok-position.ensures.goes c.in_ok-row.ensures
