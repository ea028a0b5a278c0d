use Rattle.plant_main.proofs.RowLemmas.{next_of}
use Rattle.plant_main.proofs.segments.run_next.Goals as goal

pub returns-then-not-is_first : goal.returns-then-not-is_first
returns-then-not-is_first g c = next_of c.args.plan.now.value c.args.before c.args.text.now c.replay_next.result
    c.replay_next.ensures.whole c.replay_next.ensures.next
