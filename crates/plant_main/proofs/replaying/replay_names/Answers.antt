use Rattle.std.proofs.Common.{length, inr, rules, IsNone}
use Rattle.plant_main.proofs.replaying.replay_names.Goals as goal

pub returns-in-Ok-clause-report : goal.returns-in-Ok-clause-report
returns-in-Ok-clause-report g c =
    let none : IsNone c.args.job.now.plant = search rules in
    inr (none, (c.args.first.items, length c.args.others.now, c.in-Ok.ensures))
