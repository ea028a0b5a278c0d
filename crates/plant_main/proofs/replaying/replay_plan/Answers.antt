use Rattle.std.proofs.Common.{List, ◌≡◌, rules, subst}
use Rattle.plan.specs.declared.plan.Plan.{Plan}
use Rattle.st_types.specs.Rows.{Latch}
use Rattle.image.specs.Plants.{AreRowsOf}
use Rattle.plant_main.specs.Jobs.{IsNoTrace, IsTraceFault}
use Rattle.plant_main.proofs.ReplayLemmas.{mapped_fault}
use Rattle.plant_main.proofs.replaying.replay_plan.Goals as goal

pub returns-in-Ok-new-clause-refused : goal.returns-in-Ok-new-clause-refused
returns-in-Ok-new-clause-refused g c =
    let plan_is : c.in-Ok-new.plan.value ≡ c.args.plan = search rules in
    let are : AreRowsOf c.args.plan.inputs.items c.deref.result.now = search rules in
    mapped_fault (λ fault. IsTraceFault fault
    → IsNoTrace c.in-Ok-new.plan.value c.deref.result.now c.args.trace.now)
    (λ fault. IsTraceFault fault → (rows : List Latch) × AreRowsOf c.args.plan.inputs.items rows
    × IsNoTrace c.args.plan rows c.args.trace.now) c.run_again.result
    (λ fault refuses is. (
      c.deref.result.now,
      are,
      subst (λ (p : Plan). IsNoTrace p c.deref.result.now c.args.trace.now) plan_is (refuses is),
    )) c.run_again.ensures.refused
