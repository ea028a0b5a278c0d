use Rattle.std.proofs.Common.{◌≡◌, rules, subst, sym, map}
use Rattle.std.specs.Vec.{vec_items}
use Rattle.plan.specs.declared.plan.Plan.{Plan}
use Rattle.plant_main.specs.Jobs.{IsNoTrace, IsReportOfTrace}
use Rattle.source_run.specs.Lives.{counts_of}
use Rattle.source_run.specs.Reports.{report_text}
use Rattle.plant_main.proofs.ReplayLemmas.{mapped, no_memory, told_so}
use Rattle.plant_main.proofs.replaying.run_again.Goals as goal

pub returns-in-Ok-replay_text-clause-report : goal.returns-in-Ok-replay_text-clause-report
returns-in-Ok-replay_text-clause-report c =
    let shared = c.in-Ok.shared.value in
    let plan_is : shared ≡ c.args.plan.now.value = search rules in
    let here_is : c.deref.result.now ≡ c.args.plan.now.value = search rules in
    let r = c.in-Ok-replay_text.found in
    let (mode, start, log, is, found) = c.in-Ok-replay_text.ensures.told in
    mapped (λ text. text.items ≡ report_text (counts_of r) (map vec_items c.deref.result.now.enumerations.items)
    c.deref.result.now.variables.items r.values.items)
    (λ text. IsReportOfTrace c.args.plan.now.value c.args.rows.now c.args.trace.now text.items) c.report_of.result
    (λ text spelled. subst (λ (p : Plan). IsReportOfTrace p c.args.rows.now c.args.trace.now text.items) plan_is
    (told_so shared c.args.rows.now c.args.trace.now text.items r
    (subst (λ (p : Plan). text.items ≡ report_text (counts_of r) (map vec_items p.enumerations.items)
    p.variables.items r.values.items) (sym plan_is)
    (subst (λ (p : Plan). text.items ≡ report_text (counts_of r) (map vec_items p.enumerations.items)
    p.variables.items r.values.items) here_is spelled))
    mode start log is found c.in-Ok-replay_text.ensures.only)) c.report_of.ensures.told

pub returns-in-Err-clause-refused : goal.returns-in-Err-clause-refused
returns-in-Err-clause-refused c = λ is.
    let shared = c.in-Ok.shared.value in
    let plan_is : shared ≡ c.args.plan.now.value = search rules in
    subst (λ (p : Plan). IsNoTrace p c.args.rows.now c.args.trace.now) plan_is
    (c.in-Err.ensures.refused (no_memory c.in-Err.error is))
