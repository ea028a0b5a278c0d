use Rattle.std.proofs.Common.{◌≡◌, ◌++◌, ℕ, List, drop}
use Rattle.st_meaning.specs.Logs.{outcomes_of}
use Rattle.plan.specs.PlanViews.{plan_view}
use Rattle.trace.specs.Puts.{Puts}
use Rattle.trace.specs.Texts.{log_text}
use Rattle.trace.proofs.writing.put_log.Given as goal

abbrev pub invariant-loop-i : goal.invariant-loop-i
invariant-loop-i g l =
    let outcomes = outcomes_of (plan_view l.core.state.plan) l.core.state.start l.core.state.log in
    (text : List ℕ) × Puts (g.W.Write.contents l.initial.out) l.initial.works (g.W.Write.contents l.out) l.works text
    × (text ++ log_text l.core.state.plan (drop l.i l.core.state.log) (drop l.i outcomes)
    ≡ log_text l.core.state.plan l.core.state.log outcomes)
