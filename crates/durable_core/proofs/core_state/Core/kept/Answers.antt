use Rattle.std.proofs.Common.{◌≡◌, ◌≤◌, ◌<◌, ℕ, List, length, subst, arith}
use Rattle.std.specs.Prelude.{IfSome}
use Rattle.st_types.specs.declared.limits.TheConstants.{MAX_LOG_ROOM, MOMENT_LIMIT}
use Rattle.st_meaning.specs.Logs.{IsLegal}
use Rattle.plan.specs.PlanViews.{plan_view}
use Rattle.retain_store.specs.Kept.{IsLast}
use Rattle.retain_store.specs.Recovered.{recovered}
use Rattle.durable_core.specs.Cores.{CoreView, survives}
use Rattle.durable_core.specs.Starting.{IsStart, start_in}
use Rattle.durable_core.proofs.core_state.Core.kept.Goals as goal

pub returns-clause-survives : goal.returns-clause-survives
returns-clause-survives g c = λ tells.
    subst (λ (v : CoreView _). (file : List ℕ) → g.D.Disk.may_leave v.store.disk file → survives v (recovered file))
    c.self.view_is (λ file left. c.kept.ensures.survives tells file left _ _ c.self.invariant.life)

pub returns-clause-few : goal.returns-clause-few
returns-clause-few g c =
    subst (λ (v : CoreView _). v.acked ≤ length v.state.log) c.self.view_is c.self.invariant.life.kept.few

pub returns-clause-last : goal.returns-clause-last
returns-clause-last g c =
    subst (λ (v : CoreView _). IsLast v.store.generation v.store.last) c.self.view_is c.kept.ensures.last

pub returns-clause-started : goal.returns-clause-started
returns-clause-started g c =
    subst (λ (v : CoreView _). IsStart v.state.plan v.mode (start_in v.state)) c.self.view_is
    c.self.invariant.life.kept.started

pub returns-clause-early : goal.returns-clause-early
returns-clause-early g c =
    subst (λ (v : CoreView _). IfSome v.state.before (λ t. t < MOMENT_LIMIT)) c.self.view_is
    c.self.invariant.life.kept.early

pub returns-clause-room : goal.returns-clause-room
returns-clause-room g c =
    subst (λ (v : CoreView _). length v.state.log ≤ MAX_LOG_ROOM) c.self.view_is
    (omega (arith, c.self.invariant.serial.within, c.self.invariant.few))

pub returns-clause-legal : goal.returns-clause-legal
returns-clause-legal g c =
    subst (λ (v : CoreView _). IsLegal (plan_view v.state.plan) v.state.start v.state.before v.state.log) c.self.view_is
    c.self.invariant.life.lived.kept.legal
