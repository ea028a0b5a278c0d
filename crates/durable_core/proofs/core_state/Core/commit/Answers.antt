use Rattle.std.proofs.Common.{rules, ◌≡◌, ℕ, Ok, Err, refl, sym, subst, arith}
use Rattle.core_engine.specs.Steps.{Commits}
use Rattle.serial_core.proofs.GrownLemmas.{outcomes_kept}
use Rattle.core_engine.specs.declared.refusal.Answer.{Answer}
use Rattle.core_engine.specs.declared.refusal.Answer.TheVariants.{Committed}
use Rattle.durable_core.specs.Cores.{CoreView, Guards, Outlives}
use Rattle.durable_core.proofs.LogLemmas.{commit_in, commit_refused, committed_room, keeps_as, refused_on, seen_as}
use Rattle.durable_core.proofs.core_state.Core.commit.Goals as goal

pub append_done-requires-clause-log : goal.append_done-requires-clause-log
append_done-requires-clause-log g c = λ n same.
    let below = committed_room c.self.inside.endless c.commit-result.new.self c.self.inside.history c.args.execution c.in-Ok.answer
    (λ a b. g.D.Disk.tells → Outlives g.D.Disk.left_since g.D.Disk.may_leave a b) n (c.in-Ok.ensures.commits _ _ c.self.invariant.life) same in
    omega (arith, below, c.self.invariant.room)

pub append_done-requires-clause-outcomes : goal.append_done-requires-clause-outcomes
append_done-requires-clause-outcomes g c = λ n same.
    let below = committed_room c.self.inside.endless c.commit-result.new.self c.self.inside.history c.args.execution c.in-Ok.answer
    (λ a b. g.D.Disk.tells → Outlives g.D.Disk.left_since g.D.Disk.may_leave a b) n (c.in-Ok.ensures.commits _ _ c.self.invariant.life) same in
    omega (arith, below, outcomes_kept c.self.invariant.serial, c.self.invariant.room)

pub invariant_of-self : goal.invariant_of-self
invariant_of-self g c =
    let call = commit_in c.self.inside.endless c.commit-result.new.self c.self.inside.history c.self.invariant
    (λ a b. g.D.Disk.tells → Outlives g.D.Disk.left_since g.D.Disk.may_leave a b) c.args.execution c.in-Ok.answer c.activation-activation.result
    c.outcome-outcome.result (c.in-Ok.ensures.commits _ _ c.self.invariant.life)
    (λ n same. c.in-Ok.ensures.outcome n (search rules) _ _ c.self.invariant.life) c.activation-activation.ensures
    c.outcome-outcome.ensures in
    keeps_as (λ a b. Guards a (Ok c.in-Ok.answer) b (λ r. Commits a.state c.args.execution r b.state)
    × (g.D.Disk.tells → Outlives g.D.Disk.left_since g.D.Disk.may_leave a b))
    c.self.inside.endless c.commit-result.new.self c.self.inside.history _ c.append_done.new.self call c.append_done.ensures

pub invariant_of-self-in-Err : goal.invariant_of-self-in-Err
invariant_of-self-in-Err g c =
    let call = refused_on c.self.inside.endless c.commit-result.new.self c.self.inside.history c.self.invariant
    (λ a r b. Commits a c.args.execution r b) (λ a b. g.D.Disk.tells → Outlives g.D.Disk.left_since g.D.Disk.may_leave a b)
    (λ a b e. commit_refused c.args.execution a b e) c.in-Err.refusal (c.in-Err.ensures.commits _ _ c.self.invariant.life) in
    call.keeps

pub returns-in-Ok-clause-commits : goal.returns-in-Ok-clause-commits
returns-in-Ok-clause-commits g c =
    let call = commit_in c.self.inside.endless c.commit-result.new.self c.self.inside.history c.self.invariant
    (λ a b. g.D.Disk.tells → Outlives g.D.Disk.left_since g.D.Disk.may_leave a b) c.args.execution c.in-Ok.answer c.activation-activation.result
    c.outcome-outcome.result (c.in-Ok.ensures.commits _ _ c.self.invariant.life)
    (λ n same. c.in-Ok.ensures.outcome n (search rules) _ _ c.self.invariant.life) c.activation-activation.ensures
    c.outcome-outcome.ensures in
    (seen_as (λ a b. Guards a (Ok c.in-Ok.answer) b (λ r. Commits a.state c.args.execution r b.state)
    × (g.D.Disk.tells → Outlives g.D.Disk.left_since g.D.Disk.may_leave a b))
    c.self.inside.endless c.commit-result.new.self c.self.inside.history _ c.append_done.new.self _ call c.append_done.ensures c.self.view_is).0

pub returns-in-Ok-clause-outlives : goal.returns-in-Ok-clause-outlives
returns-in-Ok-clause-outlives g c =
    let call = commit_in c.self.inside.endless c.commit-result.new.self c.self.inside.history c.self.invariant
    (λ a b. g.D.Disk.tells → Outlives g.D.Disk.left_since g.D.Disk.may_leave a b) c.args.execution c.in-Ok.answer c.activation-activation.result
    c.outcome-outcome.result (c.in-Ok.ensures.commits _ _ c.self.invariant.life)
    (λ n same. c.in-Ok.ensures.outcome n (search rules) _ _ c.self.invariant.life) c.activation-activation.ensures
    c.outcome-outcome.ensures in
    (seen_as (λ a b. Guards a (Ok c.in-Ok.answer) b (λ r. Commits a.state c.args.execution r b.state)
    × (g.D.Disk.tells → Outlives g.D.Disk.left_since g.D.Disk.may_leave a b))
    c.self.inside.endless c.commit-result.new.self c.self.inside.history _ c.append_done.new.self _ call c.append_done.ensures c.self.view_is).1

pub returns-in-Err-clause-commits : goal.returns-in-Err-clause-commits
returns-in-Err-clause-commits g c =
    let call = refused_on c.self.inside.endless c.commit-result.new.self c.self.inside.history c.self.invariant
    (λ a r b. Commits a c.args.execution r b) (λ a b. g.D.Disk.tells → Outlives g.D.Disk.left_since g.D.Disk.may_leave a b)
    (λ a b e. commit_refused c.args.execution a b e) c.in-Err.refusal (c.in-Err.ensures.commits _ _ c.self.invariant.life) in
    (seen_as (λ a b. Guards a (Err c.in-Err.refusal) b (λ r. Commits a.state c.args.execution r b.state)
    × (g.D.Disk.tells → Outlives g.D.Disk.left_since g.D.Disk.may_leave a b))
    c.self.inside.endless c.commit-result.new.self c.self.inside.history c.self.inside.history c.self.inside.history _ call refl c.self.view_is).0

pub returns-in-Err-clause-outlives : goal.returns-in-Err-clause-outlives
returns-in-Err-clause-outlives g c =
    let call = refused_on c.self.inside.endless c.commit-result.new.self c.self.inside.history c.self.invariant
    (λ a r b. Commits a c.args.execution r b) (λ a b. g.D.Disk.tells → Outlives g.D.Disk.left_since g.D.Disk.may_leave a b)
    (λ a b e. commit_refused c.args.execution a b e) c.in-Err.refusal (c.in-Err.ensures.commits _ _ c.self.invariant.life) in
    (seen_as (λ a b. Guards a (Err c.in-Err.refusal) b (λ r. Commits a.state c.args.execution r b.state)
    × (g.D.Disk.tells → Outlives g.D.Disk.left_since g.D.Disk.may_leave a b))
    c.self.inside.endless c.commit-result.new.self c.self.inside.history c.self.inside.history c.self.inside.history _ call refl c.self.view_is).1
