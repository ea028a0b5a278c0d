use Rattle.std.proofs.Common.{rules, ◌≡◌, ℕ, Ok, Err, refl, sym, ap, subst, arith}
use Rattle.core_engine.specs.Quick.{CommitsOne, IsBestIn}
use Rattle.serial_core.proofs.GrownLemmas.{outcomes_kept}
use Rattle.durable_core.specs.Cores.{CoreView, Guards, Outlives}
use Rattle.durable_core.proofs.LogLemmas.{here_done, here_refused, keeps_as, one_in, one_refused, refused_on, seen_as}
use Rattle.durable_core.proofs.core_state.Core.commit_here.Goals as goal

pub append-requires-clause-log : goal.append-requires-clause-log
append-requires-clause-log g c =
    let (longer, ((none, same, step), left), life) = c.in-Ok.ensures _ _ c.self.invariant.life in
    omega (arith, step.0, c.self.invariant.room)

pub append-requires-clause-outcomes : goal.append-requires-clause-outcomes
append-requires-clause-outcomes g c =
    let (longer, ((none, same, step), left), life) = c.in-Ok.ensures _ _ c.self.invariant.life in
    omega (arith, step.0, outcomes_kept c.self.invariant.serial, c.self.invariant.room)

pub invariant_of-self : goal.invariant_of-self
invariant_of-self g c =
    let call = one_in c.self.inside.endless c.commit_activation-result.new.self c.self.inside.history c.self.invariant
    (λ a b. g.D.Disk.tells → Outlives g.D.Disk.left_since g.D.Disk.may_leave a b) c.in-Some-best.activation c.in-Ok.outcome (c.in-Ok.ensures _ _ c.self.invariant.life) in
    keeps_as (λ a b. Guards a (Ok c.in-Ok.outcome) b (λ r. CommitsOne a.state c.in-Some-best.activation r b.state)
    × (g.D.Disk.tells → Outlives g.D.Disk.left_since g.D.Disk.may_leave a b))
    c.self.inside.endless c.commit_activation-result.new.self c.self.inside.history _ c.append.new.self call c.append.ensures

pub invariant_of-self-in-Err : goal.invariant_of-self-in-Err
invariant_of-self-in-Err g c =
    let call = refused_on c.self.inside.endless c.commit_activation-result.new.self c.self.inside.history c.self.invariant
    (λ a r b. CommitsOne a c.in-Some-best.activation r b) (λ a b. g.D.Disk.tells → Outlives g.D.Disk.left_since g.D.Disk.may_leave a b)
    (λ a b e. one_refused c.in-Some-best.activation a b e) c.in-Err.refusal (c.in-Err.ensures _ _ c.self.invariant.life) in
    call.keeps

pub returns-in-Ok-clause-commits : goal.returns-in-Ok-clause-commits
returns-in-Ok-clause-commits g c =
    let call = one_in c.self.inside.endless c.commit_activation-result.new.self c.self.inside.history c.self.invariant
    (λ a b. g.D.Disk.tells → Outlives g.D.Disk.left_since g.D.Disk.may_leave a b) c.in-Some-best.activation c.in-Ok.outcome (c.in-Ok.ensures _ _ c.self.invariant.life) in
    let seen = seen_as (λ a b. Guards a (Ok c.in-Ok.outcome) b (λ r. CommitsOne a.state c.in-Some-best.activation r b.state)
    × (g.D.Disk.tells → Outlives g.D.Disk.left_since g.D.Disk.may_leave a b))
    c.self.inside.endless c.commit_activation-result.new.self c.self.inside.history _ c.append.new.self _ call c.append.ensures c.self.view_is in
    here_done _ _ c.args.resource c.in-Some-best.activation c.in-Ok.outcome c.len.result seen.0
    (subst (λ (v : CoreView _). IsBestIn v.state c.args.resource c.in-Some-best.activation) c.self.view_is
    (c.in-Some-best.ensures _ _ c.self.invariant.life)) c.len.ensures

pub returns-in-Ok-clause-outlives : goal.returns-in-Ok-clause-outlives
returns-in-Ok-clause-outlives g c =
    let call = one_in c.self.inside.endless c.commit_activation-result.new.self c.self.inside.history c.self.invariant
    (λ a b. g.D.Disk.tells → Outlives g.D.Disk.left_since g.D.Disk.may_leave a b) c.in-Some-best.activation c.in-Ok.outcome (c.in-Ok.ensures _ _ c.self.invariant.life) in
    (seen_as (λ a b. Guards a (Ok c.in-Ok.outcome) b (λ r. CommitsOne a.state c.in-Some-best.activation r b.state)
    × (g.D.Disk.tells → Outlives g.D.Disk.left_since g.D.Disk.may_leave a b))
    c.self.inside.endless c.commit_activation-result.new.self c.self.inside.history _ c.append.new.self _ call c.append.ensures c.self.view_is).1

pub returns-in-Err-clause-commits : goal.returns-in-Err-clause-commits
returns-in-Err-clause-commits g c =
    let call = refused_on c.self.inside.endless c.commit_activation-result.new.self c.self.inside.history c.self.invariant
    (λ a r b. CommitsOne a c.in-Some-best.activation r b) (λ a b. g.D.Disk.tells → Outlives g.D.Disk.left_since g.D.Disk.may_leave a b)
    (λ a b e. one_refused c.in-Some-best.activation a b e) c.in-Err.refusal (c.in-Err.ensures _ _ c.self.invariant.life) in
    let seen = seen_as (λ a b. Guards a (Err c.in-Err.refusal) b (λ r. CommitsOne a.state c.in-Some-best.activation r b.state)
    × (g.D.Disk.tells → Outlives g.D.Disk.left_since g.D.Disk.may_leave a b))
    c.self.inside.endless c.commit_activation-result.new.self c.self.inside.history c.self.inside.history c.self.inside.history _ call refl c.self.view_is in
    here_refused _ _ c.args.resource c.in-Some-best.activation c.in-Err.refusal seen.0
    (subst (λ (v : CoreView _). IsBestIn v.state c.args.resource c.in-Some-best.activation) c.self.view_is
    (c.in-Some-best.ensures _ _ c.self.invariant.life))

pub returns-in-Err-clause-outlives : goal.returns-in-Err-clause-outlives
returns-in-Err-clause-outlives g c =
    let call = refused_on c.self.inside.endless c.commit_activation-result.new.self c.self.inside.history c.self.invariant
    (λ a r b. CommitsOne a c.in-Some-best.activation r b) (λ a b. g.D.Disk.tells → Outlives g.D.Disk.left_since g.D.Disk.may_leave a b)
    (λ a b e. one_refused c.in-Some-best.activation a b e) c.in-Err.refusal (c.in-Err.ensures _ _ c.self.invariant.life) in
    (seen_as (λ a b. Guards a (Err c.in-Err.refusal) b (λ r. CommitsOne a.state c.in-Some-best.activation r b.state)
    × (g.D.Disk.tells → Outlives g.D.Disk.left_since g.D.Disk.may_leave a b))
    c.self.inside.endless c.commit_activation-result.new.self c.self.inside.history c.self.inside.history c.self.inside.history _ call refl c.self.view_is).1

pub commit_activation-result-requires : goal.commit_activation-result-requires
commit_activation-result-requires g c = record { waits = λ start log is. (c.in-Some-best.ensures start log is).waits }
