use Rattle.std.proofs.Common.{rules, ◌≡◌, ℕ, Ok, Err, refl, sym, subst, arith}
use Rattle.core_engine.specs.Steps.{Latches}
use Rattle.serial_core.proofs.GrownLemmas.{outcomes_kept}
use Rattle.durable_core.specs.Cores.{CoreView, Guards, Outlives}
use Rattle.durable_core.proofs.LogLemmas.{keeps_as, latch_refused, refused_on, row_in, seen_as}
use Rattle.durable_core.proofs.core_state.Core.latch.Goals as goal

pub append-requires-clause-log : goal.append-requires-clause-log
append-requires-clause-log g c =
    let (longer, ((none, same, step), left), life) = c.in-Ok.ensures _ _ c.self.invariant.life in
    omega (arith, step.0, c.self.invariant.room)

pub append-requires-clause-outcomes : goal.append-requires-clause-outcomes
append-requires-clause-outcomes g c =
    let (longer, ((none, same, step), left), life) = c.in-Ok.ensures _ _ c.self.invariant.life in
    omega (arith, step.0, outcomes_kept c.self.invariant.serial, c.self.invariant.room)

pub invariant_of-self : goal.invariant_of-self
invariant_of-self g c =
    let call = row_in c.self.inside.endless c.latch-result.new.self c.self.inside.history c.self.invariant
    (λ a b. g.D.Disk.tells → Outlives g.D.Disk.left_since g.D.Disk.may_leave a b) c.args.row c.in-Ok.number
    (c.in-Ok.ensures _ _ c.self.invariant.life) in
    keeps_as (λ a b. Guards a (Ok c.in-Ok.number) b (λ r. Latches a.state c.args.row r b.state)
    × (g.D.Disk.tells → Outlives g.D.Disk.left_since g.D.Disk.may_leave a b))
    c.self.inside.endless c.latch-result.new.self c.self.inside.history _ c.append.new.self call c.append.ensures

pub invariant_of-self-in-Err-1 : goal.invariant_of-self-in-Err-1
invariant_of-self-in-Err-1 g c =
    let call = refused_on c.self.inside.endless c.latch-result.new.self c.self.inside.history c.self.invariant
    (λ a r b. Latches a c.args.row r b) (λ a b. g.D.Disk.tells → Outlives g.D.Disk.left_since g.D.Disk.may_leave a b)
    (λ a b e. latch_refused c.args.row a b e) c.in-Err.refusal (c.in-Err.ensures _ _ c.self.invariant.life) in
    call.keeps

pub returns-in-Ok-clause-latches : goal.returns-in-Ok-clause-latches
returns-in-Ok-clause-latches g c =
    let call = row_in c.self.inside.endless c.latch-result.new.self c.self.inside.history c.self.invariant
    (λ a b. g.D.Disk.tells → Outlives g.D.Disk.left_since g.D.Disk.may_leave a b) c.args.row c.in-Ok.number
    (c.in-Ok.ensures _ _ c.self.invariant.life) in
    (seen_as (λ a b. Guards a (Ok c.in-Ok.number) b (λ r. Latches a.state c.args.row r b.state)
    × (g.D.Disk.tells → Outlives g.D.Disk.left_since g.D.Disk.may_leave a b))
    c.self.inside.endless c.latch-result.new.self c.self.inside.history _ c.append.new.self _ call c.append.ensures c.self.view_is).0

pub returns-in-Ok-clause-outlives : goal.returns-in-Ok-clause-outlives
returns-in-Ok-clause-outlives g c =
    let call = row_in c.self.inside.endless c.latch-result.new.self c.self.inside.history c.self.invariant
    (λ a b. g.D.Disk.tells → Outlives g.D.Disk.left_since g.D.Disk.may_leave a b) c.args.row c.in-Ok.number
    (c.in-Ok.ensures _ _ c.self.invariant.life) in
    (seen_as (λ a b. Guards a (Ok c.in-Ok.number) b (λ r. Latches a.state c.args.row r b.state)
    × (g.D.Disk.tells → Outlives g.D.Disk.left_since g.D.Disk.may_leave a b))
    c.self.inside.endless c.latch-result.new.self c.self.inside.history _ c.append.new.self _ call c.append.ensures c.self.view_is).1

pub returns-in-Err-clause-latches : goal.returns-in-Err-clause-latches
returns-in-Err-clause-latches g c =
    let call = refused_on c.self.inside.endless c.latch-result.new.self c.self.inside.history c.self.invariant
    (λ a r b. Latches a c.args.row r b) (λ a b. g.D.Disk.tells → Outlives g.D.Disk.left_since g.D.Disk.may_leave a b)
    (λ a b e. latch_refused c.args.row a b e) c.in-Err.refusal (c.in-Err.ensures _ _ c.self.invariant.life) in
    (seen_as (λ a b. Guards a (Err c.in-Err.refusal) b (λ r. Latches a.state c.args.row r b.state)
    × (g.D.Disk.tells → Outlives g.D.Disk.left_since g.D.Disk.may_leave a b))
    c.self.inside.endless c.latch-result.new.self c.self.inside.history c.self.inside.history c.self.inside.history _ call refl c.self.view_is).0

pub returns-in-Err-clause-outlives : goal.returns-in-Err-clause-outlives
returns-in-Err-clause-outlives g c =
    let call = refused_on c.self.inside.endless c.latch-result.new.self c.self.inside.history c.self.invariant
    (λ a r b. Latches a c.args.row r b) (λ a b. g.D.Disk.tells → Outlives g.D.Disk.left_since g.D.Disk.may_leave a b)
    (λ a b e. latch_refused c.args.row a b e) c.in-Err.refusal (c.in-Err.ensures _ _ c.self.invariant.life) in
    (seen_as (λ a b. Guards a (Err c.in-Err.refusal) b (λ r. Latches a.state c.args.row r b.state)
    × (g.D.Disk.tells → Outlives g.D.Disk.left_since g.D.Disk.may_leave a b))
    c.self.inside.endless c.latch-result.new.self c.self.inside.history c.self.inside.history c.self.inside.history _ call refl c.self.view_is).1
