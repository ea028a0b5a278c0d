use Rattle.std.proofs.Common.{◌≡◌, rules, arith, inl, inr}
use Rattle.std.proofs.lemmas.Bool.{cases_lt}
use Rattle.serial_core.specs.Steps.{none_waits}
use Rattle.run_lock.proofs.locked.nothing_waits.Goals as goal

pub loop-resource-preserved : goal.loop-resource-preserved
loop-resource-preserved g c = λ r less. elim (cases_lt r c.loop-resource.resource) [
  | inl before ↦ c.loop-resource.invariant r before
  | inr behind ↦
      let at : r ≡ c.loop-resource.resource = omega arith in
      let none : none_waits c.args.core.now.state c.loop-resource.resource = c.if-waits_on.ensures in
      rw at none
]

pub returns : goal.returns
returns g c = (λ yes. λ r less. c.loop-resource.invariant r (search rules), search rules)

pub returns-then-waits_on : goal.returns-then-waits_on
returns-then-waits_on g c = (
  λ no. absurd (cc),
  λ settled. absurd (c.if-waits_on.ensures (settled c.loop-resource.resource c.loop-resource-test.true)),
)
