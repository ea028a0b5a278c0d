use Rattle.std.proofs.Common.{◌≡◌, ◌<◌, rules, arith, inl, inr}
use Rattle.std.proofs.lemmas.Bool.{cases_lt}
use Rattle.core_engine.specs.Steps.{none_waits}
use Rattle.durable_core.specs.Endless.{core_in}
use Rattle.live_drive.proofs.cycle.next_waiting.Goals as goal

pub loop-resource-preserved : goal.loop-resource-preserved
loop-resource-preserved g c = λ start log is resource less. elim (cases_lt resource c.loop-resource.resource) [
  | inl before ↦ c.loop-resource.invariant start log is resource before
  | inr behind ↦
      let at : resource ≡ c.loop-resource.resource = omega arith in
      let none : none_waits (core_in c.args.core.now start log).state c.loop-resource.resource =
      c.in_default.ensures start log is in
      rw at none
]

pub returns-in-Some : goal.returns-in-Some
returns-in-Some g c = λ start log is. record {
  resource = c.loop-resource.resource;
  there = search rules;
  best = c.in-Some.ensures start log is;
  none_before = c.loop-resource.invariant start log is;
}

pub returns : goal.returns
returns g c = λ start log is resource less. c.loop-resource.invariant start log is resource (search rules)
