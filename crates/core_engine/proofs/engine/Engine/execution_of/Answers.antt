use Rattle.std.proofs.Common.{◌∙◌, subst}
use Rattle.st_types.proofs.OptionLemmas.{ok_weaker}
use Rattle.core_engine.specs.Quick.{IsTakenIn}
use Rattle.core_engine.specs.Lived.{life_in}
use Rattle.core_engine.proofs.engine.Engine.execution_of.Goals as goal

pub whole_execution-requires : goal.whole_execution-requires
whole_execution-requires c = record {
  parts = λ start log is. (subst (IsTakenIn (life_in c.args.self.now start log) c.args.activation) c.in-Whole.is
      (c.in_ok-quick.ensures.taken start log is)).2;
}

pub returns-in-Quick-clause-activation : goal.returns-in-Quick-clause-activation
returns-in-Quick-clause-activation c =
    let (start, log, is) = c.lived.ensures.live in
    let taken = subst (IsTakenIn (life_in c.args.self.now start log) c.args.activation) c.in-Quick.is
    (c.in_ok-quick.ensures.taken start log is) in
    ok_weaker c.quick_execution.result _ _ (λ e same. same ∙ taken.0) c.quick_execution.ensures.activation

pub returns-in-Whole-clause-activation : goal.returns-in-Whole-clause-activation
returns-in-Whole-clause-activation c =
    let (start, log, is) = c.lived.ensures.live in
    let taken = subst (IsTakenIn (life_in c.args.self.now start log) c.args.activation) c.in-Whole.is
    (c.in_ok-quick.ensures.taken start log is) in
    ok_weaker c.whole_execution.result _ _ (λ e same. same ∙ taken.0) c.whole_execution.ensures.activation
