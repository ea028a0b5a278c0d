use Rattle.std.proofs.Common.{◌<◌, ◌∙◌, ap, length, sym, subst}
use Rattle.plan.specs.declared.plan.Plan.{Plan}
use Rattle.core_engine.specs.Steps.{code_at}
use Rattle.core_engine.specs.Lived.{EngineView, HasEngineLife}
use Rattle.core_engine.proofs.TakeLemmas.{slots_of_code, waits-program}
use Rattle.core_engine.proofs.engine.Engine.code_for.Goals as goal
use Rattle.st_types.proofs.OptionLemmas.{ok_weaker}

pub code_of-requires : goal.code_of-requires
code_of-requires c =
    let (start, log, is) = subst HasEngineLife c.self.view_is c.self.invariant.live in
    record {
      there = subst (λ (p : Plan). c.args.activation.program < length p.programs.items)
          (sym (c.deref.ensures ∙ ap (λ (e : EngineView). e.plan) c.self.view_is))
          (waits-program is.kept c.args.activation (c.requires.waits start log is));
    }

pub returns-clause-typed : goal.returns-clause-typed
returns-clause-typed c =
    ok_weaker c.code_of.result _ _
    (λ code coded. λ start log is. slots_of_code is.kept c.args.activation code.value (c.requires.waits start log is)
    (ap (λ (p : Plan). code_at p c.args.activation.program)
    (sym (c.deref.ensures ∙ ap (λ (e : EngineView). e.plan) c.self.view_is)) ∙ coded)) c.code_of.ensures
