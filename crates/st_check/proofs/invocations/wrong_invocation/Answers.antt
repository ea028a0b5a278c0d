use Rattle.std.proofs.Common.{subst, sym}
use Rattle.st_types.proofs.OptionLemmas.{ok_weaker}
use Rattle.st_rules.specs.CallRules.{wrong_invocation}
use Rattle.st_rules.specs.Collecting.{Adds, Covers}
use Rattle.st_check.proofs.InvocationLemmas.{invoked}
use Rattle.st_check.proofs.invocations.wrong_invocation.Goals as goal

pub returns-in-Invoke-clause-adds : goal.returns-in-Invoke-clause-adds
returns-in-Invoke-clause-adds c env serves =
    let seen = invoked c.args.statement.now c.in-Invoke.instance c.in-Invoke.arguments c.in-Invoke.is in
    subst (λ x. Adds (wrong_invocation env x) c.args.broken.now c.wrong_instance.new.broken) (sym seen)
    (rw c.deref.ensures.value at (c.wrong_instance.ensures.adds env serves))

pub returns-in-Invoke-clause-covers : goal.returns-in-Invoke-clause-covers
returns-in-Invoke-clause-covers c =
    let seen = invoked c.args.statement.now c.in-Invoke.instance c.in-Invoke.arguments c.in-Invoke.is in
    ok_weaker c.wrong_instance.result _ _
    (λ done h env serves. subst (λ x. Covers (wrong_invocation env x) c.wrong_instance.new.broken) (sym seen)
    (rw c.deref.ensures.value at (h env serves))) c.wrong_instance.ensures.covers
