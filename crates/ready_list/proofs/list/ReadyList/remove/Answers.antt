use Rattle.std.proofs.Common.{◌∙◌, subst, sym, refl, false, None, arith}
use Rattle.std.proofs.lemmas.List.{get_or_default}
use Rattle.st_meaning.specs.Due.{History, Waits}
use Rattle.ready_list.specs.Ready.{Ready, IsReadyOf, Removes}
use Rattle.ready_list.proofs.ReadyLemmas.{listed-waits_not, listed-there, IsReadyOf-run, listed-waits}
use Rattle.ready_list.proofs.list.ReadyList.remove.Goals as goal

pub returns-then-not-is_listed-clause-remove : goal.returns-then-not-is_listed-clause-remove
returns-then-not-is_listed-clause-remove c =
    subst (λ (r : Ready). (h : History) → IsReadyOf h r → Removes h r c.args.a false r) c.self.view_is
    (λ h is. (
      listed-waits_not is c.args.a c.deref.result.now c.deref.ensures.value c.self.invariant.0
          c.is_listed.result c.is_listed.ensures c.if-not-is_listed.true,
      refl,
    ))

pub returns-clause-remove : goal.returns-clause-remove
returns-clause-remove c =
    λ h is.
    let was = subst (IsReadyOf h) (sym c.self.view_is) is in
    let l = listed-there was c.args.a c.deref.result.now c.deref.ensures.value c.self.invariant.0 c.is_listed.result
    c.is_listed.ensures c.if-not-is_listed.false in
    let there = c.index.ensures ∙ get_or_default c.self.inside.states.items c.args.a.program _
    record { waiting = None; overruns = 0 } (omega (arith, l.0, c.self.invariant.0)) in (
      subst (λ (r : Ready). Waits r.schedules h c.args.a) c.self.view_is (listed-waits was c.args.a l.0 l.1),
      IsReadyOf-run was c.args.a c.index.result.now c.taken.result c.self.invariant.0 l.0 there c.taken.ensures l.1,
    )
