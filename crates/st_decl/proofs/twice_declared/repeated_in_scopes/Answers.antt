use Rattle.std.proofs.Common.{refl}
use Rattle.std.specs.Prelude.{map}
use Rattle.st_rules.specs.TwiceDeclared.{repeated}
use Rattle.st_rules.proofs.CollectLemmas.{search_starts, loop_goes_on, loop_fails, loop_ends}
use Rattle.st_decl.proofs.twice_declared.repeated_in_scopes.Goals as goal

pub loop-scope-init : goal.loop-scope-init
loop-scope-init c = search_starts _ _ _ refl

pub loop-scope-preserved : goal.loop-scope-preserved
loop-scope-preserved c =
    let adds = rw c.deref.ensures.value at c.in_ok-repeated.ensures.adds in
    let covers = rw c.deref.ensures.value at c.in_ok-repeated.ensures.covers in
    loop_goes_on repeated (λ s. map (λ x. x.now) s.items) _ _ _ _ _ _ _ c.loop-scope-test.true c.scope-item.is
    c.loop-scope.invariant adds covers

pub returns-in_err-repeated-clause-adds : goal.returns-in_err-repeated-clause-adds
returns-in_err-repeated-clause-adds c =
    let adds = rw c.deref.ensures.value at c.repeated.ensures.adds in
    loop_fails repeated (λ s. map (λ x. x.now) s.items) _ _ _ _ _ _ _ c.loop-scope-test.true c.scope-item.is
    c.loop-scope.invariant adds

pub returns : goal.returns
returns c =
    let found = loop_ends repeated (λ s. map (λ x. x.now) s.items) _ _ _ _ _ c.loop-scope-test.false
    c.loop-scope.invariant in
    record { adds = found.adds; covers = found.covers }
