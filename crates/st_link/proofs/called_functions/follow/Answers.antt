use Rattle.std.proofs.Common.{rules, arith, ◌≡◌, ◌++◌, ◌∷◌, [], ◌∙◌, ◌+◌, ◌-◌, ap, map, subst, length}
use Rattle.std.proofs.lemmas.List.{map-append}
use Rattle.st_types.specs.UnitViews.{unit_view}
use Rattle.st_link.specs.CalledFunctions.{callees_of}
use Rattle.st_link.specs.Reaching.{Adds, worklist_view}
use Rattle.st_link.proofs.ReachingLemmas.{follows_all, follows_more, none_taken, none_waits}
use Rattle.st_link.proofs.called_functions.follow.Goals as goal

pub loop-preserved : goal.loop-preserved
loop-preserved c text programs serves units follows =
    let all = c.args.units.now in
    let u = unit_view c.in-Some.unit.now in
    let rest = map (λ v. unit_view v.now) c.pop.new.self.items in
    let taken = worklist_view record { units = c.loop.reached.units; waiting = c.pop.new.self } in
    let new = worklist_view c.add_named.new.self in
    let names : map (λ x. x.now) c.deref.result.now ≡ callees_of u = search rules in
    follows_more text programs (length all - c.loop.index) (length all - (c.loop.index + 1))
    (worklist_view c.loop.reached) new rest u
    (ap (map (λ v. unit_view v.now)) c.in-Some.ensures.items
    ∙ map-append (λ v. unit_view v.now) c.pop.new.self.items (c.in-Some.unit ∷ []))
    (omega (arith, c.loop-test.true))
    (subst (λ ns. Adds text ns taken new) names (c.in_ok-add_named.ensures text serves))
    (c.loop.invariant text programs serves units follows)

pub returns-in_default : goal.returns-in_default
returns-in_default c text programs serves units follows =
    follows_all text programs (length c.args.units.now - c.loop.index) (worklist_view c.loop.reached)
    (none_taken (λ u. unit_view u.now) c.loop.reached.waiting.items c.pop.new.self.items c.pop.result
    c.pop.ensures.items (search rules) (search rules))
    (c.loop.invariant text programs serves units follows)

pub returns : goal.returns
returns c text programs serves units follows =
    let turns = length c.args.units.now - c.loop.index in
    let inv = c.loop.invariant text programs serves units follows in
    follows_all text programs turns (worklist_view c.loop.reached)
    (none_waits text programs turns (worklist_view c.loop.reached) (omega (arith, c.loop-test.false)) inv) inv
