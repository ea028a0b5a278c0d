use Rattle.std.proofs.Common.{rules, ◌≡◌, ap, map, refl, subst}
use Rattle.std.specs.Prelude.{is_some}
use Rattle.st_types.specs.UnitViews.{unit_view}
use Rattle.symbols.specs.Found.{found}
use Rattle.layout.specs.Instances.{instance_view}
use Rattle.st_link.specs.CalledFunctions.{programs_among}
use Rattle.st_link.specs.Reaching.{Adds, worklist_view}
use Rattle.st_link.proofs.ReachingLemmas.{finds_functions, follows_first, for_units}
use Rattle.st_link.proofs.called_functions.reached_from.Goals as goal

pub returns : goal.returns
returns c text serves units =
    let programs = programs_among (map instance_view c.args.instances.now) in
    let none = worklist_view record { units = c.new.result; waiting = c.new-2.result } in
    let first = worklist_view c.add_named.new.self in
    let names : map (λ x. x.now) c.deref.result.now ≡ programs = search rules in
    let added : Adds text programs none first =
    subst (λ ns. Adds text ns none first) names (c.in_ok-add_named.ensures text serves) in
    finds_functions text programs (λ x. is_some (found c.follow.new.reached.units x))
    (c.in_ok-follow.ensures text programs serves units
    (for_units (λ u. unit_view u.now) text programs c.args.units.now first units
    (follows_first text programs none first (λ x. ap is_some (c.new.ensures x)) (search rules) added)))
