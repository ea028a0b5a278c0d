use Rattle.std.proofs.Common.{rules, sym, subst, map, Option, option_map}
use Rattle.st_types.specs.UnitViews.{unit_view}
use Rattle.st_types.specs.Units.{OrganisationUnit}
use Rattle.slot_trees.specs.SlotTrees.{SlotFunction}
use Rattle.slot_trees.specs.LibraryViews.{slot_function_view}
use Rattle.st_link.proofs.ErrorLemmas.{none_then}
use Rattle.st_link.specs.CalledFunctions.{is_called}
use Rattle.st_link.specs.Linked.{functions_of}
use Rattle.st_link.specs.LinkVariables.{is_whole_unit}
use Rattle.st_link.proofs.GatheredLemmas.{GatheredSoFar, gathered_all, gathered_first, gathered_more, gathered_none}
use Rattle.st_link.proofs.LibraryUnits.{unit_passes}
use Rattle.st_link.proofs.libraries.link_functions.Goals as goal

pub loop-unit-init : goal.loop-unit-init
loop-unit-init c text globals serves whole =
    let us = map (λ u. unit_view u.now) c.args.units.now in
    subst (λ fs. GatheredSoFar OrganisationUnit (Option SlotFunction) (functions_of (is_called c.args.called.now) text) us
    (map (option_map slot_function_view) fs) us) (sym c.new-functions.ensures.items)
    (gathered_first (functions_of (is_called c.args.called.now) text) us)

pub loop-unit-preserved : goal.loop-unit-preserved
loop-unit-preserved c text globals serves whole =
    let us = c.args.units.now in
    let i = c.loop-unit.unit-index in
    let u = c.unit-item.result in
    gathered_more (λ v. unit_view v.now) (functions_of (is_called c.args.called.now) text) us i u
    (map (option_map slot_function_view) c.loop-unit.functions.items)
    (map (option_map slot_function_view) c.push_function.new.functions.items) c.loop-unit-test.true c.unit-item.is
    (c.in_ok-push_function.ensures.linked text globals serves
    (unit_passes (is_whole_unit text) us i u c.loop-unit-test.true c.unit-item.is whole))
    (c.loop-unit.invariant text globals serves whole)

pub returns-in_err-push_function-clause-none : goal.returns-in_err-push_function-clause-none
returns-in_err-push_function-clause-none c =
    let us = c.args.units.now in
    let i = c.loop-unit.unit-index in
    let u = c.unit-item.result in
    none_then _ c.in_err-push_function.field-0.0 _ _ c.in_err-push_function.ensures.none
    (λ h text globals serves whole. gathered_none (λ v. unit_view v.now) (functions_of (is_called c.args.called.now) text) us i u
    (map (option_map slot_function_view) c.loop-unit.functions.items) c.loop-unit-test.true c.unit-item.is
    (h text globals serves (unit_passes (is_whole_unit text) us i u c.loop-unit-test.true c.unit-item.is whole))
    (c.loop-unit.invariant text globals serves whole)) (search rules)

pub returns-clause-linked : goal.returns-clause-linked
returns-clause-linked c text globals serves whole =
    gathered_all (λ v. unit_view v.now) (functions_of (is_called c.args.called.now) text) c.args.units.now c.loop-unit.unit-index
    (map (option_map slot_function_view) c.loop-unit.functions.items) c.loop-unit-test.false
    (c.loop-unit.invariant text globals serves whole)
