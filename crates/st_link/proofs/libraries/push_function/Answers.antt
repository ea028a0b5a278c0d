use Rattle.std.proofs.Common.{rules}
use Rattle.std.specs.Prelude.{option_map}
use Rattle.st_types.specs.UnitViews.{unit_view}
use Rattle.slot_trees.specs.LibraryViews.{slot_function_view}
use Rattle.st_link.proofs.ErrorLemmas.{none_then}
use Rattle.st_link.specs.CalledFunctions.{is_called}
use Rattle.st_link.specs.Linked.{functions_of}
use Rattle.st_link.proofs.GatheredLemmas.{appended_one}
use Rattle.st_link.proofs.LibraryUnits.{function_given, function_missing, function_whole}
use Rattle.st_link.proofs.libraries.push_function.Goals as goal

pub returns-in_err-link_function-clause-none : goal.returns-in_err-link_function-clause-none
returns-in_err-link_function-clause-none c =
    let u = unit_view c.args.unit.now in
    let r = c.in-Function.returned in
    none_then _ c.in_err-link_function.field-0.0 _ _ c.in_err-link_function.ensures.none
    (λ h text globals serves whole. function_missing (is_called c.args.called.now) text u r c.in-Function.is
    (h text globals serves (function_whole text u r c.in-Function.is whole))) (search rules)

pub returns-in_ok-push-clause-linked : goal.returns-in_ok-push-clause-linked
returns-in_ok-push-clause-linked c text globals serves whole =
    let u = unit_view c.args.unit.now in
    let r = c.in-Function.returned in
    let f = c.in_ok-link_function.field-0 in
    appended_one (option_map slot_function_view) (functions_of (is_called c.args.called.now) text u) c.args.functions.now.items
    c.push.new.self.items f
    (function_given (is_called c.args.called.now) text u r (option_map slot_function_view f) c.in-Function.is
    (c.in_ok-link_function.ensures.linked text globals serves (function_whole text u r c.in-Function.is whole)))
    c.in_ok-push.ensures.items
