use Rattle.std.proofs.Common.{rules, ap, sym, ◌∙◌, map, option_map}
use Rattle.std.specs.Prelude.{option_and_then}
use Rattle.std.specs.List.{list_all}
use Rattle.slot_trees.specs.LibraryViews.{slot_function_view}
use Rattle.st_link.proofs.ErrorLemmas.{and_none, none_then}
use Rattle.st_link.specs.CalledFunctions.{is_called}
use Rattle.st_link.specs.Gathered.{gathered}
use Rattle.st_link.specs.KeptTexts.{kept_blocks, kept_functions, kept_library_with}
use Rattle.st_link.specs.Linked.{blocks_of, functions_of}
use Rattle.st_link.specs.LinkVariables.{is_whole_unit}
use Rattle.st_link.proofs.UnitLinks.{blocks_gathered, functions_gathered}
use Rattle.st_link.proofs.libraries.link_library.Goals as goal

pub returns-in_err-functions-clause-none : goal.returns-in_err-functions-clause-none
returns-in_err-functions-clause-none c =
    none_then _ c.in_err-functions.field-0.0 _ _ c.in_err-functions.ensures.none
    (λ h text globals layout serves are all whole.
    ap (option_and_then (λ fs. option_map (kept_library_with fs) (kept_blocks text layout text.units)))
    (functions_gathered (is_called c.args.called.now) text text.units ∙ ap (gathered (functions_of (is_called c.args.called.now) text)) (sym all)
    ∙ h text globals serves (ap (list_all (is_whole_unit text)) all ∙ whole))) (search rules)

pub returns-in_err-blocks-clause-none : goal.returns-in_err-blocks-clause-none
returns-in_err-blocks-clause-none c =
    none_then _ c.in_err-blocks.field-0.0 _ _ c.in_err-blocks.ensures.none
    (λ h text globals layout serves are all whole.
    ap (λ bs. option_and_then (λ fs. option_map (kept_library_with fs) bs) (kept_functions (is_called c.args.called.now) text text.units))
    (blocks_gathered text layout text.units ∙ ap (gathered (blocks_of text layout)) (sym all)
    ∙ h text globals layout serves are (ap (list_all (is_whole_unit text)) all ∙ whole))
    ∙ and_none (kept_functions (is_called c.args.called.now) text text.units)) (search rules)

pub returns-clause-linked : goal.returns-clause-linked
returns-clause-linked c text globals layout serves are all whole =
    let fs = map (option_map slot_function_view) c.in_ok-functions.functions.items in
    ap (option_and_then (λ gs. option_map (kept_library_with gs) (kept_blocks text layout text.units)))
    (functions_gathered (is_called c.args.called.now) text text.units ∙ ap (gathered (functions_of (is_called c.args.called.now) text)) (sym all)
    ∙ c.in_ok-functions.ensures.linked text globals serves (ap (list_all (is_whole_unit text)) all ∙ whole))
    ∙ ap (option_map (kept_library_with fs))
    (blocks_gathered text layout text.units ∙ ap (gathered (blocks_of text layout)) (sym all)
    ∙ c.in_ok-blocks.ensures.linked text globals layout serves are (ap (list_all (is_whole_unit text)) all ∙ whole))
