use Rattle.std.proofs.Common.{◌≡◌, sym, ap, ◌∙◌, map, rules}
use Rattle.std.specs.Prelude.{option_map}
use Rattle.st_types.proofs.Bridge.{structure_view}
use Rattle.st_types.specs.declared.initial.Initial as code_initial
use Rattle.st_types.specs.Initials.{constant, elements_of, list}
use Rattle.st_types.specs.InitialViews.{element_view, initial_view}
use Rattle.st_rules.specs.InitialRules.{wrong_start_of}
use Rattle.st_rules.proofs.CollectLemmas.{collects_both, collects_is}
use Rattle.symbols.specs.PlaceTypes.{place_type_view}
use Rattle.st_check.proofs.initials.wrong_start.Goals as goal

pub returns-in-Constant : goal.returns-in-Constant
returns-in-Constant c text names tables fields =
    let declared = option_map place_type_view c.args.start.declared in
    let is = c.in-Constant.is in
    let seen : initial_view c.args.start.initial.now ≡ constant c.in-Constant.literal =
    rw is (search (rules, code_initial.the_lemmas)) in
    collects_is _ _ _ _ (sym (ap (wrong_start_of text declared) seen))
    (rw (c.typing_of_place.ensures text tables) at (c.wrong_constant.ensures text tables))

pub returns-in-List : goal.returns-in-List
returns-in-List c text names tables fields =
    let declared = option_map place_type_view c.args.start.declared in
    let is = c.in-List.is in
    let seen : initial_view c.args.start.initial.now
    ≡ list c.in-List.place (elements_of (map element_view c.in-List.elements.items)) =
    rw is (search (rules, code_initial.the_lemmas)) in
    collects_is _ _ _ _ (sym (ap (wrong_start_of text declared) seen))
    (collects_both _ _ _ _ _ (c.wrong_list.ensures text names tables)
    (rw c.deref.ensures.value at c.wrong_counts.ensures))

pub returns-in-Structure : goal.returns-in-Structure
returns-in-Structure c text names tables fields =
    let declared = option_map place_type_view c.args.start.declared in
    collects_is _ _ _ _ (sym (ap (wrong_start_of text declared)
    (ap initial_view c.in-Structure.is ∙ structure_view c.in-Structure.place c.in-Structure.members)))
    (rw c.deref-in-Structure.ensures.value at (c.wrong_structure.ensures text names tables fields))
