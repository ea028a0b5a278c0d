use Rattle.std.proofs.Common.{◌≡◌, ◌≤◌, ◌+◌, refl, ap, sym, subst, ◌∙◌, [], ◌∷◌, map}
use Rattle.st_types.specs.declared.limits.TheConstants.{MAX_PATHS}
use Rattle.st_types.specs.DeclarationViews.{variable_block_view}
use Rattle.st_types.specs.UnitViews.{unit_view}
use Rattle.slot_trees.specs.LinkedTexts.{table_of}
use Rattle.slot_trees.specs.SlotTrees.{own}
use Rattle.slot_trees.specs.TextLinks.{symbols_of_function}
use Rattle.slot_trees.specs.TextNumbers.{numbers_of}
use Rattle.st_link.specs.FirstSlots.{slots_taken}
use Rattle.st_link.specs.LinkVariables.{are_whole, result_of, variable_view, variables_of_blocks}
use Rattle.st_link.specs.Tables.{has_some, instances_in}
use Rattle.st_link.proofs.SymbolLemmas.{from_first}
use Rattle.st_link.proofs.UnitLinks.{function_table, table_seen, unit_instances}
use Rattle.st_link.proofs.functions.function_table.Goals as goal

pub returns-then-has_instances-clause-none : goal.returns-then-has_instances-clause-none
returns-then-has_instances-clause-none c is text globals serves =
    let u = unit_view c.args.unit.now in
    let own_seen : map variable_view c.deref-2.result.now ≡ variables_of_blocks u.blocks =
    ap (map variable_view) c.deref-2.ensures.value ∙ c.in_ok-own.ensures
    ∙ ap (λ bs. variables_of_blocks (map variable_block_view bs)) c.deref.ensures.value in
    ap has_some (unit_instances text u ∙ sym (ap (instances_in text) own_seen))
    ∙ sym (c.has_instances.ensures text globals serves) ∙ c.if-has_instances.true

pub returns-clause-without : goal.returns-clause-without
returns-clause-without c text globals serves =
    let u = unit_view c.args.unit.now in
    let own_seen : map variable_view c.deref-2.result.now ≡ variables_of_blocks u.blocks =
    ap (map variable_view) c.deref-2.ensures.value ∙ c.in_ok-own.ensures
    ∙ ap (λ bs. variables_of_blocks (map variable_block_view bs)) c.deref.ensures.value in
    ap has_some (unit_instances text u ∙ sym (ap (instances_in text) own_seen))
    ∙ sym (c.has_instances.ensures text globals serves) ∙ c.if-has_instances.false

pub returns-clause-serves : goal.returns-clause-serves
returns-clause-serves c text globals serves whole room =
    let r = c.args.returned.now in
    let u = unit_view c.args.unit.now in
    let vs = result_of u.name.name r ∷ variables_of_blocks u.blocks in
    let seen : map variable_view c.deref-4.result.now ≡ vs =
    ap (map variable_view) c.deref-4.ensures.value ∙ c.in_ok-variables.ensures
    ∙ ap (λ bs. result_of u.name.name r ∷ variables_of_blocks (map variable_block_view bs)) c.deref-3.ensures.value in
    let t = table_of (numbers_of text) (symbols_of_function text r u) [] in
    c.in_ok-unit_table.ensures.serves text globals t serves (ap (are_whole text) seen ∙ whole)
    (subst (λ ws. 0 + slots_taken text ws ≤ MAX_PATHS) (sym seen) (from_first (slots_taken text vs) room))
    (table_seen text globals (own 0) t [] [] (map variable_view c.deref-4.result.now) vs [] [] refl seen refl
    (function_table text globals r u))
