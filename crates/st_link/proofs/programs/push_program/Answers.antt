use Rattle.std.proofs.Common.{rules, ◌≡◌, ◌≤◌, ◌+◌, ap, sym, subst, ◌∙◌, map, Some}
use Rattle.std.specs.Prelude.{option_map}
use Rattle.st_types.specs.declared.limits.TheConstants.{MAX_PATHS}
use Rattle.st_types.specs.UnitViews.{unit_view}
use Rattle.st_meaning.specs.NameTypes.{unit_named}
use Rattle.layout.specs.Instances.{instance_view}
use Rattle.layout.specs.Sizes.{capped_size}
use Rattle.slot_trees.specs.StatementViews.{slot_stmts_view}
use Rattle.st_link.proofs.ErrorLemmas.{none_then}
use Rattle.st_link.specs.FirstSlots.{slots_taken}
use Rattle.st_link.specs.Linked.{alone, program_unit, programs_by, programs_of, variables_by}
use Rattle.st_link.specs.LinkVariables.{variables_of_blocks}
use Rattle.st_link.specs.Tables.{BeginAt}
use Rattle.st_link.proofs.GatheredLemmas.{appended_nothing, appended_one}
use Rattle.st_link.proofs.ProgramPlaces.{further_cut, none_further, program_whole}
use Rattle.st_link.proofs.programs.push_program.Goals as goal

pub returns-in_default-clause-next : goal.returns-in_default-clause-next
returns-in_default-clause-next c text globals serves whole =
    let none = sym (c.program_named.ensures text globals serves)
    ∙ ap (option_map (λ u. unit_view u.now)) c.in_default.is in
    none_further c.args.first c.requires
    ∙ ap (λ o. capped_size (c.args.first + slots_taken text (variables_by o))) (sym none)

pub returns-in_default-clause-linked : goal.returns-in_default-clause-linked
returns-in_default-clause-linked c text globals layout serves are whole room begin =
    let p = instance_view c.args.instance in
    let none = sym (c.program_named.ensures text globals serves)
    ∙ ap (option_map (λ u. unit_view u.now)) c.in_default.is in
    appended_nothing (programs_of text layout p) (map (λ b. slot_stmts_view b.items) c.args.programs.now.items)
    (ap (programs_by text layout p.0) none)

pub returns-in_err-program-clause-none : goal.returns-in_err-program-clause-none
returns-in_err-program-clause-none c =
    let p = instance_view c.args.instance in
    let u = unit_view c.in-Some.unit.now in
    none_then _ c.in_err-program.field-0.0 _ _ c.in_err-program.ensures.none
    (λ h text globals layout serves are whole room begin.
    let is : program_unit (unit_named text.units p.1) ≡ Some u =
    sym (c.program_named.ensures text globals serves) ∙ ap (option_map (λ v. unit_view v.now)) c.in-Some.is in
    ap (programs_by text layout p.0) is
    ∙ ap alone (h text globals layout p.0 serves are (program_whole text text.units p.1 u is whole)
    (subst (λ o. c.args.first + slots_taken text (variables_by o) ≤ MAX_PATHS) is room)
    (subst (λ o. BeginAt text layout p.0 c.args.first (variables_by o)) is begin))) (search rules)

pub returns-clause-next : goal.returns-clause-next
returns-clause-next c text globals serves whole =
    let p = instance_view c.args.instance in
    let u = unit_view c.in-Some.unit.now in
    let is : program_unit (unit_named text.units p.1) ≡ Some u =
    sym (c.program_named.ensures text globals serves) ∙ ap (option_map (λ v. unit_view v.now)) c.in-Some.is in
    further_cut c.args.first c.in_ok-program.program.slots (slots_taken text (variables_of_blocks u.blocks))
    c.sum-next.result
    (c.in_ok-program.ensures.slots text globals serves (program_whole text text.units p.1 u is whole))
    c.sum-next.ensures
    ∙ ap (λ o. capped_size (c.args.first + slots_taken text (variables_by o))) (sym is)

pub returns-clause-linked : goal.returns-clause-linked
returns-clause-linked c text globals layout serves are whole room begin =
    let p = instance_view c.args.instance in
    let u = unit_view c.in-Some.unit.now in
    let is : program_unit (unit_named text.units p.1) ≡ Some u =
    sym (c.program_named.ensures text globals serves) ∙ ap (option_map (λ v. unit_view v.now)) c.in-Some.is in
    appended_one (λ b. slot_stmts_view b.items) (programs_of text layout p) c.args.programs.now.items
    c.push.new.self.items c.in_ok-program.program.body
    (ap (programs_by text layout p.0) is
    ∙ ap alone (c.in_ok-program.ensures.linked text globals layout p.0 serves are
    (program_whole text text.units p.1 u is whole)
    (subst (λ o. c.args.first + slots_taken text (variables_by o) ≤ MAX_PATHS) is room)
    (subst (λ o. BeginAt text layout p.0 c.args.first (variables_by o)) is begin)))
    c.in_ok-push.ensures.items
