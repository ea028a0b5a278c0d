use Rattle.std.proofs.Common.{ap, sym, ◌∙◌}
use Rattle.std.specs.Prelude.{option_map}
use Rattle.st_types.specs.UnitViews.{unit_view}
use Rattle.st_link.proofs.UnitInstances.{numbered_somewhere, own_code}
use Rattle.st_link.proofs.text_tables.TextTables.own_block.Goals as goal

pub returns-in_err-find-in-FunctionBlock : goal.returns-in_err-find-in-FunctionBlock
returns-in_err-find-in-FunctionBlock c text globals serves none =
    let u = unit_view c.in_ok-unit.unit.now in
    absurd (numbered_somewhere text c.args.name.now.name u
    (sym (c.unit_named.ensures text serves.names) ∙ ap (option_map (λ v. unit_view v.now)) c.in_ok-unit.was)
    c.in-FunctionBlock.is
    (sym (serves.blocks u.name.name) ∙ sym c.find.ensures ∙ c.in_err-find-in-FunctionBlock.was))

pub returns-in_ok-find-in-FunctionBlock : goal.returns-in_ok-find-in-FunctionBlock
returns-in_ok-find-in-FunctionBlock c text globals serves none =
    let u = unit_view c.in_ok-unit.unit.now in
    own_code text c.args.name.now.name u c.in_ok-find-in-FunctionBlock.field-0 none
    (sym (c.unit_named.ensures text serves.names) ∙ ap (option_map (λ v. unit_view v.now)) c.in_ok-unit.was)
    c.in-FunctionBlock.is
    (sym (serves.blocks u.name.name) ∙ sym c.find.ensures ∙ c.in_ok-find-in-FunctionBlock.was)
