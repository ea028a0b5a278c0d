use Rattle.std.proofs.Common.{ap, sym, subst, ◌∙◌}
use Rattle.std.specs.Prelude.{option_map}
use Rattle.st_types.specs.DeclarationViews.{type_definition_view}
use Rattle.symbols.specs.Standard.{block_view}
use Rattle.st_link.specs.Tables.{IsCode}
use Rattle.st_link.proofs.UnitInstances.{instance_named, nothing_seen}
use Rattle.st_link.proofs.text_tables.TextTables.block_named.Goals as goal

pub returns-in-None : goal.returns-in-None
returns-in-None c text globals serves =
    let x = c.args.name.now in
    let own = sym c.standard_block.ensures ∙ ap (option_map block_view) c.in-None.is in
    let none = sym (c.type_named.ensures text serves.names)
    ∙ nothing_seen (λ d. type_definition_view d.now) c.type_named.result c.is_some.result c.is_some.ensures
    c.if-is_some.false in
    subst (IsCode text c.own_block.result) (sym (instance_named text x none own))
    (c.own_block.ensures text globals serves own)
