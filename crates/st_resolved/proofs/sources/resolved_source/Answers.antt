use Rattle.std.proofs.Common.{◌∙◌, ap, map}
use Rattle.st_types.specs.DeclarationViews.{type_declaration_view}
use Rattle.st_types.specs.SourceViews.{source_view}
use Rattle.st_meaning.specs.NameTypes.{declared_in}
use Rattle.st_resolved.proofs.sources.resolved_source.Goals as goal

pub tables_of-requires : goal.tables_of-requires
tables_of-requires c =
    ap (map (λ t. type_declaration_view t.now)) c.deref-2.ensures.value ∙ c.in_ok-types.ensures

pub returns : goal.returns
returns c =
    let text = declared_in (source_view c.args.source.now) in
    let fields = c.in_ok-fields.ensures text
    (ap (map (λ t. type_declaration_view t.now)) c.deref.ensures.value ∙ c.in_ok-types.ensures) in
    rw c.deref-3.ensures.value at (c.in_ok-elements.ensures text c.in_ok-tables.ensures fields)
