use Rattle.std.proofs.Common.{ap, ◌∙◌, map}
use Rattle.st_types.specs.DeclarationViews.{type_declaration_view}
use Rattle.st_types.specs.SourceViews.{source_view}
use Rattle.st_meaning.specs.NameTypes.{declared_in}
use Rattle.st_decl.proofs.declarations.wrong_lists.Goals as goal

pub returns : goal.returns
returns c =
    let text = declared_in (source_view c.args.source.now) in
    let names = c.in_ok-names.ensures.serves in
    let fields = c.in_ok-fields.ensures text
    (ap (map (λ t. type_declaration_view t.now)) c.deref.ensures.value ∙ c.in_ok-types.ensures) in
    let all = rw (c.deref-2.ensures.value, c.in_ok-starts.ensures text names fields, c.requires)
    at c.long_lists.ensures text names in
    record { adds = all.adds; covers = all.covers }
