use Rattle.std.proofs.Common.{ap, sym, ◌∙◌, Some}
use Rattle.std.specs.Prelude.{option_map}
use Rattle.st_types.specs.DeclarationViews.{type_definition_view}
use Rattle.st_meaning.specs.Enumerations.{enumerations_of}
use Rattle.layout.specs.Compositions.{named_type}
use Rattle.layout.proofs.CompositionLemmas.{composed_by}
use Rattle.layout.proofs.compositions.Types.composition_named.Goals as goal

pub returns-in-Some-type_named : goal.returns-in-Some-type_named
returns-in-Some-type_named c text at serves =
    let t = named_type c.args.name.now at in
    c.of_definition.ensures text t
    ∙ sym (composed_by text t (Some (type_definition_view c.in-Some-type_named.definition.now))
    (sym (c.kind_named.ensures (enumerations_of text.types) serves.enumerated) ∙ c.in_default.is)
    (sym (c.type_named.ensures text serves.names)
    ∙ ap (option_map (λ d. type_definition_view d.now)) c.in-Some-type_named.is))
