-- Compositions of types that have a name.
use Rattle.std.proofs.Common.{◌≡◌, ap, ◌∙◌, Option, Some, None}
use Rattle.st_types.specs.declared.data_type.VariableType.{VariableType}
use Rattle.st_types.specs.Declarations.{TypeDefinition}
use Rattle.st_meaning.specs.NameTypes.{Declared, kind_among, definition_of}
use Rattle.layout.specs.Types.{of_kind, composition_of, defined_composition}

-- one that is not enumerated
pub composed_by : (text : Declared) (t : VariableType) (d : Option TypeDefinition) → kind_among text.types t ≡ None
    → definition_of text t ≡ d → composition_of text t ≡ defined_composition text t d
composed_by text t d none is =
    ap (λ m. elim m [ Some k ↦ of_kind k | None ↦ defined_composition text t (definition_of text t) ]) none
    ∙ ap (defined_composition text t) is
