use Rattle.std.proofs.Common.{◌≡◌, ap, sym, subst, ◌∙◌, ◌*◌}
use Rattle.symbols.specs.PlaceTypes.{place_type_view}
use Rattle.layout.specs.Shapes.{size}
use Rattle.layout.specs.Types.{composition_of, of_elements, shape_of_type}
use Rattle.layout.specs.Sizes.{capped_size}
use Rattle.st_link.specs.Shapes.{IsExpanded}
use Rattle.st_link.proofs.WholeLemmas.{array_size, expanded_element, kind_size}
use Rattle.st_link.proofs.shape_tables.ShapeTables.size.Goals as goal

pub returns-in-Simple : goal.returns-in-Simple
returns-in-Simple c text serves expanded =
    subst (λ d. IsExpanded text (place_type_view d)
    → c.size_of_simple.result ≡ capped_size (size (shape_of_type text (place_type_view d))))
    (sym c.in-Simple.is) (c.size_of_simple.ensures text serves) expanded

pub returns-in-Standard : goal.returns-in-Standard
returns-in-Standard c text serves expanded =
    kind_size text (place_type_view c.args.declared) c.in-Standard.field-0
    (ap (λ d. composition_of text (place_type_view d)) c.in-Standard.is) expanded

pub returns-in-Array : goal.returns-in-Array
returns-in-Array c text serves expanded =
    let t = place_type_view c.args.declared in
    let a = c.in-Array.array.now in
    let stride = c.size_of_simple-stride.result in
    let made : composition_of text t ≡ of_elements a =
    ap (λ d. composition_of text (place_type_view d)) c.in-Array.is in
    c.product.ensures ∙ ap (λ n. capped_size (n * stride)) c.elements_of_array.ensures
    ∙ array_size text t a stride made expanded
    (c.size_of_simple-stride.ensures text serves (expanded_element text t a made expanded))
