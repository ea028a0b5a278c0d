use Rattle.std.proofs.Common.{rules, ◌≡◌, ap, ap₂, sym, ◌∙◌}
use Rattle.std.proofs.lemmas.Int.{to_z-of_z}
use mir.Val.{SFits, to_z, of_z}
use mir.Syntax.{w128}
use Rattle.symbols.specs.PlaceTypes.{place_type_view}
use Rattle.layout.specs.Shapes.{array}
use Rattle.layout.specs.Types.{element_of, lower_of, of_elements, composition_of, shape_of_type}
use Rattle.layout.specs.Compositions.{composition_view}
use Rattle.st_link.proofs.WholeLemmas.{array_shape, elements_shape, expanded_element, not_array}
use Rattle.st_link.proofs.shape_tables.ShapeTables.elements.Goals as goal

pub returns-in_default : goal.returns-in_default
returns-in_default c text serves expanded =
    array_shape text (place_type_view c.args.declared) (composition_view c.composition_of.result)
    (c.composition_of.ensures text serves.types) (not_array c.composition_of.result c.in_default.not-Elements) expanded

pub returns : goal.returns
returns c text serves expanded =
    let t = place_type_view c.args.declared in
    let a = c.in-Elements.array.now in
    let made : of_elements a ≡ composition_of text t =
    sym (ap composition_view c.in-Elements.is) ∙ c.composition_of.ensures text serves.types in
    let fits : SFits w128 c.number_of.result = search rules in
    let lower : to_z w128 (of_z w128 c.number_of.result) ≡ lower_of a =
    to_z-of_z w128 c.number_of.result fits ∙ c.number_of.ensures in
    let deep = expanded_element text t a (sym made) expanded in
    record {
      shape = elements_shape text t a made expanded
          ∙ ap₂ (λ l n. array l n (shape_of_type text (element_of a))) (sym lower) (sym c.elements_of_array.ensures);
      stride = c.size_of_simple.ensures text serves deep;
      expanded = deep;
    }
