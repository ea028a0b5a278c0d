use Rattle.std.proofs.Common.{rules, refl, ◌≡◌, sym, ap, ◌∙◌, ◌<◌, length, slice_index_or, [], ◌∷◌}
use Rattle.std.specs.Prelude.{map}
use Rattle.st_types.specs.DeclarationViews.{type_declaration_view}
use Rattle.st_types.specs.UnitViews.{unit_view}
use Rattle.st_types.specs.SourceViews.{element_view}
use Rattle.st_meaning.specs.NameTypes.{types_in, units_in, type_named}
use Rattle.symbols.specs.Found.{found, or_found}
use Rattle.symbols.specs.Texts.{type_found, unit_found}
use Rattle.symbols.proofs.TextLemmas.{types_more, units_more, unit_added, or_none}
use Rattle.symbols.proofs.texts.TextNames.new.Goals as goal
use Rattle.symbols.proofs.texts.TextNames.new.Goals.{in-Types+in_ok-add_types-in-Types, in-Unit+in_ok-add-in-Unit}
use Rattle.symbols.proofs.texts.TextNames.new.Goals.{in-Configuration}
use Rattle.std.proofs.lemmas.List.{append-nil}

pub loop-element-preserved : goal.loop-element-preserved
loop-element-preserved c =
    let es = c.args.source.now.elements.items in
    let i = c.loop-element.element-index in
    let x = c.element-item.result in
    let lt : i < length es = search rules in
    let is : x ≡ slice_index_or es i x = search rules in
    let inv = c.loop-element.invariant in
    let types_before = c.loop-element.types in
    let units_before = c.loop-element.units in
    let types_now = c.match-element.types in
    let units_now = c.match-element.units in
    elim c.match-element.branch [
      | in-Types+in_ok-add_types-in-Types w ↦ (
        (λ q. types_more es i x q (type_found types_before q) (type_found types_now q)
            (map type_declaration_view w.in-Types.declared.items) lt is (inv.0 q)
            (ap (λ e. types_in (element_view e ∷ [])) w.in-Types.is ∙ append-nil _)
            (ap (λ t. type_found t q) w.types-is ∙ w.in_ok-add_types-in-Types.ensures q
            ∙ ap (λ ts. or_found (type_found types_before q) (type_named (map type_declaration_view ts) q))
            w.deref.ensures.value)),
        (λ q. units_more es i x q (unit_found units_before q) (unit_found units_now q) [] lt is (inv.1 q)
            (ap (λ e. units_in (element_view e ∷ [])) w.in-Types.is)
            (ap (λ t. unit_found t q) w.units-is ∙ sym (or_none (unit_found units_before q)))),
      )
      | in-Unit+in_ok-add-in-Unit w ↦ (
        (λ q. types_more es i x q (type_found types_before q) (type_found types_now q) [] lt is (inv.0 q)
            (ap (λ e. types_in (element_view e ∷ [])) w.in-Unit.is)
            (ap (λ t. type_found t q) w.types-is ∙ sym (or_none (type_found types_before q)))),
        (λ q. units_more es i x q (unit_found units_before q) (unit_found units_now q) (unit_view w.in-Unit.unit ∷ [])
            lt is (inv.1 q) (ap (λ e. units_in (element_view e ∷ [])) w.in-Unit.is)
            (ap (λ t. unit_found t q) w.units-is
            ∙ unit_added (found units_before q) (found w.add.new.self q) _ q w.in-Unit.unit.name
            (w.in_ok-add-in-Unit.ensures.added q) refl)),
      )
      | in-Configuration w ↦ (
        (λ q. types_more es i x q (type_found types_before q) (type_found types_now q) [] lt is (inv.0 q)
            (ap (λ e. types_in (element_view e ∷ [])) w.in-Configuration.is)
            (ap (λ t. type_found t q) w.types-is ∙ sym (or_none (type_found types_before q)))),
        (λ q. units_more es i x q (unit_found units_before q) (unit_found units_now q) [] lt is (inv.1 q)
            (ap (λ e. units_in (element_view e ∷ [])) w.in-Configuration.is)
            (ap (λ t. unit_found t q) w.units-is ∙ sym (or_none (unit_found units_before q)))),
      )
    ]
