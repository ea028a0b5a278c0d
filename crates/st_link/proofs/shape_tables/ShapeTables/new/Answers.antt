use Rattle.std.proofs.Common.{◌≡◌, ap, sym, ◌∙◌, map, Option, None, Some}
use Rattle.st_types.specs.SourceViews.{source_view}
use Rattle.st_types.specs.DeclarationViews.{type_declaration_view}
use Rattle.st_types.specs.UnitViews.{unit_view}
use Rattle.st_meaning.specs.NameTypes.{declared_in, type_named, unit_named}
use Rattle.st_link.proofs.shape_tables.ShapeTables.new.Goals as goal

none_is : {A : Type 0} {o : Option A} {w : A} → o ≡ None → o ≡ Some w → ⊥
none_is a b = cc

pub returns : goal.returns
returns c =
    let text = declared_in (source_view c.args.source.now) in
    let first = c.new-sizes.ensures text c.in_ok-new.ensures in
    record {
      types = c.in_ok-new-2.ensures;
      known = c.in_ok-add_units.ensures.known text (c.in_ok-add_types.ensures.serves text first)
          (c.in_ok-add_types.ensures.known text first (λ x w is at h. let none = c.new-wholes.ensures x in absurd
          (none_is none is)));
      all = λ x none.
          let units = c.in_ok-add_units.ensures.kept x none in
          let types = c.in_ok-add_types.ensures.kept x units.0 in
          record {
            no_type = ap (λ ts. type_named ts x) (sym (ap (map (λ t. type_declaration_view t.now))
                c.deref.ensures.value
                ∙ c.in_ok-types_in.ensures)) ∙ types.1;
            no_unit = ap (λ us. unit_named us x) (sym (ap (map (λ u. unit_view u.now)) c.deref-2.ensures.value
                ∙ c.in_ok-units_in.ensures)) ∙ units.1;
          };
      standards = c.in_ok-new-3.ensures;
    }
