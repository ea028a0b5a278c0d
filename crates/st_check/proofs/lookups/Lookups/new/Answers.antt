use Rattle.std.specs.List.{filter_map}
use Rattle.std.proofs.Common.{◌≡◌, ◌∙◌, ap, refl, map}
use Rattle.st_types.specs.DeclarationViews.{type_declaration_view}
use Rattle.st_types.specs.SourceViews.{source_view}
use Rattle.st_types.specs.UnitViews.{unit_view}
use Rattle.st_meaning.specs.NameTypes.{declared_in}
use Rattle.st_decl.specs.Entries.{declaring_of}
use Rattle.st_decl.proofs.EntryLemmas.{declarings_listed}
use Rattle.st_check.proofs.lookups.Lookups.new.Goals as goal

pub returns : goal.returns
returns c =
    let s = source_view c.args.source.now in
    let text = declared_in s in
    let types : map (λ t. type_declaration_view t.now) c.deref.result.now ≡ text.types =
    ap (map (λ t. type_declaration_view t.now)) c.deref.ensures.value ∙ c.in_ok-types.ensures in
    let units : map (λ u. unit_view u.now) c.deref-2.result.now ≡ text.units =
    ap (map (λ u. unit_view u.now)) c.deref-2.ensures.value ∙ c.in_ok-units.ensures in
    record {
      source_is = refl;
      names = c.in_ok-names.ensures.serves;
      tables = c.in_ok-tables.ensures text c.in_ok-new.ensures.serves types units;
      fields = c.in_ok-fields.ensures text
          (ap (map (λ t. type_declaration_view t.now)) c.deref-3.ensures.value ∙ c.in_ok-types.ensures);
      entries = c.requires;
      declarings = c.in_ok-declarings.ensures ∙ ap (filter_map declaring_of) c.requires ∙ declarings_listed s;
      units = c.in_ok-units.ensures;
    }
