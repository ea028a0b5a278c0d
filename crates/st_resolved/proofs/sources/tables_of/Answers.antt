use Rattle.std.proofs.Common.{rules, ◌≡◌, ◌∙◌, ap, map}
use Rattle.st_types.specs.SourceViews.{source_view}
use Rattle.st_types.specs.UnitViews.{unit_view}
use Rattle.st_meaning.specs.NameTypes.{declared_in}
use Rattle.st_resolved.proofs.sources.tables_of.Goals as goal

pub returns : goal.returns
returns c =
    let text = declared_in (source_view c.args.source.now) in
    let units : map (λ u. unit_view u.now) c.deref.result.now ≡ text.units =
    ap (map (λ u. unit_view u.now)) c.deref.ensures.value ∙ c.in_ok-units.ensures in
    let serves = c.in_ok-names.ensures.serves in
    search rules
