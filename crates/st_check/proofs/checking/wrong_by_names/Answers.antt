use Rattle.std.proofs.Common.{◌≡◌, ◌∙◌, ap, subst, map}
use Rattle.std.specs.List.{flat_map}
use Rattle.st_types.specs.SourceViews.{source_view}
use Rattle.st_types.specs.UnitViews.{unit_view}
use Rattle.st_types.proofs.OptionLemmas.{ok_weaker}
use Rattle.st_meaning.specs.NameTypes.{declared_in, units_in}
use Rattle.st_rules.specs.BodyRules.{wrong_body}
use Rattle.st_rules.specs.Collecting.{Adds, Covers}
use Rattle.st_rules.specs.Rules.{environment}
use Rattle.st_rules.proofs.CollectLemmas.{adds_nothing, adds_both, adds_more, among_left, among_itself, covers_both}
use Rattle.st_rules.proofs.CollectLemmas.{covers_later}
use Rattle.st_check.proofs.checking.wrong_by_names.Goals as goal

pub returns-in_err-lookups-clause-adds : goal.returns-in_err-lookups-clause-adds
returns-in_err-lookups-clause-adds c = adds_nothing _ _

pub returns-in_err-wrong_starts-clause-adds : goal.returns-in_err-wrong_starts-clause-adds
returns-in_err-wrong_starts-clause-adds c =
    let s = source_view c.args.source.now in
    let serves = c.in_ok-lookups.ensures in
    let types = c.wrong_types.ensures s serves in
    adds_more _ _ _ _ (among_left _ _ _ (among_itself _))
    (adds_both _ _ _ _ _ types.adds (c.wrong_starts.ensures.adds s serves))

pub returns-clause-adds : goal.returns-clause-adds
returns-clause-adds c =
    let s = source_view c.args.source.now in
    let text = declared_in s in
    let serves = c.in_ok-lookups.ensures in
    let types = c.wrong_types.ensures s serves in
    let units : map (λ u. unit_view u.now) c.deref.result.now ≡ units_in s =
    ap (map (λ u. unit_view u.now)) c.deref.ensures.value ∙ serves.units in
    adds_both _ _ _ _ _ (adds_both _ _ _ _ _ types.adds (c.wrong_starts.ensures.adds s serves))
    (subst (λ us. Adds (flat_map (λ u. wrong_body (environment text u)) us) c.wrong_starts.new.broken
    c.wrong_bodies.new.broken) units
    (c.wrong_bodies.ensures.adds text serves.tables))

pub returns-clause-covers : goal.returns-clause-covers
returns-clause-covers c =
    let s = source_view c.args.source.now in
    let text = declared_in s in
    let serves = c.in_ok-lookups.ensures in
    let types = c.wrong_types.ensures s serves in
    let units : map (λ u. unit_view u.now) c.deref.result.now ≡ units_in s =
    ap (map (λ u. unit_view u.now)) c.deref.ensures.value ∙ serves.units in
    let starts = c.in_ok-wrong_starts.ensures.covers s serves in
    let bodies = subst (λ us. Adds (flat_map (λ u. wrong_body (environment text u)) us) c.wrong_starts.new.broken
    c.wrong_bodies.new.broken) units
    (c.wrong_bodies.ensures.adds text serves.tables) in
    let last = c.wrong_bodies.new.broken in
    ok_weaker c.wrong_bodies.result _ _
    (λ done h. covers_both _ _ last
    (covers_later _ _ c.wrong_starts.new.broken last
    (covers_both _ _ c.wrong_starts.new.broken (covers_later _ _ c.wrong_types.new.broken c.wrong_starts.new.broken
    types.covers (c.wrong_starts.ensures.adds s serves)) starts) bodies)
    (subst (λ us. Covers (flat_map (λ u. wrong_body (environment text u)) us) last) units (h text serves.tables)))
    c.wrong_bodies.ensures.covers
