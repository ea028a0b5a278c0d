use Rattle.std.proofs.Common.{rules, ◌≡◌, ap, subst, ◌∙◌, ◌<◌, ◌+◌, ◌∷◌, [], length, slice_index_or, take, map, List}
use Rattle.std.specs.Prelude.{bytes_eq}
use Rattle.std.proofs.lemmas.List.{take_all}
use Rattle.st_types.specs.UnitViews.{unit_view}
use Rattle.st_types.specs.Units.{OrganisationUnit}
use Rattle.st_meaning.specs.NameTypes.{unit_named}
use Rattle.symbols.specs.Found.{found}
use Rattle.symbols.specs.Agreeing.{Agree}
use Rattle.symbols.specs.Interfaces.{IsInterface}
use Rattle.symbols.proofs.AgreeLemmas.{agree_more}
use Rattle.symbols.proofs.TextLemmas.{unit_named_append}
use Rattle.symbols.proofs.interfaces.UnitInterfaces.new.Goals as goal
use Rattle.st_types.proofs.ListLemmas.{map_take_next}

pub loop-unit-preserved : goal.loop-unit-preserved
loop-unit-preserved c text has x =
    let us = c.args.units.now in
    let i = c.loop-unit.unit-index in
    let u = c.unit-item.result in
    let lt : i < length us = search rules in
    let is : u ≡ slice_index_or us i u = search rules in
    let before = map (λ v. unit_view v.now) (take i us) in
    agree_more (IsInterface text) (found c.loop-unit.interfaces x) (found c.add.new.self x) (unit_named before x)
    (unit_named (map (λ v. unit_view v.now) (take (i + 1) us)) x) _ (unit_view u.now) (bytes_eq x u.now.name.name)
    (c.in_ok-add.ensures.added x)
    (ap (λ vs. unit_named vs x) (map_take_next (λ v. unit_view v.now) us i u lt is)
    ∙ unit_named_append before (unit_view u.now ∷ []) x)
    (c.in_ok-interface.ensures text has) (c.loop-unit.invariant text has x)

pub returns : goal.returns
returns c text has same x =
    let us = c.args.units.now in
    let i = c.loop-unit.unit-index in
    subst (λ (vs : List OrganisationUnit). Agree (IsInterface text) (found c.loop-unit.interfaces x) (unit_named vs x))
    (ap (map (λ v. unit_view v.now)) (take_all i us (search rules)) ∙ same)
    (c.loop-unit.invariant text has x)
