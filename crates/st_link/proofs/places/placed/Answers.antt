use Rattle.std.proofs.Common.{rules, ◌≡◌, sym, ◌∙◌, true}
use Rattle.slot_trees.specs.ExpressionViews.{anchor_view, place_view}
use Rattle.st_link.proofs.PlaceLemmas.{placed_at}
use Rattle.st_link.proofs.places.placed.Goals as goal

pub returns-in-Some-clause-place : goal.returns-in-Some-clause-place
returns-in-Some-clause-place c text t whole serves leads =
    let tested : c.is_elementary.result ≡ true = search rules in
    placed_at text t whole c.args.reached (anchor_view c.args.anchor) (anchor_view c.in-Some.anchor)
    (place_view c.new.result) (sym (c.is_elementary.ensures text serves leads.expanded) ∙ tested)
    c.if-reached-gt-MAX_PATHS.false c.in-Some.ensures.there c.new.ensures leads
