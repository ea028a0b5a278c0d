use Rattle.std.proofs.Common.{ap, ◌∙◌, ◌∷◌, [], ◌++◌, ◌+◌, ◌-◌, arith, map, replicate}
use Rattle.std.proofs.lemmas.List.{map-append}
use Rattle.layout.specs.KeptSites.{given_view}
use Rattle.layout.proofs.PushLemmas.{moved, replicate_more}
use Rattle.layout.proofs.elements.push_repeated.Goals as goal

pub loop-preserved : goal.loop-preserved
loop-preserved c =
    let y = given_view c.args.initial in
    moved (y ∷ []) (map given_view c.loop.given.items) (map given_view c.push.new.self.items)
    (replicate (c.args.times - c.loop.counter) y) (replicate (c.args.times - (c.loop.counter + 1)) y)
    (map given_view c.args.given.now.items ++ replicate c.args.times y)
    (ap (map given_view) c.in_ok-push.ensures.items ∙ map-append given_view c.loop.given.items (c.args.initial ∷ []))
    (replicate_more c.args.times c.loop.counter y (omega arith)) c.loop.invariant
