use Rattle.std.proofs.Common.{map, take, subst, sym, ap, ◌∙◌, ◌∷◌, []}
use Rattle.std.proofs.lemmas.List.{map-append}
use Rattle.st_link.specs.Reaching.{Adds, worklist_view}
use Rattle.st_link.proofs.ReachingLemmas.{adds_both}
use Rattle.st_link.proofs.SymbolLemmas.{more_taken}
use Rattle.st_link.proofs.called_functions.Reached.add_named.Goals as goal

pub loop-name-preserved : goal.loop-name-preserved
loop-name-preserved c text serves =
    let names = c.args.names.now in
    let i = c.loop-name.name-index in
    let y = c.name-item.result in
    subst (λ ns. Adds text ns (worklist_view c.args.self.now) (worklist_view c.add.new.self))
    (sym (ap (map (λ x. x.now)) (more_taken names i y c.loop-name-test.true c.name-item.is)
    ∙ map-append (λ x. x.now) (take i names) (y ∷ [])))
    (adds_both text (map (λ x. x.now) (take i names)) (y.now ∷ []) (worklist_view c.args.self.now)
    (worklist_view c.loop-name.self) (worklist_view c.add.new.self) (c.loop-name.invariant text serves)
    (c.in_ok-add.ensures text y.now (c.unit_named.ensures text serves)))
