use Rattle.std.proofs.Common.{sym, ap, ◌∙◌, take, option_map}
use Rattle.std.specs.Prelude.{map}
use Rattle.symbols.specs.Found.{found}
use Rattle.st_types.proofs.ListLemmas.{map_take_next}
use Rattle.st_rules.specs.Places.{first_named}
use Rattle.st_decl.proofs.ScopeLemmas.{first_place}
use Rattle.st_decl.proofs.twice_declared.places_of.Goals as goal

pub loop-name-preserved : goal.loop-name-preserved
loop-name-preserved c q =
    let xs = c.args.names.now in
    let i = c.loop-name.name-index in
    let y = c.name-item.result in
    let taken = map_take_next (λ x. x.now) xs i y c.loop-name-test.true c.name-item.is in
    first_place (map (λ x. x.now) (take i xs)) y.now q (found c.loop-name.index q) (found c.add.new.self q)
    (c.loop-name.invariant q) (c.in_ok-add.ensures.added q)
    ∙ ap (λ ys. option_map (λ x. x.place) (first_named ys q)) (sym taken)
