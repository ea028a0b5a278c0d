use Rattle.std.proofs.Common.{sym, ap, ◌∙◌, ◌+◌, [], ◌∷◌, ◌++◌, take, drop, option_map}
use Rattle.std.specs.Prelude.{map}
use Rattle.st_types.proofs.ListLemmas.{map_take_next, map_drop_next}
use Rattle.st_rules.specs.Collecting.{Collects}
use Rattle.st_rules.specs.Places.{first_named}
use Rattle.st_rules.specs.TwiceDeclared.{declared_again, repeated, repeated_after}
use Rattle.st_rules.proofs.CollectLemmas.{search_is, search_goes_on, search_fails, collects_is, collects_nothing}
use Rattle.symbols.specs.Found.{found}
use Rattle.st_decl.proofs.ScopeLemmas.{again_at, not_again, first_place}
use Rattle.st_decl.proofs.twice_declared.repeated.Goals as goal
use Rattle.st_decl.proofs.twice_declared.repeated.Goals.{in-Some, in_default}

pub loop-name-preserved : goal.loop-name-preserved
loop-name-preserved c =
    let xs = c.args.names.now in
    let i = c.loop-name.name-index in
    let y = c.name-item.result in
    let before = map (λ x. x.now) (take i xs) in
    let after = map (λ x. x.now) (drop (i + 1) xs) in
    let all = repeated (map (λ x. x.now) xs) in
    let taken = map_take_next (λ x. x.now) xs i y c.loop-name-test.true c.name-item.is in
    let left = map_drop_next (λ x. x.now) xs i y c.loop-name-test.true c.name-item.is in
    let known = c.find.ensures ∙ c.loop-name.invariant.0 y.now.name in
    let one : Collects (declared_again before y.now) c.loop-name.broken c.match-find.broken =
    elim c.match-find.branch [
      | in-Some w ↦ rw w.broken-is (collects_is _ _ _ _ (again_at before y.now w.in-Some.first (sym w.in-Some.is ∙ known))
          w.add.ensures)
      | in_default w ↦ rw w.broken-is (collects_is _ _ _ _ (not_again before y.now (sym w.in_default.is ∙ known))
          (collects_nothing _))
    ] in (
      (λ q. first_place before y.now q (found c.loop-name.places q) (found c.add-in-loop-name.new.self q)
          (c.loop-name.invariant.0 q) (c.in_ok-add.ensures.added q)
          ∙ ap (λ ys. option_map (λ x. x.place) (first_named ys q)) (sym taken)),
      search_is all _ _ _ _ (ap (λ ys. repeated_after ys after) (sym taken))
          (search_goes_on all (declared_again before y.now) (repeated_after (before ++ y.now ∷ []) after) _ _ _
          (search_is all _ _ _ _ (ap (repeated_after before) left) c.loop-name.invariant.1) one.adds one.covers),
    )

pub returns-in_err-add-clause-adds : goal.returns-in_err-add-clause-adds
returns-in_err-add-clause-adds c =
    let xs = c.args.names.now in
    let i = c.loop-name.name-index in
    let y = c.name-item.result in
    let before = map (λ x. x.now) (take i xs) in
    let after = map (λ x. x.now) (drop (i + 1) xs) in
    let all = repeated (map (λ x. x.now) xs) in
    let left = map_drop_next (λ x. x.now) xs i y c.loop-name-test.true c.name-item.is in
    let known = c.find.ensures ∙ c.loop-name.invariant.0 y.now.name in
    let one : Collects (declared_again before y.now) c.loop-name.broken c.match-find.broken =
    elim c.match-find.branch [
      | in-Some w ↦ rw w.broken-is (collects_is _ _ _ _ (again_at before y.now w.in-Some.first (sym w.in-Some.is ∙ known))
          w.add.ensures)
      | in_default w ↦ rw w.broken-is (collects_is _ _ _ _ (not_again before y.now (sym w.in_default.is ∙ known))
          (collects_nothing _))
    ] in
    search_fails all (declared_again before y.now) (repeated_after (before ++ y.now ∷ []) after) _ _ _
    (search_is all _ _ _ _ (ap (repeated_after before) left) c.loop-name.invariant.1) one.adds
