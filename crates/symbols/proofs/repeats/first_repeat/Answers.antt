use Rattle.std.proofs.Common.{rules, ◌≡◌, sym, subst, ◌+◌, [], take, drop, true, false}
use Rattle.std.specs.Prelude.{map}
use Rattle.std.specs.List.{list_any, Contains}
use Rattle.st_meaning.specs.NameTypes.{is_named}
use Rattle.st_rules.specs.Places.{repeats}
use Rattle.symbols.specs.Found.{found}
use Rattle.symbols.proofs.RepeatLemmas.{repeated, not_repeated, parted, more_named}
use Rattle.symbols.proofs.repeats.first_repeat.Goals as goal
use Rattle.st_types.proofs.ListLemmas.{map_take_next}

pub returns-then-is_some : goal.returns-then-is_some
returns-then-is_some c =
    let xs = c.args.names.now in
    let i = c.loop-identifier.identifier-index in
    let y = c.identifier-item.result in
    let before = map (λ x. x.now) (take i xs) in
    let there : list_any (is_named y.now.name) before ≡ true = search rules in
    subst (λ ys. Contains (repeats ys) y.now.place) (parted (λ x. x.now) xs i y (search rules) (search rules))
    (repeated before (map (λ x. x.now) (drop (i + 1) xs)) y.now there)

pub loop-identifier-preserved : goal.loop-identifier-preserved
loop-identifier-preserved c =
    let xs = c.args.names.now in
    let i = c.loop-identifier.identifier-index in
    let y = c.identifier-item.result in
    let before = map (λ x. x.now) (take i xs) in
    let taken = map_take_next (λ x. x.now) xs i y (search rules) (search rules) in
    let absent : list_any (is_named y.now.name) before ≡ false = search rules in (
      (λ q. more_named before (map (λ x. x.now) (take (i + 1) xs)) y.now q (found c.loop-identifier.seen q)
          (found c.add.new.self q) taken (c.loop-identifier.invariant.0 q) (c.in_ok-add.ensures.added q)),
      subst (λ ys. repeats ys ≡ []) (sym taken) (not_repeated before y.now c.loop-identifier.invariant.1 absent),
    )
