use Rattle.std.proofs.Common.{◌≡◌, ap, sym, ◌∙◌, ◌||◌, ◌+◌, List, ℕ, take, if◌then◌else◌, None, Some, Option}
use Rattle.std.specs.Prelude.{bytes_eq}
use Rattle.st_meaning.specs.Scopes.{contains_name}
use Rattle.symbols.specs.Found.{found, or_found}
use Rattle.st_link.specs.declared.body_table.LinkSymbol.{LinkSymbol}
use Rattle.st_link.proofs.ExternalLemmas.{contains_more, global_more, nothing_added, shown}
use Rattle.st_link.proofs.unit_names.add_externals.Goals as goal
use Rattle.st_link.proofs.unit_names.add_externals.Goals.{in-Some+in_ok-add, in_default}

pub loop-name-preserved : goal.loop-name-preserved
loop-name-preserved c x =
    let xs = c.args.externals.now in
    let i = c.loop-name.name-index in
    let y = c.name-item.result in
    let g : List ℕ → Option LinkSymbol = λ q. found c.args.globals.now q in
    let first = found c.args.symbols.now x in
    let before = found c.loop-name.symbols x in
    let whole : or_found first (if contains_name (shown (take i xs)) x || bytes_eq x y.now.name then g x else None)
    ≡ or_found first (if contains_name (shown (take (i + 1) xs)) x then g x else None) =
    ap (λ b. or_found first (if b then g x else None))
    (sym (contains_more xs i y x c.loop-name-test.true c.name-item.is)) in
    elim c.match-find.branch [
      | in-Some+in_ok-add w ↦
          ap (λ t. found t x) w.symbols-is
          ∙ global_more x y.now.name g first (contains_name (shown (take i xs)) x) before (found w.add.new.self x)
          (Some w.in-Some.global) (c.loop-name.invariant x) (sym w.in-Some.is ∙ c.find.ensures)
          (w.in_ok-add.ensures.added x) ∙ whole
      | in_default w ↦
          ap (λ t. found t x) w.symbols-is
          ∙ global_more x y.now.name g first (contains_name (shown (take i xs)) x) before before None
          (c.loop-name.invariant x) (sym w.in_default.is ∙ c.find.ensures)
          (nothing_added before (bytes_eq x y.now.name))
          ∙ whole
    ]
