use Rattle.std.proofs.Common.{◌≡◌, ◌∙◌, ap, sym, false, map, replicate, vec_items, Bool}
use Rattle.std.specs.Prelude.{List, ℕ}
use Rattle.std.proofs.lemmas.List.{length-map}
use Rattle.retain_records.specs.ContentLines.{lines_in}
use Rattle.retain_records.specs.Marked.{restored_rest}
use Rattle.retain_records.proofs.MarkedLemmas.{unmarked, have_paths, told_all}
use Rattle.retain_records.proofs.matching.restore_from.Goals as goal

pub returns-clause-items : goal.returns-clause-items
returns-clause-items c layout same =
    let inside = c.lines.inside in
    let lines = map vec_items inside.lines.keys in
    let told = lines_in c.args.text.now c.args.told.now in
    let values = c.args.values.now.items in
    let many = inside.marks.ok.0 ∙ c.lines.invariant.1 ∙ sym (length-map inside.lines.keys vec_items) in
    let cleared : c.fill.new.self.items ≡ unmarked lines = c.fill.ensures.items (λ y e. e)
    ∙ ap (λ (n : ℕ). replicate n false) many in
    c.take_lines.ensures.items ∙ ap (λ (ms : List Bool). restored_rest lines ms told values) cleared
    ∙ ap (λ (ls : List (List ℕ)). restored_rest ls (unmarked ls) told values) (c.lines.view_is ∙ same)
    ∙ told_all values layout told (have_paths c.args.text.now c.args.told.now)
