use Rattle.std.proofs.Common.{rules, ◌≡◌, ◌∙◌, ◌++◌, ◌+◌, ◌∷◌, [], ap, sym, append_assoc, drop, map, Some}
use Rattle.std.specs.Prelude.{slice_get}
use Rattle.st_types.specs.Paths.{Path}
use Rattle.layout.specs.declared.slots.SlotFacts.{SlotFacts}
use Rattle.layout.specs.Indexed.{slot_of_entry}
use Rattle.layout.specs.KeptLayouts.{variables_among}
use Rattle.layout.proofs.IndexLemmas.{variables_from}
use Rattle.layout.proofs.slot_index.plan_variables.Goals as goal

-- src/slot_index.rt:71:5
pub loop-number-preserved : goal.loop-number-preserved
loop-number-preserved c =
    let es = c.args.slots.now.entries in
    let n = c.loop-number.number in
    let e : Path × SlotFacts = (c.in-Some.path.now, c.in-Some.facts.now) in
    let at : slice_get es n ≡ Some e = search rules in
    let one = variables_among (slot_of_entry e ∷ []) in
    let pushed : c.push_variable.new.variables.items ≡ c.loop-number.variables.items ++ one = search rules in
    let rest = variables_among (drop (n + 1) (map slot_of_entry es)) in
    ap (λ vs. vs ++ rest) pushed ∙ append_assoc c.loop-number.variables.items one rest
    ∙ ap (λ vs. c.loop-number.variables.items ++ vs) (sym (variables_from es n e at)) ∙ c.loop-number.invariant
