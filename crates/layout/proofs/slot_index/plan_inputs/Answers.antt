use Rattle.std.proofs.Common.{rules, ◌≡◌, ◌∙◌, ◌++◌, ◌+◌, ◌∷◌, [], ap, sym, append_assoc, drop, map, Some}
use Rattle.std.specs.Prelude.{slice_get}
use Rattle.st_types.specs.Paths.{Path}
use Rattle.layout.specs.declared.slots.SlotFacts.{SlotFacts}
use Rattle.layout.specs.Indexed.{slot_of_entry}
use Rattle.layout.specs.KeptLayouts.{inputs_among}
use Rattle.layout.proofs.IndexLemmas.{inputs_from}
use Rattle.layout.proofs.slot_index.plan_inputs.Goals as goal

-- src/slot_index.rt:107:5
pub loop-number-preserved : goal.loop-number-preserved
loop-number-preserved c =
    let es = c.args.slots.now.entries in
    let n = c.loop-number.number in
    let e : Path × SlotFacts = (c.in-Some.path.now, c.in-Some.facts.now) in
    let at : slice_get es n ≡ Some e = search rules in
    let one = inputs_among (slot_of_entry e ∷ []) in
    let pushed : c.push_input.new.inputs.items ≡ c.loop-number.inputs.items ++ one = search rules in
    let rest = inputs_among (drop (n + 1) (map slot_of_entry es)) in
    ap (λ vs. vs ++ rest) pushed ∙ append_assoc c.loop-number.inputs.items one rest
    ∙ ap (λ vs. c.loop-number.inputs.items ++ vs) (sym (inputs_from es n e at)) ∙ c.loop-number.invariant
