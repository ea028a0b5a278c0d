use Rattle.std.proofs.Common.{◌≡◌, ◌∙◌, ◌++◌, [], ap, sym, drop, append-nil}
use Rattle.std.proofs.lemmas.List.{drop_all}
use Rattle.config.proofs.NumberedLemmas.{facts_numbered, numbered_facts}
use Rattle.config.proofs.numbered_slots.numbered_slots.Goals as goal

pub returns : goal.returns
returns c =
    let facts = c.facts-facts-items.result.now in
    let done = c.loop-facts.places.items in
    let none : drop c.loop-facts.facts-index facts ≡ [] = drop_all c.loop-facts.facts-index facts c.loop-facts-test.false in
    sym (append-nil done)
    ∙ sym (ap (λ rest. done ++ numbered_facts c.loop-facts.variables c.loop-facts.inputs rest) none)
    ∙ c.loop-facts.invariant.0 ∙ ap (numbered_facts 0 0) c.facts-facts-items.ensures
    ∙ facts_numbered c.args.layout.now.slots 0 0
