use Rattle.std.proofs.Common.{rules, ap, ◌∙◌, Some, map}
use Rattle.slot_trees.specs.TextLinks.{call_slot}
use Rattle.st_link.proofs.ErrorLemmas.{none_then}
use Rattle.st_link.proofs.Sequences.{turned_all, turned_none}
use Rattle.st_link.proofs.SlotLists.{map_same, slots_traversed}
use Rattle.st_link.proofs.functions.link_slots.Goals as goal

pub returns-in_err-link_slot-clause-none : goal.returns-in_err-link_slot-clause-none
returns-in_err-link_slot-clause-none c =
    let xs = c.args.names.now in
    none_then _ c.in_err-link_slot.field-0.0 _ _ c.in_err-link_slot.ensures.none
    (λ h text t serves. slots_traversed t.symbols (map (λ x. x.now.name) xs)
    ∙ turned_none (λ x. x.now.name) (call_slot t.symbols) xs c.loop-name.name-index c.name-item.result
    (map (λ n. n) c.loop-name.slots.items) c.loop-name-test.true c.name-item.is (h text t serves)
    (c.loop-name.invariant text t serves)) (search rules)

pub returns-clause-linked : goal.returns-clause-linked
returns-clause-linked c text t serves =
    let xs = c.args.names.now in
    slots_traversed t.symbols (map (λ x. x.now.name) xs)
    ∙ turned_all (λ x. x.now.name) (call_slot t.symbols) xs c.loop-name.name-index
    (map (λ n. n) c.loop-name.slots.items) c.loop-name-test.false (c.loop-name.invariant text t serves)
    ∙ ap Some (map_same c.loop-name.slots.items)
