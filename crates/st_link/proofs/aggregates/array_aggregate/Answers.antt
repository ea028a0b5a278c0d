use Rattle.std.proofs.Common.{ap, ◌∙◌, ◌*◌}
use Rattle.layout.specs.Sizes.{capped_size}
use Rattle.st_link.proofs.WholeLemmas.{expanded_element, whole_elements}
use Rattle.st_link.proofs.aggregates.array_aggregate.Goals as goal

pub returns-clause-whole : goal.returns-clause-whole
returns-clause-whole c text t serves made expanded =
    whole_elements text t c.args.array.now c.in_ok-slots.slots
    (record { size = c.product.result; members = c.new.result }) made expanded
    (c.in_ok-slots.ensures.size text serves (expanded_element text t c.args.array.now made expanded))
    (c.product.ensures ∙ ap (λ k. capped_size (k * c.in_ok-slots.slots)) c.elements_of_array.ensures) c.new.ensures
