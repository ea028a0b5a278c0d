use Rattle.std.proofs.Common.{◌∙◌, ap, sym, length}
use Rattle.plan.specs.SlotPlaces.{value_at_place}
use Rattle.plan.proofs.SlotLemmas.{found_merged, from_first}
use Rattle.core_values.proofs.cells.value_at.Goals as goal

pub returns : goal.returns
returns c =
    let vs = c.args.values.now in
    let xs = c.args.image.now in
    c.value_in.ensures ∙ ap (value_at_place vs xs) c.place_at.ensures
    ∙ sym (found_merged c.args.places.now vs xs c.args.slot
    (from_first c.args.places.now (length vs) (length xs) c.requires))
