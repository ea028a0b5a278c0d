use Rattle.st_link.proofs.OverSlots.{over_slots}
use Rattle.st_link.proofs.homes.stores_of_a_layout_are_values_of_its_slots.Goals as goal

pub returns : goal.returns
returns c = over_slots
