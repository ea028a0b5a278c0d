use Rattle.std.proofs.Common.{◌-◌, arith, refl, rules}
use Rattle.retain_store.specs.declared.shape.TheConstants.{FILE_BYTES}
use Rattle.retain_store.proofs.Formats.{zeros_in_front, length_of_zeros}
use Rattle.retain_store.proofs.store.Room.new.Goals as goal

pub returns-clause-file : goal.returns-clause-file
returns-clause-file c =
    length_of_zeros FILE_BYTES _ (c.in_ok-file.ensures.items_if_clones_equal (λ y same. search rules))

pub returns-clause-zeros : goal.returns-clause-zeros
returns-clause-zeros c = zeros_in_front (FILE_BYTES - 1) FILE_BYTES _
    (c.in_ok-file.ensures.items_if_clones_equal (λ y same. search rules)) refl (omega arith)
