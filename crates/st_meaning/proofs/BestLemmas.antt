-- If neither of two activations comes before the other, they are the same.
use Rattle.std.proofs.Common.{◌≡◌, List, false, arith}
use Rattle.std.proofs.lemmas.Bool.Decides.{nat_tests}
use Rattle.st_types.specs.declared.entry.Activation.{Activation}
use Rattle.st_meaning.specs.declared.plan.Schedule.{Schedule}
use Rattle.st_meaning.specs.Due.{sooner}

same_row : (schedules : List Schedule) (a b : Activation) → sooner schedules a b ≡ false → sooner schedules b a ≡ false
    → a.row ≡ b.row
same_row schedules a b e f = grind (arith, nat_tests)

same_program : (schedules : List Schedule) (a b : Activation) → sooner schedules a b ≡ false
    → sooner schedules b a ≡ false → a.program ≡ b.program
same_program schedules a b e f = grind (arith, nat_tests)

pub none_sooner : (schedules : List Schedule) (a b : Activation) → sooner schedules a b ≡ false
    → sooner schedules b a ≡ false → a ≡ b
none_sooner schedules a b e f =
    let programs = same_program schedules a b e f in
    let rows = same_row schedules a b e f in
    λ i. record { program = programs i; row = rows i }
