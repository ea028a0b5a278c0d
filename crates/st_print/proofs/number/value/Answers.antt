use Rattle.std.proofs.Common.{refl, arith, ◌<◌, ◌^◌}
use Rattle.std.specs.Prelude.{FitsSigned}
use Rattle.std.specs.Int.{w128}
use Rattle.std.proofs.lemmas.Int.{to_z-of_z, fits_signed_from_abs}
use Rattle.st_types.specs.Kinds.{holds, names_in}
use Rattle.st_print.proofs.NumberLemmas.{value_spelled, value_refused}
use Rattle.st_print.proofs.number.value.Goals as goal

pub returns-clause-spelled : goal.returns-clause-spelled
returns-clause-spelled c =
    let short = c.in_ok-number.ensures.short in
    let fits : FitsSigned w128 c.in_ok-number.number = fits_signed_from_abs w128 c.in_ok-number.number (omega arith) in
    let made = rw (to_z-of_z w128 c.in_ok-number.number fits) at c.new.ensures in
    rw (c.ok.ensures.value, made) (value_spelled c.args.kind c.args.field.now c.in_ok-number.number
    (holds c.args.kind c.in_ok-number.number) refl c.in_ok-number.ensures.spelled)

pub returns-clause-none : goal.returns-clause-none
returns-clause-none c =
    let few : names_in c.args.kind < 2 ^ 16 = omega (arith, c.names-few.ensures, c.names-few.type_inv) in
    let short = c.in_ok-number.ensures.short in
    let fits : FitsSigned w128 c.in_ok-number.number = fits_signed_from_abs w128 c.in_ok-number.number (omega arith) in
    let made = rw (to_z-of_z w128 c.in_ok-number.number fits) at c.new.ensures in
    rw (c.ok.ensures.value, made) (value_refused c.args.kind c.args.field.now c.in_ok-number.number
    (holds c.args.kind c.in_ok-number.number) few refl short c.in_ok-number.ensures.spelled)
