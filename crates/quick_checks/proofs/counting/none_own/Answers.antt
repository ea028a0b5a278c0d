use Rattle.std.proofs.Common.{rules, ◌≡◌, ◌<◌, arith, map, true}
use Rattle.std.specs.Prelude.{Some, slice_get}
use Rattle.std.proofs.lemmas.Option.{slice_get_within}
use Rattle.quick_checks.specs.Checking.{seat_of}
use Rattle.quick_checks.proofs.Arguments.{long_seats}
use Rattle.quick_checks.proofs.Below.{one_more}
use Rattle.quick_checks.proofs.counting.none_own.Goals as goal

pub loop-index-preserved : goal.loop-index-preserved
loop-index-preserved c = one_more (λ j. slice_get (map seat_of c.args.seats.now) j
    ≡ Some (record { word = c.args.word; is_own = true }) → ⊥) _ c.loop-index.invariant
    (c.if-not-is_other.ensures (search rules))

pub returns : goal.returns
returns c = λ yes j e.
    let h = slice_get_within (map seat_of c.args.seats.now) j _ e in
    let long = long_seats c.args.seats.now in
    let inside : j < c.loop-index.index = omega (arith, h, long, c.loop-index-test.false) in
    c.loop-index.invariant j inside e
