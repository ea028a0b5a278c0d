use Rattle.std.proofs.Common.{◌≡◌, arith}
use Rattle.st_types.specs.Kinds.{row_of}
use Rattle.quick_checks.proofs.turning.expect_shifted_up.Goals as goal

pub returns : goal.returns
returns c =
    let value = c.in-Some.value in
    let width : c.in-Some-Some.width ≡ (row_of value.kind).bits = c.in-Some-Some.ensures.bits in
    λ now. record {
      word = value.word;
      kind = c.in-Some.count.kind;
      count = c.in-Some.count.word;
      arguments = c.in-Some.ensures;
      places = c.in-Some-Some.places;
      is_count = c.in-Some-Some.ensures' now;
      few = omega (arith, width, c.if-places-width.false);
      moves = c.in_ok-expect_moved_up.ensures now;
    }
