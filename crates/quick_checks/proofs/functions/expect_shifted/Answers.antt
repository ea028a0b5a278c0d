use Rattle.std.proofs.Common.{◌≡◌, ◌<◌, arith, subst, to_z}
use Rattle.std.specs.Int.{w128}
use Rattle.std.proofs.lemmas.Int.{to_z_pos}
use Rattle.st_types.specs.Kinds.{row_of}
use Rattle.quick_trees.specs.Pieces.{IsNumberAt, IsInstr}
use Rattle.quick_checks.specs.Checking.{frame_of}
use Rattle.quick_checks.proofs.functions.expect_shifted.Goals as goal

pub returns : goal.returns
returns c =
    let value = c.in-Some-Some.value in
    let count = c.in-Some-Some.count in
    let places = c.in-Some-Some.places in
    let at : c.in_ok-place.place ≡ count.word = c.if-place-count.false in
    let width : c.in-Some.width ≡ (row_of value.kind).bits = c.in-Some.ensures.bits in
    let less : places < c.in-Some.width = omega (arith, c.if-places-width.false) in
    let few = c.in-Some.ensures.few in
    let number = to_z_pos w128 places (omega (arith, few)) in
    λ now. record {
      word = value.word;
      kind = count.kind;
      count = count.word;
      arguments = c.in-Some-Some.ensures;
      places = places;
      is_count = subst (λ n. IsNumberAt (frame_of c.args.draft.now now) count.kind n count.word) number
          (subst (IsNumberAt (frame_of c.args.draft.now now) count.kind (to_z w128 places)) at
          (c.in_ok-place.ensures now));
      few = subst (λ n. places < n) width less;
      stands = subst (λ o. IsInstr (frame_of c.args.draft.now now) o c.args.at.now.place) c.by_bits.ensures
          (c.in_ok-expect_for.ensures.stands now);
      is = c.in_ok-expect_for.ensures.next;
    }
