use Rattle.std.proofs.Common.{◌≡◌, ◌+◌, ◌-◌, [], ◌∷◌, length, arith, refl, rules}
use Rattle.slot_trees.specs.StatementViews.{slot_argument_view}
use Rattle.machine_code.specs.Codes.{given_members}
use Rattle.st_compile.proofs.Behind.{members_behind}
use Rattle.st_compile.proofs.Elements.{member_below}
use Rattle.st_compile.proofs.Joints.{too_long}
use Rattle.st_compile.proofs.units.put_members.Goals as goal

pub returns-then-slot-ge-MAX_MEMORY-clause-room : goal.returns-then-slot-ge-MAX_MEMORY-clause-room
returns-then-slot-ge-MAX_MEMORY-clause-room c = λ _ below.
    let w = member_below (65536 - c.args.first) c.args.arguments.now (c.loop-left.left - 1) c.in-Given.member
    c.index-arguments-left.result c.in-Given.field-1 (omega arith) c.index-arguments-left.is c.in-Given.is below in
    omega (arith, w)

pub returns-in_err-put-clause-full : goal.returns-in_err-put-clause-full
returns-in_err-put-clause-full c =
    let a = c.index-arguments-left.result in
    let b = members_behind c.args.arguments.now (c.loop-left.left - 1) c.loop-left.left a (omega arith) (omega arith)
    c.index-arguments-left.is in
    let one : length (given_members (slot_argument_view a ∷ [])) ≡ 1 = rw c.in-Given.is refl in
    too_long _ c.in_err-put.field-0.0 _ _ c.in_err-put.ensures.full
    (omega (arith, c.loop-left.invariant.long, b, one)) (search rules)
