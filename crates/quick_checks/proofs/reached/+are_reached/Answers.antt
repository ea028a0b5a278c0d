use Rattle.std.proofs.Common.{ℕ, ◌+◌, ◌*◌, arith, map, refl, rules, subst}
use Rattle.slot_trees.specs.Chains.{subscripts_of}
use Rattle.slot_trees.specs.ExpressionViews.{subscript_view}
use Rattle.quick_trees.specs.Pieces.{IsOffset}
use Rattle.quick_checks.specs.Checking.{frame_of, site_of}
use Rattle.quick_checks.specs.Within.{IsReached}
use Rattle.quick_checks.proofs.Below.{one_more}
use Rattle.quick_checks.proofs.Leading.{leads_here, leads_on}
use Rattle.quick_checks.proofs.reached.+are_reached.Goals as goal

pub returns-then-is_empty : goal.returns-then-is_empty
returns-then-is_empty t c = λ yes now. leads_here
    (λ n. IsReached (frame_of c.args.draft.now now) (site_of c.args.values.now) c.args.at.now.noted.items
    (c.args.array.slot + n) (c.args.array.word + n) c.args.array.kind) c.args.subscripts.now c.args.offset
    (search rules) (c.is_reached.ensures yes now)

pub are_reached-requires : goal.are_reached-requires
are_reached-requires t c = (omega (arith, c.in-Some.ensures.cases.1), tt)

pub loop-index-preserved : goal.loop-index-preserved
loop-index-preserved t c = λ now. one_more (λ j. (r : ℕ)
    → IsOffset (subscripts_of (map subscript_view c.in-Some.rest.now)) r
    → IsReached (frame_of c.args.draft.now now) (site_of c.args.values.now) c.args.at.now.noted.items
    (c.args.array.slot + (c.args.offset + j * c.in-Some.subscript.now.stride + r))
    (c.args.array.word + (c.args.offset + j * c.in-Some.subscript.now.stride + r)) c.args.array.kind) _
    (c.loop-index.invariant now)
    (λ r leads. subst (λ x. IsReached (frame_of c.args.draft.now now) (site_of c.args.values.now)
    c.args.at.now.noted.items (c.args.array.slot + (x + r)) (c.args.array.word + (x + r)) c.args.array.kind)
    c.in-Some-element_at.ensures
    (c.if-not-are_reached.ensures (search rules) now r (c.in-Some-element_at.element + r) leads refl))

pub returns : goal.returns
returns t c = λ yes now. leads_on
    (λ n. IsReached (frame_of c.args.draft.now now) (site_of c.args.values.now) c.args.at.now.noted.items
    (c.args.array.slot + n) (c.args.array.word + n) c.args.array.kind) c.args.subscripts.now c.in-Some.subscript.now
    c.in-Some.rest.now c.args.offset c.in-Some.ensures.cases.0
    (λ j r lt leads. c.loop-index.invariant now j (omega (arith, lt)) r leads)
