use Rattle.std.proofs.Common.{rules, ◌≡◌, ◌+◌, ◌<◌, arith}
use Rattle.std.specs.Prelude.{Some, slice_get}
use Rattle.std.proofs.lemmas.Option.{slice_get_within}
use Rattle.st_types.specs.declared.kind.Kind.{Kind}
use Rattle.quick_checks.specs.Checking.{frame_of}
use Rattle.quick_checks.specs.Members.{IsMember}
use Rattle.quick_checks.proofs.Below.{one_more}
use Rattle.quick_checks.proofs.members.are_kinds.Goals as goal

pub loop-index-preserved : goal.loop-index-preserved
loop-index-preserved c = one_more (λ k. (t : Kind) → slice_get c.args.kinds.now k ≡ Some t
    → IsMember (frame_of c.args.draft.now 0) (c.args.first + k) (c.args.word + k) t) _ c.loop-index.invariant
    (c.if-not-is_of.ensures (search rules))

pub returns : goal.returns
returns c = λ yes k t e.
    let h = slice_get_within c.args.kinds.now k t e in
    let inside : k < c.loop-index.index = omega (arith, h, c.loop-index-test.false) in
    c.loop-index.invariant k inside t e
