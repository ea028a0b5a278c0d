use Rattle.std.proofs.Common.{◌<◌, arith}
use Rattle.std.proofs.lemmas.Option.{slice_get_within}
use Rattle.quick_checks.proofs.members.are_elsewhere.Goals as goal

pub returns : goal.returns
returns c = λ yes j from i e same.
    let h = slice_get_within c.args.inputs.now j i e in
    let inside : j < c.loop-index.index = omega (arith, h, c.loop-index-test.false) in
    c.loop-index.invariant j inside from i e same
