use Rattle.std.proofs.Common.{ap, sym, ◌∙◌, rules}
use mir.Syntax.{w128}
use Rattle.std.specs.Int.RustNames.{FitsSigned, int_rem}
use Rattle.std.proofs.lemmas.Int.{ints, rem_is}
use Rattle.std_blocks.proofs.NumberLemmas.{divides, quotient_fits}
use Rattle.std_blocks.proofs.operators.rest.Goals as goal

pub nonzero_rem-result : goal.nonzero_rem-result
nonzero_rem-result c =
    let x = c.number.result in
    let y = c.number-2.result in
    let fa : FitsSigned w128 x = search (rules, ints) in
    let fb : FitsSigned w128 y = search (rules, ints) in
    divides x y fa fb (λ e. c.requires (sym c.number-2.ensures.number ∙ e))
    (quotient_fits x y c.number.ensures.least c.number.ensures.greatest)

pub returns : goal.returns
returns c =
    let x = c.number.result in
    let y = c.number-2.result in
    let fa : FitsSigned w128 x = search (rules, ints) in
    let fb : FitsSigned w128 y = search (rules, ints) in
    rem_is w128 x y fa fb ∙ ap (λ z. int_rem z y) c.number.ensures.number
    ∙ ap (λ z. int_rem c.args.a.number z) c.number-2.ensures.number
