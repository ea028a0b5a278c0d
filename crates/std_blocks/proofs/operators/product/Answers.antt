use Rattle.std.proofs.Common.{sym, rules, subst, ◌∙◌, ap}
use mir.Syntax.{w128}
use mir.Val.{to_z, of_z}
use Rattle.std.specs.Prelude.{ℤ, ◌*ℤ◌}
use Rattle.std.specs.Int.RustNames.{FitsSigned}
use Rattle.std.proofs.lemmas.Int.{ints, to_z-of_z}
use Rattle.std_blocks.proofs.NumberLemmas.{beyond_each_type}
use Rattle.std_blocks.proofs.operators.product.Goals as goal

abbrev mir_of : ℤ → ℤ
mir_of z = to_z w128 (of_z w128 z)

pub returns-in-None : goal.returns-in-None
returns-in-None c =
    let fa : FitsSigned w128 c.number.result = search (rules, ints) in
    let fb : FitsSigned w128 c.number-2.result = search (rules, ints) in
    let fl : FitsSigned w128 c.least.result = search (rules, ints) in
    let fg : FitsSigned w128 c.greatest.result = search (rules, ints) in
    let a = to_z-of_z w128 c.number.result fa ∙ c.number.ensures.number in
    let b = to_z-of_z w128 c.number-2.result fb ∙ c.number-2.ensures.number in
    let F : ℤ → Type 0 = λ z. FitsSigned w128 z in
    sym (beyond_each_type c.args.kind (c.args.a.number *ℤ c.args.b.number) (subst F c.least.ensures fl)
    (subst F c.greatest.ensures fg)
    (λ f. c.in-None.ensures (subst F (sym (ap (λ x. x *ℤ mir_of c.number-2.result) a
    ∙ ap (λ y. c.args.a.number *ℤ y) b)) f)))
