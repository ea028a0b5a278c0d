use Rattle.std.proofs.Common.{FitsSigned, inr, rules, subst, ◌∙◌}
use mir.Syntax.{w128}
use Rattle.std.proofs.lemmas.Int.{to_z-of_z}
use Rattle.quick_trees.specs.Pieces.{IsNumberAt, IsInstr}
use Rattle.quick_checks.specs.Checking.{frame_of}
use Rattle.quick_checks.proofs.signs.expect_turned.Goals as goal

pub returns-clause-turns : goal.returns-clause-turns
returns-clause-turns c =
    let fits : FitsSigned w128 c.greatest-greatest.result = search rules in
    let same = to_z-of_z w128 c.greatest-greatest.result fits in λ now. inr (
      c.in_ok-ones.ones,
      (
        subst (λ n. IsNumberAt (frame_of c.args.draft.now now) c.args.from.kind n c.in_ok-ones.ones)
            (same ∙ c.greatest-greatest.ensures) (c.in_ok-ones.ensures now),
        subst (λ o. IsInstr (frame_of c.args.draft.now now) o c.args.at.now.place) c.instr_for.ensures
            (c.in_ok-expect_for.ensures.stands now),
      ),
    )
