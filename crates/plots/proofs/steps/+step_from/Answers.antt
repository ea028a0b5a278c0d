use Rattle.std.proofs.Common.{◌*◌, arith, suc, sym, ◌∙◌, ap, rules}
use Rattle.std.proofs.Math.Nat.{pow-suc}
use Rattle.plots.proofs.StepLemmas.{has_ten}
use Rattle.plots.proofs.steps.+step_from.Goals as goal

pub step_from-requires : goal.step_from-requires
step_from-requires t c =
    let (k, is) = c.requires.power in
    let within = has_ten c.from-span_wide.result c.args.unit c.from-most_wide.result
    (omega (arith, c.requires.some, c.from-most_wide.ensures)) c.if-span_wide-unit-3.false in (
      search rules,
      (
        c.requires.some,
        (
          omega (arith, c.requires.unit),
          (
            (suc k, ap (λ n. n * 10) is ∙ sym (pow-suc 10 k)),
            omega (arith, within, c.from-span_wide.ensures, c.ranges.span.fits),
          ),
        ),
      ),
    )
