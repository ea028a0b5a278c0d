use Rattle.std.proofs.Common.{◌≡◌, ◌∙◌, sym, rules}
use Rattle.std.specs.Prelude.{codes}
use Rattle.trace.proofs.HeadLemmas.{moment_is, none_is}
use Rattle.trace.proofs.head.moment_of.Goals as goal

pub returns-then-eq : goal.returns-then-eq
returns-then-eq c =
    let is : c.args.field.now ≡ codes "none" = search rules in ((tt, is), λ m early e. none_is m early (sym is ∙ e))

pub returns : goal.returns
returns c = (
  (c.in_ok-moment.ensures.limit, c.in_ok-moment.ensures.spelled),
  λ m early e. moment_is c.in_ok-moment.moment c.in_ok-moment.ensures.limit m early
      (sym c.in_ok-moment.ensures.spelled ∙ e),
)
