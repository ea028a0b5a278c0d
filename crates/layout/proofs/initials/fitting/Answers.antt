use Rattle.std.proofs.Common.{ap, sym, ◌∙◌}
use Rattle.st_meaning.specs.Operators.{value_of_literal, value_of_number}
use Rattle.layout.specs.Sites.{fitting}
use Rattle.layout.proofs.InitialLemmas.{ran_ok}
use Rattle.layout.proofs.initials.fitting.Goals as goal

pub returns-in-Ok : goal.returns-in-Ok
returns-in-Ok c =
    c.fitted.ensures
    ∙ ap (fitting c.args.kind) (sym (ap value_of_literal c.in-Number.is
    ∙ ran_ok (value_of_number c.in-Number.number) c.in-Ok.value (sym c.value_of_number.ensures ∙ c.in-Ok.is)))
