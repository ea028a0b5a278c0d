use Rattle.std.proofs.Common.{arith, ap, Some}
use Rattle.std.specs.Prelude.{codes}
use Rattle.std.proofs.lemmas.Bool.Decides.{Decides-eqb}
use Rattle.std.proofs.lemmas.Slice.Eq.{strip_suffix_is}
use Rattle.st_types.specs.Kinds.{row_of}
use Rattle.st_print.specs.Spelling.{number_text}
use Rattle.trace.proofs.ValueLemmas.{spells_tail}
use Rattle.trace.proofs.values.duration.Goals as goal

pub returns : goal.returns
returns c = spells_tail c.args.kind c.args.field.now c.in_ok-number.number.now (codes "ms") c.value.result
    (omega (arith, c.names-few.ensures, c.names-few.type_inv))
    (λ z. ap (λ s. number_text s (row_of c.args.kind).bits z) c.requires)
    (strip_suffix_is Decides-eqb c.args.field.now (codes "ms") (Some c.in_ok-number.number) c.in_ok-number.ensures.cases)
    c.value.ensures.spelled c.value.ensures.none
