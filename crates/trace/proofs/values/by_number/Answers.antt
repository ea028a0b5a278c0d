use Rattle.std.proofs.Common.{arith, ap, sym, ◌∙◌, append-nil, []}
use Rattle.st_types.specs.Kinds.{row_of}
use Rattle.st_print.specs.Spelling.{number_text}
use Rattle.trace.proofs.ValueLemmas.{plain_sort, spells_tail}
use Rattle.trace.proofs.values.by_number.Goals as goal

pub returns-in-Signed : goal.returns-in-Signed
returns-in-Signed c = spells_tail c.args.kind c.args.field.now c.args.field.now [] c.value.result
    (omega (arith, c.names-few.ensures, c.names-few.type_inv))
    (λ z. ap (λ s. number_text s (row_of c.args.kind).bits z) (sym c.row.ensures.sort)
    ∙ plain_sort c.row.result.sort (row_of c.args.kind).bits z c.in-Signed.is)
    (sym (append-nil c.args.field.now)) c.value.ensures.spelled c.value.ensures.none
