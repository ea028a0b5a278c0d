use Rattle.retain_records.proofs.SpellingLemmas.{bits_are}
use Rattle.retain_records.proofs.value_bytes.bits.Goals as goal

pub returns-then-number-lt0 : goal.returns-then-number-lt0
returns-then-number-lt0 c =
    bits_are c.args.value c.kind.result c.number-number.result c.span.result c.number-number.ensures.number
    c.number-number.ensures.held c.kind.ensures c.span.ensures.exact c.number-number.ensures.least c.span.ensures.small
    (record { sfits = c.number-number.type_inv }) (record { sfits = c.span.type_inv }) c.if-number-lt0.true
