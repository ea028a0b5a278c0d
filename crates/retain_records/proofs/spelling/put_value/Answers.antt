use Rattle.std.proofs.Common.{take}
use Rattle.retain_records.proofs.SpellingLemmas.{value_written}
use Rattle.retain_records.proofs.spelling.put_value.Goals as goal

pub returns-clause-front : goal.returns-clause-front
returns-clause-front c = value_written c.args.value c.kind.result c.width.result c.bits.result
    c.to_be_bytes-bytes.result (take c.args.at c.args.buffer.now) _ c.kind.ensures c.width.ensures.exact c.bits.ensures
    c.to_be_bytes-bytes.ensures c.put.ensures.front
