use Rattle.retain_records.specs.RecordLaws.{decoded_of, of_decoded, one_spelling, one_content}
use Rattle.retain_records.proofs.laws.records_have_one_spelling.Goals as goal

pub returns : goal.returns
returns c =
    record { decoded = decoded_of; recorded = of_decoded; one_spelling = one_spelling; one_content = one_content }
